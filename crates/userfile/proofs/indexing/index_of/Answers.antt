use Rattle.std.proofs.Common.{◌≡◌, ◌<◌, ◌+◌, add-one, length, sym, subst, arith}
use Rattle.std.proofs.lemmas.List.{length-map}
use Rattle.indexmap.specs.IndexMap.{values}
use Rattle.userfile.specs.Index.{AreUnder, masks_at}
use Rattle.userfile.proofs.EntryLemmas.{Entry}
use Rattle.userfile.proofs.IndexLemmas.{Covers-next}
use Rattle.userfile.proofs.indexing.index_of.Goals as goal

pub loop-place-preserved : goal.loop-place-preserved
loop-place-preserved c =
    let us = values c.args.users.now in
    let i = c.loop-place.place in
    let new = c.add_masks.new.index in
    let lt : i < length us = omega (arith, c.loop-place-test.true, c.len-place-end.ensures.len, length-map c.args.users.now.entries (λ (e : Entry). e.1)) in
    let place : i ≡ i + 0 = omega arith in
    let under = subst (AreUnder new i) c.masks_at.ensures c.in_ok-add_masks.ensures.ok in
    record {
      covers = rw add-one
          (Covers-next c.loop-place.index new c.add_masks.ensures.kept us 0 i lt (subst (λ k. AreUnder new k (masks_at us i)) place under)
          c.loop-place.invariant.covers);
      names = c.add_masks.ensures.names us (sym c.masks_at.ensures) c.loop-place.invariant.names;
    }
