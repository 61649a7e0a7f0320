use Rattle.std.proofs.Common.{◌∙◌, ◌+◌, ap, sym, subst, Some, is_some, if◌then◌else◌}
use Rattle.rfccase.specs.Casemapping.{folded_by}
use Rattle.indexmap.specs.IndexMap.{index_map_len}
use Rattle.chanstate.specs.Seats.{IsIndexedNext, IsChanged, place_under}
use Rattle.chanstate.proofs.SeatLemmas.{changed-by}
use Rattle.chanstate.proofs.room.index_next.Goals as goal

pub returns-in_ok-insert : goal.returns-in_ok-insert
returns-in_ok-insert c =
    let es = c.args.index.now.entries in
    let fs = c.insert.new.self.entries in
    let n = index_map_len c.args.index.now in
    let k = index_map_len c.insert.new.self in
    let m = c.in-Some.member in
    let key = c.in_ok-key.key in
    let key-is = c.in_ok-key.ensures ∙ ap (folded_by c.args.mapping) c.as_bytes.ensures in
    let updates = c.in_ok-insert.ensures.updates in
    let change = changed-by key.items (Some c.len-at.result) es fs updates.1 updates.3 in
    subst (λ p. IsIndexedNext c.args.mapping p n es k fs) (sym c.in-Some.is) (
      subst (λ w. IsChanged (folded_by c.args.mapping m.nick) (Some w) es fs) c.len-at.ensures.len (subst (λ l. IsChanged l (Some c.len-at.result) es fs) key-is change),
      c.in_ok-insert.ensures.len ∙ ap (λ o. n + (if is_some o then 0 else 1)) (c.in_ok-insert.ensures.old ∙ ap (λ l. place_under l es) key-is),
    )
