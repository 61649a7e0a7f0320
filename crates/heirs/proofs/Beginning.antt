-- An heir's processes stand for its history.
use Rattle.std.proofs.Common.{◌≡◌, ℕ, zero, suc, ◌≤◌, List, [], ◌∷◌, length, slice_get, Some, refl, ap, sym, subst, ◌∙◌, arith}
use Rattle.std.proofs.lemmas.Option.{slice_get_within}
use Rattle.userfile.specs.Records.{Records}
use Rattle.protocol.specs.Packets.{AcceptedChange}
use Rattle.protocol.specs.History.{records_of}
use Rattle.protocol.specs.Soundness.{IsSound}
use Rattle.protocol.specs.Network.{new_leaf, new_leaves}
use Rattle.protocol.specs.Ends.{End, AtHub, AtLeaf, new_end}
use Rattle.protocol.specs.Nets.{leaf_ends}
use Rattle.botcore.specs.Bots.{Bot}
use Rattle.botworld.specs.declared.sent.Sent.{Sent}
use Rattle.processes.specs.Deeds.{Process, Net, IsNew}
use Rattle.processes.specs.Standing.{HoldsAbove, HasEnd, IsAt, AreAmong, Stands}
use Rattle.heirs.specs.Beginnings.{heir_hub, heir_start}
use Rattle.heirs.specs.Heirs.{IsHeir}
use Rattle.heirs.proofs.Histories.{heir_moment, new_leaf-at, no_replies-length}

-- the link of a leaf that runs as it was made
record IsNewLeaf (count place : ℕ) (bot : Bot) : Type 0 where
  number : bot.link.number ≡ suc place
  leaves : bot.link.leaves ≡ count
  end : bot.link.end ≡ AtLeaf new_leaf

new_leaf_of : (count place : ℕ) (process : Process) (new : IsNew count (suc place) process) → IsNewLeaf count place new.bot
new_leaf_of count place process new = record {
  number = ap (λ (b : Bot). b.link.number) new.made ∙ new.number;
  leaves = ap (λ (b : Bot). b.link.leaves) new.made ∙ new.leaves;
  end = ap (λ (b : Bot). b.link.end) new.made ∙ ap (λ n. new_end n new.bot.config.leaves) new.number;
}

module _ (count version : ℕ) (records : Records) (w : Net) (is : IsHeir count version records w) (changes : List AcceptedChange)
    (many : length changes ≡ version) (are : records ≡ records_of changes version) (sound : IsSound (heir_start count changes)) where
  abbrev ends : List End
  ends = AtHub (heir_hub count version is.generation records) ∷ leaf_ends (new_leaves count)

  each : (place : ℕ) (process : Process) → slice_get w.processes place ≡ Some process
      → IsAt (heir_start count changes) ends place process
  each zero process at =
      let both : Some is.hub ≡ Some process = sym is.at ∙ at in
      let same : is.hub ≡ process = cc in
      record {
        link = is.link;
        at = ap (λ (e : End). Some e) (sym is.end);
        number = is.number;
        leaves = is.leaves;
        holds = subst (HoldsAbove 0 count) (sym is.end) (no_replies-length count);
        has = subst (HasEnd is.link) same is.has;
      }
  each (suc place) process at =
      let new = is.all_new place process at in
      let leaf = new_leaf_of count place process new in
      let within : suc place ≤ count = omega (arith, slice_get_within w.processes (suc place) process at, is.many) in
      record {
        link = new.bot.link;
        at = new_leaf-at count place within ∙ ap (λ (e : End). Some e) (sym leaf.end);
        number = leaf.number;
        leaves = leaf.leaves;
        holds = subst (HoldsAbove 0 count) (sym leaf.end) (record { last = omega arith; out = tt });
        has = subst (HasEnd new.bot.link) (sym new.runs) refl;
      }

  pub heir_begins : Stands w (heir_start count changes)
  heir_begins = record {
    ends = ends;
    packets = [];
    moment = heir_moment count version is.generation records changes many are sound;
    many = is.many;
    told = subst (λ (ps : List Sent). AreAmong ps []) (sym is.packets) tt;
    each = each;
  }
