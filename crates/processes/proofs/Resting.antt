-- An end that was opened, or opened and put anew, is found so by the next restart.
use Rattle.std.proofs.Common.{◌≡◌, ℕ, Bool, true, false, nat_lt, [], None, refl, ap}
use Rattle.std.specs.Prelude.{if◌then◌else◌}
use Rattle.protocol.specs.Numbers.{last_number}
use Rattle.protocol.specs.Notes.Note.{Compacted}
use Rattle.protocol.specs.Notes.LinkFault.{NumbersSpent}
use Rattle.protocol.specs.Bots.{How, Works, Fails, Counts, Row, counted, journals, refused}
use Rattle.protocol.specs.HubRules.{Hub, HubState, Rebase, hub_folded}
use Rattle.protocol.specs.LeafRules.{Leaf, LeafState, Compact, leaf_folded, no_loose}
use Rattle.protocol.specs.Network.{hub_event, leaf_event}
use Rattle.protocol.specs.Network.Event.{Compact as compacts, Restart as restarts}
use Rattle.protocol.specs.Ends.{End as LinkEnd, AtHub, AtLeaf, end_did}

-- what a call leaves that is the one row or the other stays, where it stays after each of them
stays_if : {S : Type 0} (again : S → S) (b : Bool) (one other : Row S) → again one.after ≡ one.after
    → again other.after ≡ other.after → again (if b then one else other).after ≡ (if b then one else other).after
stays_if again true one other first second = first
stays_if again false one other first second = second

module _ (leaves number : ℕ) where
  -- a hub that was opened, and then compacted
  abbrev hub_opened : HubState → Hub
  hub_opened kept = record { kept = kept; loose = []; down = false; doubt = None }

  hub_rests : (kept : HubState)
      → (hub_event leaves Works (hub_event leaves Works (hub_opened kept) compacts).after restarts).after
      ≡ (hub_event leaves Works (hub_opened kept) compacts).after
  hub_rests kept =
      stays_if (λ (hub : Hub). (hub_event leaves Works hub restarts).after) (nat_lt kept.generation last_number)
      (journals hub_folded Works (hub_opened kept) Rebase Compacted [] []) (refused NumbersSpent (hub_opened kept)) refl refl

  -- a leaf
  abbrev leaf_opened : LeafState → Leaf
  leaf_opened kept = record { kept = kept; loose = no_loose; down = false; doubt = None }

  leaf_rests : (kept : LeafState)
      → (leaf_event leaves Works number (leaf_event leaves Works number (leaf_opened kept) compacts).after restarts).after
      ≡ (leaf_event leaves Works number (leaf_opened kept) compacts).after
  leaf_rests kept =
      stays_if (λ (leaf : Leaf). (leaf_event leaves Works number leaf restarts).after) (nat_lt kept.generation last_number)
      (journals leaf_folded Works (leaf_opened kept) Compact Compacted [] no_loose) (refused NumbersSpent (leaf_opened kept))
      refl refl

  -- a restart that finds an end, and a compaction then
  pub rests_anew : (how : How) (e : LinkEnd) → (how ≡ Fails → ⊥)
      → (end_did leaves number Works (end_did leaves number Works (end_did leaves number how e restarts).after compacts).after
      restarts).after ≡ (end_did leaves number Works (end_did leaves number how e restarts).after compacts).after
  rests_anew Works (AtHub hub) works = ap (λ (h : Hub). AtHub h) (hub_rests hub.kept)
  rests_anew Works (AtLeaf leaf) works = ap (λ (l : Leaf). AtLeaf l) (leaf_rests leaf.kept)
  rests_anew Counts (AtHub hub) works = ap (λ (h : Hub). AtHub h) (hub_rests (counted hub_folded hub.kept hub.doubt))
  rests_anew Counts (AtLeaf leaf) works = ap (λ (l : Leaf). AtLeaf l) (leaf_rests (counted leaf_folded leaf.kept leaf.doubt))
  rests_anew Fails e works = absurd (works refl)

  -- a restart that finds an end, and another restart
  pub rests : (how : How) (e : LinkEnd) → (how ≡ Fails → ⊥)
      → (end_did leaves number Works (end_did leaves number how e restarts).after restarts).after
      ≡ (end_did leaves number how e restarts).after
  rests Works (AtHub hub) works = refl
  rests Works (AtLeaf leaf) works = refl
  rests Counts (AtHub hub) works = refl
  rests Counts (AtLeaf leaf) works = refl
  rests Fails e works = absurd (works refl)
