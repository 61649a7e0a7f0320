use Rattle.std.proofs.Common.{length, ◌-◌, ◌≡◌, ◌↔◌, ◌⊎◌, ℕ, List, ◌≤◌, drop}
use Rattle.std.specs.Int.{bit_at}
use Rattle.rfccase.specs.declared.casemappings.Casemapping.{Casemapping}
use Rattle.wildmask.specs.Codes.{items_in}
use Rattle.wildmask.specs.Matching.{Matches}
use Rattle.wildmask.specs.Walks.{MatchesFrom}
use Rattle.wildmask.proofs.WalkLemmas.{IsClosedBut}
use Rattle.wildmask.proofs.walks.with_skipped.Given as goal

-- the places put in so far add what the items from the first of them on match, and the last of them is the one to go on from
abbrev pub invariant-loop-last : goal.invariant-loop-last
invariant-loop-last l =
    record {
      within : l.last ≤ length l.codes;
      on : bit_at l.places.bits l.last ≡ 1;
      closed : IsClosedBut l.last (items_in l.codes) l.places.bits;
      same : (mapping : Casemapping) (text : List ℕ) → MatchesFrom mapping 0 (items_in l.codes) l.places.bits text
          ↔ (MatchesFrom mapping 0 (items_in l.codes) l.fn.places.bits text ⊎ Matches mapping (drop l.at (items_in l.codes)) text);
    }

abbrev pub decreases-loop-last : goal.decreases-loop-last
decreases-loop-last l = length l.codes - l.last
