use Rattle.std.proofs.Common.{◌↔◌, ◌⊎◌, ℕ, List, ◌∷◌, ◌+◌, ◌-◌, ◌≤◌, length}
use Rattle.wildmask.specs.Codes.{items_in}
use Rattle.wildmask.specs.Walks.{MatchesFrom, IsClosed}
use Rattle.wildmask.proofs.WalkLemmas.{StarsCover}
use Rattle.wildmask.proofs.walks.step.Given as goal

-- the places that are left and those after the byte match what the places did before it
abbrev pub invariant-loop-at : goal.invariant-loop-at
invariant-loop-at l =
    record {
      within : l.from ≤ length l.codes;
      counted : l.count.steps ≤ l.fn.count.steps + l.from;
      closed : IsClosed (items_in l.codes) l.after.bits;
      cover : StarsCover l.mapping l.from (items_in l.codes) l.after.bits;
      same : (text : List ℕ) → MatchesFrom l.mapping 0 (items_in l.codes) l.places.bits (l.byte ∷ text)
          ↔ (MatchesFrom l.mapping l.from (items_in l.codes) l.places.bits (l.byte ∷ text) ⊎ MatchesFrom l.mapping 0 (items_in l.codes) l.after.bits text);
    }

abbrev pub decreases-loop-at : goal.decreases-loop-at
decreases-loop-at l = length l.codes - l.from
