use Rattle.std.proofs.Common.{◌↔◌, ◌+◌, ◌-◌, ◌*◌, ◌≤◌, List, ◌∷◌, ◌++◌, length}
use Rattle.wildmask.specs.declared.items.Item.{Item}
use Rattle.wildmask.specs.declared.items.Item.TheVariants.{AnyText}
use Rattle.wildmask.specs.Codes.{items_in}
use Rattle.wildmask.specs.Matching.{Matches}
use Rattle.wildmask.proofs.runs.after_run.Given as goal

-- the run takes no piece that begins before what is left
abbrev pub invariant-loop-rest : goal.invariant-loop-rest
invariant-loop-rest l =
    record {
      shorter : length l.rest ≤ length l.text;
      counted : l.count.steps ≤ l.fn.count.steps + length l.run * (length l.text - length l.rest);
      same : (items : List Item) → Matches l.mapping (AnyText ∷ items_in l.run ++ items) l.text ↔ Matches l.mapping (AnyText ∷ items_in l.run ++ items) l.rest;
    }

abbrev pub decreases-loop-rest : goal.decreases-loop-rest
decreases-loop-rest l = length l.rest
