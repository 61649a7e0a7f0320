use Rattle.std.proofs.Common.{◌↔◌, ◌+◌, ◌≤◌, length}
use Rattle.wildmask.specs.Codes.{items_in}
use Rattle.wildmask.specs.Matching.{Matches}
use Rattle.wildmask.specs.Walks.{AllLower}
use Rattle.wildmask.proofs.runs.after_first_run.Given as goal

-- what is left of the items and of the text matches where all of them do
abbrev pub invariant-loop-item : goal.invariant-loop-item
invariant-loop-item l =
    record {
      matches : Matches l.mapping (items_in l.codes) l.text ↔ Matches l.mapping (items_in l.left) l.rest;
      lower : AllLower l.mapping (items_in l.left);
      fewer : length l.left ≤ length l.codes;
      shorter : length l.rest ≤ length l.text;
      counted : l.count.steps + length l.left ≤ l.fn.count.steps + length l.codes;
    }

abbrev pub decreases-loop-item : goal.decreases-loop-item
decreases-loop-item l = length l.left
