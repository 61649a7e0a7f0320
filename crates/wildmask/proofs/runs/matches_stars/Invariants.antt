use Rattle.std.proofs.Common.{◌↔◌, ◌+◌, ◌-◌, ◌*◌, ◌≤◌, length}
use Rattle.wildmask.specs.Codes.{items_in}
use Rattle.wildmask.specs.Matching.{Matches}
use Rattle.wildmask.specs.Walks.{AllLower}
use Rattle.wildmask.proofs.runs.matches_stars.Given as goal

-- the items that are left match what is left of the text where all match all of it
abbrev pub invariant-loop-run : goal.invariant-loop-run
invariant-loop-run l =
    record {
      fewer : length l.left ≤ length l.codes;
      shorter : length l.rest ≤ length l.text;
      lower : AllLower l.mapping (items_in l.left);
      counted : l.count.steps ≤ l.fn.count.steps + length l.codes * (length l.text - length l.rest);
      same : Matches l.mapping (items_in l.codes) l.text ↔ Matches l.mapping (items_in l.left) l.rest;
    }

abbrev pub decreases-loop-run : goal.decreases-loop-run
decreases-loop-run l = length l.left
