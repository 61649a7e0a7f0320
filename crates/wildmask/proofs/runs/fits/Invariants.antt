use Rattle.std.proofs.Common.{◌+◌, ◌≤◌, drop, length}
use Rattle.wildmask.specs.Codes.{items_in}
use Rattle.wildmask.specs.Matching.{Matches}
use Rattle.wildmask.proofs.runs.fits.Given as goal

-- the items from the last one compared on match the bytes from there on
abbrev pub invariant-loop-left : goal.invariant-loop-left
invariant-loop-left l =
    record {
      within : l.left ≤ length l.codes;
      counted : l.count.steps + l.left ≤ l.fn.count.steps + length l.codes;
      matched : Matches l.mapping (drop l.left (items_in l.codes)) (drop l.left l.text);
    }

abbrev pub decreases-loop-left : goal.decreases-loop-left
decreases-loop-left l = l.left
