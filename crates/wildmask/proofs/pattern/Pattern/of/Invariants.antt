use Rattle.std.proofs.Common.{◌≡◌, ◌≤◌, ◌+◌, ◌++◌, length, take, map}
use Rattle.wildmask.specs.Codes.{items_in, lower}
use Rattle.wildmask.specs.Items.{items_of}
use Rattle.wildmask.proofs.pattern.Pattern.of.Given as goal

-- the items so far and those of what is left are all
abbrev pub invariant-loop-item : goal.invariant-loop-item
invariant-loop-item l =
    record {
      held : length l.codes ≡ 120;
      room : l.len + length l.rest ≤ 120;
      all : items_in (take l.len l.codes) ++ map (lower l.mapping) (items_of l.kind l.rest) ≡ map (lower l.mapping) (items_of l.kind l.text);
    }

abbrev pub decreases-loop-item : goal.decreases-loop-item
decreases-loop-item l = length l.rest
