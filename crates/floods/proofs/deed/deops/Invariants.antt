use Rattle.std.proofs.Common.{◌≡◌, ◌≤◌, ◌+◌, drop}
use Rattle.floods.specs.Acts.{deops, deops_from}
use Rattle.floods.proofs.deed.deops.Given as goal

-- those so far and those of the rest are all
abbrev pub invariant-loop-letter : goal.invariant-loop-letter
invariant-loop-letter l = record {
  few : l.count ≤ l.letter-index;
  all : l.count + deops_from l.minus (drop l.letter-index l.letters) ≡ deops l.letters;
}
