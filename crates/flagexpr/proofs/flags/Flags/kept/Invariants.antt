use Rattle.std.proofs.Common.{◌≡◌, take}
use Rattle.std.specs.List.{filter}
use Rattle.flagexpr.specs.Letters.{has_letter}
use Rattle.flagexpr.proofs.flags.Flags.kept.Given as goal

-- those of the letters so far that are in the set are kept
abbrev pub invariant-loop-letter : goal.invariant-loop-letter
invariant-loop-letter l = l.kept.items ≡ filter (has_letter l.self) (take l.letter-index l.letters)
