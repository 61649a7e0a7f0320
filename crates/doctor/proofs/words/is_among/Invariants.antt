use Rattle.std.proofs.Common.{◌≡◌, map}
use Rattle.std.specs.List.{list_any}
use Rattle.doctor.specs.Words.{is_number}
use Rattle.doctor.proofs.words.is_among.Given as goal

-- whether one of the words so far was the number
abbrev pub invariant-loop-word : goal.invariant-loop-word
invariant-loop-word l = l.is_there ≡ list_any (is_number l.fn.number) (map (λ word. word.now) l.yielded)
