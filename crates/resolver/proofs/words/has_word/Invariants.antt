use Rattle.std.proofs.Common.{◌≡◌, map}
use Rattle.std.specs.Str.{bytes_eq}
use Rattle.std.specs.List.{list_any}
use Rattle.resolver.specs.Replies.{folded}
use Rattle.resolver.proofs.words.has_word.Given as goal

-- whether one of the words so far was it
abbrev pub invariant-loop-other : goal.invariant-loop-other
invariant-loop-other l = l.has ≡ list_any (λ other. bytes_eq (folded other) (folded l.word)) (map (λ x. x.now) l.yielded)
