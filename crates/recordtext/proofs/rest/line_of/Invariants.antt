use Rattle.std.proofs.Common.{◌≡◌, ◌∷◌, map, take}
use Rattle.recordtext.specs.Words.{line_of}
use Rattle.recordtext.proofs.rest.line_of.Given as goal

abbrev pub invariant-loop-word : goal.invariant-loop-word
invariant-loop-word l = l.line.items ≡ line_of (l.first ∷ map (λ word. word.now) (take l.word-index l.rest))
