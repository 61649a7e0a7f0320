use Rattle.std.proofs.Common.{◌≡◌, false, map}
use Rattle.std.specs.List.{list_any}
use Rattle.std.specs.Str.{bytes_eq}
use Rattle.chanstate.proofs.capabilities.has_word.Given as goal

-- no piece so far is the word
abbrev pub invariant-loop-piece : goal.invariant-loop-piece
invariant-loop-piece l = list_any (λ piece. bytes_eq piece l.word) (map (λ x. x.now) l.yielded) ≡ false
