use Rattle.std.proofs.Common.{◌≡◌, ◌∷◌, drop}
use Rattle.rfccase.specs.Casemapping.{folded}
use Rattle.wildmask.specs.Signatures.{either, every, pairs_of, text_signature}
use Rattle.wildmask.proofs.signatures.Signature.of.Given as goal

-- the pairs so far and those of what is left, from the byte before it on, are all
abbrev pub invariant-loop-byte : goal.invariant-loop-byte
invariant-loop-byte l = either l.pairs (pairs_of every (l.before ∷ folded (drop l.byte-index l.rest))) ≡ text_signature l.text
