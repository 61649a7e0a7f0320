use Rattle.std.proofs.Common.{◌≡◌, List, ℕ, ◌∷◌, drop}
use Rattle.rfccase.specs.Casemapping.{folded}
use Rattle.wildmask.specs.Signatures.{Sums, Pairs, either, pairs_of}
use Rattle.wildmask.specs.WideSignatures.{is_low, is_high}
use Rattle.wildmask.proofs.wide_signatures.WideSignature.of.Given as goal

-- the pairs so far and those of what is left, from the byte before it on, are all
abbrev AreAll : Sums → Pairs → List ℕ → List ℕ → Type 0
AreAll sums pairs left text = either pairs (pairs_of sums left) ≡ pairs_of sums (folded text)

abbrev pub invariant-loop-byte : goal.invariant-loop-byte
invariant-loop-byte l = AreAll is_low l.pairs.low (l.before ∷ folded (drop l.byte-index l.rest)) l.text
    × AreAll is_high l.pairs.high (l.before ∷ folded (drop l.byte-index l.rest)) l.text
