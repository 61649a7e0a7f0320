use Rattle.std.proofs.Common.{◌≡◌, List, Option, ℕ, drop}
use Rattle.wildmask.specs.Codes.{items_in}
use Rattle.wildmask.specs.Signatures.{Sums, Pairs, either, pairs_needed}
use Rattle.wildmask.specs.WideSignatures.{is_low, is_high}
use Rattle.wildmask.proofs.SignatureLemmas.{pairs_after}
use Rattle.wildmask.proofs.wide_signatures.WideSignature.needed_by.Given as goal

-- the pairs so far and those of what is left are all
abbrev AreAll : Sums → Pairs → Option ℕ → List ℕ → List ℕ → Type 0
AreAll sums pairs before left codes = either pairs (pairs_after sums before (items_in left)) ≡ pairs_needed sums (items_in codes)

abbrev pub invariant-loop-code : goal.invariant-loop-code
invariant-loop-code l = AreAll is_low l.pairs.low l.before (drop l.code-index l.codes) l.codes
    × AreAll is_high l.pairs.high l.before (drop l.code-index l.codes) l.codes
