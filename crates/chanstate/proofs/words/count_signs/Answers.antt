use Rattle.std.proofs.Common.{◌∙◌, not, ap, sym, arith}
use Rattle.std.proofs.lemmas.List.Sums.{position_or_len_is}
use Rattle.chanstate.specs.Announced.{is_sign}
use Rattle.chanstate.proofs.words.count_signs.Goals as goal

pub returns-else-is_sign-clause-value : goal.returns-else-is_sign-clause-value
returns-else-is_sign-clause-value c =
    sym (position_or_len_is (λ b. not (is_sign c.args.support.now b)) c.args.word.now c.loop-count.count 0 c.loop-count.invariant.within
    (λ k less. ap not (c.loop-count.invariant.signs k less))
    (λ _. ap not (sym c.is_sign.ensures ∙ c.if-is_sign.false)))

pub returns-after-loop-count-clause-value : goal.returns-after-loop-count-clause-value
returns-after-loop-count-clause-value c =
    sym (position_or_len_is (λ b. not (is_sign c.args.support.now b)) c.args.word.now c.loop-count.count 0 c.loop-count.invariant.within
    (λ k less. ap not (c.loop-count.invariant.signs k less))
    (λ less. absurd (omega (arith, less, c.loop-count-test.false))))
