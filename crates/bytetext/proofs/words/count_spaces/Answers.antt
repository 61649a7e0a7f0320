use Rattle.std.proofs.Common.{◌≡◌, false, eqb, get_or, not, ap, sym, arith}
use Rattle.std.proofs.lemmas.List.Sums.{position_or_len_is}
use Rattle.std.proofs.lemmas.Bool.Decides.{nat_tests}
use Rattle.bytetext.proofs.words.count_spaces.Goals as goal

pub returns-else-text-count-eq32-clause-value : goal.returns-else-text-count-eq32-clause-value
returns-else-text-count-eq32-clause-value c =
    let here : eqb (get_or c.args.text.now c.loop-count.count 0) 32 ≡ false = grind (arith, nat_tests, c.if-text-count-eq32.false) in
    sym (position_or_len_is (λ b. not (eqb b 32)) c.args.text.now c.loop-count.count 0 c.loop-count.invariant.within
    (λ k less. ap not (c.loop-count.invariant.before k less))
    (λ _. ap not (here)))

pub returns-after-loop-count-clause-value : goal.returns-after-loop-count-clause-value
returns-after-loop-count-clause-value c =
    sym (position_or_len_is (λ b. not (eqb b 32)) c.args.text.now c.loop-count.count 0 c.loop-count.invariant.within
    (λ k less. ap not (c.loop-count.invariant.before k less))
    (λ less. absurd (omega (arith, less, c.loop-count-test.false))))
