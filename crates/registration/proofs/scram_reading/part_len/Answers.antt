use Rattle.std.proofs.Common.{◌≡◌, true, eqb, get_or, sym, arith}
use Rattle.std.proofs.lemmas.List.Sums.{position_or_len_is}
use Rattle.std.proofs.lemmas.Bool.Decides.{nat_tests}
use Rattle.registration.proofs.scram_reading.part_len.Goals as goal

pub returns-else-text-count-ne44-clause-value : goal.returns-else-text-count-ne44-clause-value
returns-else-text-count-ne44-clause-value c =
    let here : eqb (get_or c.args.text.now c.loop-count.count 0) 44 ≡ true = grind (arith, nat_tests, c.if-text-count-ne44.false) in
    sym (position_or_len_is (λ b. eqb b 44) c.args.text.now c.loop-count.count 0 c.loop-count.invariant.within
    (λ k less. c.loop-count.invariant.before k less)
    (λ _. here))

pub returns-after-loop-count-clause-value : goal.returns-after-loop-count-clause-value
returns-after-loop-count-clause-value c =
    sym (position_or_len_is (λ b. eqb b 44) c.args.text.now c.loop-count.count 0 c.loop-count.invariant.within
    (λ k less. c.loop-count.invariant.before k less)
    (λ less. absurd (omega (arith, less, c.loop-count-test.false))))
