use Rattle.std.proofs.Common.{◌≡◌, ◌≤◌, length, get_or, true, sym, arith, rules}
use Rattle.std.proofs.lemmas.List.Sums.{position_or_len_is}
use Rattle.flagexpr.specs.Faults.{is_join}
use Rattle.flagexpr.proofs.expression.first_join.Goals as goal

pub returns-then-is_join-clause-at : goal.returns-then-is_join-clause-at
returns-then-is_join-clause-at c =
    let within : c.loop-at.at ≤ length c.args.text.now = omega arith in
    let here : is_join (get_or c.args.text.now c.loop-at.at 0) ≡ true = search rules in
    sym (position_or_len_is is_join c.args.text.now c.loop-at.at 0 within c.loop-at.invariant (λ _. here))

pub returns-clause-at : goal.returns-clause-at
returns-clause-at c =
    let all : length c.args.text.now ≤ c.loop-at.at = omega arith in
    sym (position_or_len_is is_join c.args.text.now (length c.args.text.now) 0 (omega arith) (λ k h. c.loop-at.invariant k (omega arith))
    (λ h. absurd (omega arith)))
