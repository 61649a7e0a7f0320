use Rattle.std.proofs.Common.{◌≡◌, ◌≤◌, length, get_or, true, sym, arith, rules}
use Rattle.std.proofs.lemmas.List.Sums.{position_or_len_is}
use Rattle.outqueue.specs.Shares.{is_space}
use Rattle.outqueue.proofs.target.space_in.Goals as goal

pub returns-then-byte-eq32-clause-place : goal.returns-then-byte-eq32-clause-place
returns-then-byte-eq32-clause-place c =
    let within : c.loop-at.at ≤ length c.args.bytes.now = omega arith in
    let here : is_space (get_or c.args.bytes.now c.loop-at.at 0) ≡ true = search rules in
    sym (position_or_len_is is_space c.args.bytes.now c.loop-at.at 0 within c.loop-at.invariant (λ _. here))

pub returns-clause-place : goal.returns-clause-place
returns-clause-place c =
    let all : length c.args.bytes.now ≤ c.loop-at.at = omega arith in
    sym (position_or_len_is is_space c.args.bytes.now (length c.args.bytes.now) 0 (omega arith) (λ k h. c.loop-at.invariant k (omega arith))
    (λ h. absurd (omega arith)))
