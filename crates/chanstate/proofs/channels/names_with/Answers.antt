use Rattle.std.proofs.Common.{◌≡◌, ◌<◌, ◌∙◌, ℕ, zero, suc, Bool, true, List, [], ◌∷◌, length, get_or, filter, ap, sym, inl, inr, arith}
use Rattle.std.proofs.lemmas.Bool.{cases_Bool}
use Rattle.std.proofs.lemmas.Result.{err_from_is_err_and}
use Rattle.chanstate.specs.declared.channel.Channel.{Channel}
use Rattle.chanstate.specs.Members.{has_member}
use Rattle.chanstate.proofs.channels.names_with.Goals as goal

-- where one passes the test, some are left
some_pass : (p : Channel → Bool) (xs : List Channel) (i : ℕ) (d : Channel) → i < length xs → p (get_or xs i d) ≡ true → 0 < length (filter p xs)
some_pass p [] i d less passes = absurd (omega arith)
some_pass p (x ∷ xs) zero d less passes = rw passes (omega arith)
some_pass p (x ∷ xs) (suc i) d less passes =
    elim (cases_Bool (p x)) [
      | inl here ↦ rw here (omega arith)
      | inr fails ↦ rw fails (some_pass p xs i d (omega arith) passes)
    ]

pub returns-in_err-copy-clause-memory : goal.returns-in_err-copy-clause-memory
returns-in_err-copy-clause-memory c =
    let p = (λ (channel : Channel). has_member c.args.mapping c.args.nick.now channel.members) in
    let here = ap p (sym c.channel-item.is) ∙ sym c.holds.ensures ∙ c.if-holds.true in
    let err = err_from_is_err_and c.from_residual.result c.from_residual.ensures.1 in
    rw err.1 (some_pass p c.args.channels.now c.loop-channel.channel-index c.channel-item.result (omega arith) here)

pub returns-in_err-push-clause-memory : goal.returns-in_err-push-clause-memory
returns-in_err-push-clause-memory c =
    let p = (λ (channel : Channel). has_member c.args.mapping c.args.nick.now channel.members) in
    let here = ap p (sym c.channel-item.is) ∙ sym c.holds.ensures ∙ c.if-holds.true in
    let err = err_from_is_err_and c.from_residual-in_err-push.result c.from_residual-in_err-push.ensures.1 in
    rw err.1 (some_pass p c.args.channels.now c.loop-channel.channel-index c.channel-item.result (omega arith) here)
