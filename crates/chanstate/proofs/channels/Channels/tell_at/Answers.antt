use Rattle.std.proofs.Common.{length, ap, sym, arith}
use Rattle.chanstate.specs.Firsts.{first_changed}
use Rattle.chanstate.specs.Members.{is_called, with_detail}
use Rattle.chanstate.proofs.TakeLemmas.{set_at, on_place-past}
use Rattle.chanstate.proofs.channels.Channels.tell_at.Goals as goal

pub returns-then-at-len : goal.returns-then-at-len
returns-then-at-len c =
    set_at c.args.at (first_changed (is_called c.args.mapping c.args.nick.now) (with_detail c.args.detail)) _ _ c.index_mut-channel.result.now _ c.self.view_is
    (omega (arith, c.if-at-len.true, c.len.ensures)) c.index_mut-channel.ensures.value
    (ap (λ ms. record c.index_mut-channel.result.now { members = ms }) (sym c.tell.ensures))

pub returns-else-at-len : goal.returns-else-at-len
returns-else-at-len c =
    let long = ap length c.self.view_is in
    sym (on_place-past c.args.at (first_changed (is_called c.args.mapping c.args.nick.now) (with_detail c.args.detail)) c.args.self.now
    (omega (arith, long, c.if-at-len.false, c.len.ensures)))
