use Rattle.std.proofs.Common.{sym, ap}
use Rattle.chanstate.specs.Members.{is_called, with_address}
use Rattle.chanstate.specs.Channels.{is_named, with_members}
use Rattle.chanstate.specs.Firsts.{first_changed}
use Rattle.chanstate.proofs.FirstsLemmas.{changed_at, changed_nowhere}
use Rattle.chanstate.proofs.channels.Channels.place_at.Goals as goal

pub returns-in-Some : goal.returns-in-Some
returns-in-Some c =
    changed_at (is_named c.args.mapping c.args.name.now)
    (with_members (first_changed (is_called c.args.mapping c.args.nick.now)
    (with_address c.args.user c.args.host))) _ _ c.in-Some.at c.index_mut-channel.result.now _ c.self.view_is c.in-Some.ensures
    c.index_mut-channel.ensures.value (ap (λ ms. record c.index_mut-channel.result.now { members = ms }) (sym c.place_at.ensures))

pub returns-in_default : goal.returns-in_default
returns-in_default c = changed_nowhere (is_named c.args.mapping c.args.name.now)
    (with_members (first_changed (is_called c.args.mapping c.args.nick.now) (with_address c.args.user c.args.host))) _ c.place.result c.place.ensures c.in_default.is
