use Rattle.std.proofs.Common.{sym, ap}
use Rattle.chanstate.specs.Items.{names_in}
use Rattle.chanstate.specs.Members.{shown_each}
use Rattle.chanstate.specs.Channels.{is_named, with_members}
use Rattle.chanstate.proofs.FirstsLemmas.{changed_at, changed_nowhere}
use Rattle.chanstate.proofs.channels.Channels.show.Goals as goal

pub returns-in-Some : goal.returns-in-Some
returns-in-Some c =
    changed_at (is_named c.args.mapping c.args.name.now) (with_members (shown_each c.args.mapping (names_in c.args.support.now c.args.names.now))) _ _ c.in-Some.at c.index_mut-channel.result.now _
    c.self.view_is c.in-Some.ensures c.index_mut-channel.ensures.value (ap (λ ms. record c.index_mut-channel.result.now { members = ms }) (sym c.show_all.ensures))

pub returns-in_default : goal.returns-in_default
returns-in_default c =
    changed_nowhere (is_named c.args.mapping c.args.name.now) (with_members (shown_each c.args.mapping (names_in c.args.support.now c.args.names.now))) _ c.place.result c.place.ensures c.in_default.is
