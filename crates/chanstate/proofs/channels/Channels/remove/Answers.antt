use Rattle.chanstate.specs.Channels.{is_named}
use Rattle.chanstate.proofs.FirstsLemmas.{removed_at, removed_nowhere}
use Rattle.chanstate.proofs.channels.Channels.remove.Goals as goal

pub returns-in-Some : goal.returns-in-Some
returns-in-Some c =
    rw c.remove-gone.ensures.items (removed_at (is_named c.args.mapping c.args.name.now) _ _ c.in-Some.at c.remove-gone.result c.self.view_is c.in-Some.ensures)

pub returns-in_default : goal.returns-in_default
returns-in_default c = removed_nowhere (is_named c.args.mapping c.args.name.now) _ c.place.result c.place.ensures c.in_default.is
