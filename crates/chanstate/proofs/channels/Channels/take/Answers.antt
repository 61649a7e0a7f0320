use Rattle.chanstate.proofs.TakeLemmas.{taken}
use Rattle.chanstate.proofs.channels.Channels.take.Goals as goal

pub returns-clause-taken : goal.returns-clause-taken
returns-clause-taken c =
    taken c.args.mapping c.args.at c.args.task _ c.args.self.now c.args.takes.now.items _ _ c.index_mut-channel.result.now _ _
    c.self.view_is c.requires.within c.index_mut-channel.ensures.value c.in_ok-seating.ensures.ok c.in_ok-reserve.ensures.items c.push_reserved.ensures.items
