use Rattle.std.proofs.Common.{arith}
use Rattle.chanstate.specs.Channels.{with_members}
use Rattle.chanstate.specs.Firsts.{first_removed}
use Rattle.chanstate.specs.Members.{is_called}
use Rattle.chanstate.proofs.MapLemmas.{mapped_at}
use Rattle.chanstate.proofs.channels.Channels.depart.Goals as goal

pub loop-channel-preserved : goal.loop-channel-preserved
loop-channel-preserved c =
    mapped_at (with_members
    (first_removed (is_called c.args.mapping c.args.nick.now))) _ c.loop-channel.channel-items c.loop-channel.channel-index c.channel-item.result c.depart.new.self
    (omega arith) (omega arith) c.loop-channel.invariant c.depart.ensures
