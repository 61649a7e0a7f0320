use Rattle.std.proofs.Common.{◌∙◌}
use Rattle.serverlink.specs.Talks.{talk_in}
use Rattle.serverlink.proofs.WaitingLemmas.{asked_more, still_more}
use Rattle.serverlink.proofs.irc_connection.IrcConnection.ask_for_members.Goals as goal

pub loop-channel-preserved : goal.loop-channel-preserved
loop-channel-preserved c = record {
  same = c.ask_next.ensures.same ∙ c.loop-channel.invariant.same;
  wants = c.ask_next.ensures.wants ∙ c.loop-channel.invariant.wants;
  own = c.ask_next.ensures.own ∙ c.loop-channel.invariant.own;
  told = still_more (talk_in c.args.self.now.session) (talk_in c.loop-channel.self.session) (talk_in c.ask_next.new.self.session)
      c.loop-channel.invariant.told
      (asked_more c.loop-channel.self.session (talk_in c.ask_next.new.self.session) c.in_ok-ask_next.ensures.told);
}
