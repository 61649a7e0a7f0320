use Rattle.std.proofs.Common.{◌∙◌, ap}
use Rattle.serverlink.specs.Talks.{talk_in}
use Rattle.serverlink.specs.declared.irc_connection.IrcConnection.{IrcConnection}
use Rattle.serverlink.proofs.WaitingLemmas.{no_more, still_more}
use Rattle.serverlink.proofs.irc_connection.IrcConnection.join_again.Goals as goal
use Rattle.serverlink.proofs.irc_connection.IrcConnection.join_again.Goals.{then-not-may_tell-via-then-not-may_tell, then-not-may_tell-via-else-not-may_tell+in_ok-join_next+then-not-branch}

pub returns-then-not-may_tell-clause-told : goal.returns-then-not-may_tell-clause-told
returns-then-not-may_tell-clause-told c = elim c.then-not-may_tell.branch [
  | then-not-may_tell-via-then-not-may_tell w ↦
      no_more (talk_in c.args.self.now.session) (talk_in c.loop-channel.self.session) (talk_in c.then-not-may_tell.self.session)
      c.loop-channel.invariant.told (ap (λ (irc : IrcConnection). talk_in irc.session) w.self-is)
  | then-not-may_tell-via-else-not-may_tell+in_ok-join_next+then-not-branch w ↦
      no_more (talk_in c.args.self.now.session) (talk_in w.join_next.new.self.session) (talk_in c.then-not-may_tell.self.session)
      (still_more (talk_in c.args.self.now.session) (talk_in c.loop-channel.self.session) (talk_in w.join_next.new.self.session)
      c.loop-channel.invariant.told w.in_ok-join_next.ensures.told)
      (ap (λ (irc : IrcConnection). talk_in irc.session) w.self-is)
]

pub loop-channel-preserved : goal.loop-channel-preserved
loop-channel-preserved c = record {
  same = c.join_next.ensures.same ∙ c.loop-channel.invariant.same;
  wants = c.join_next.ensures.wants ∙ c.loop-channel.invariant.wants;
  own = c.join_next.ensures.own ∙ c.loop-channel.invariant.own;
  told = still_more (talk_in c.args.self.now.session) (talk_in c.loop-channel.self.session) (talk_in c.join_next.new.self.session)
      c.loop-channel.invariant.told c.in_ok-join_next.ensures.told;
}
