use Rattle.std.proofs.Common.{◌∙◌, refl}
use Rattle.serverlink.specs.Talks.{talk_in}
use Rattle.serverlink.proofs.WaitingLemmas.{next_first, none_first, one_less}
use Rattle.serverlink.proofs.irc_connection.IrcConnection.tell_own.Goals as goal

pub returns-in_err-tell_next-clause-own : goal.returns-in_err-tell_next-clause-own
returns-in_err-tell_next-clause-own c = one_less c.args.self.now.own c.loop-line.self.own c.tell_next.new.self.own c.loop-line.invariant.own c.tell_next.ensures.own

pub loop-line-init : goal.loop-line-init
loop-line-init c = record {
  same = refl;
  wants = refl;
  own = (0, refl);
  told = none_first c.args.self.now.own (talk_in c.args.self.now.session);
}

pub loop-line-preserved : goal.loop-line-preserved
loop-line-preserved c = record {
  same = c.tell_next.ensures.same ∙ c.loop-line.invariant.same;
  wants = c.tell_next.ensures.wants ∙ c.loop-line.invariant.wants;
  own = one_less c.args.self.now.own c.loop-line.self.own c.tell_next.new.self.own c.loop-line.invariant.own c.tell_next.ensures.own;
  told = next_first c.args.self.now.own c.loop-line.self.own c.tell_next.new.self.own c.args.self.now.session c.loop-line.self.session
      c.tell_next.new.self.session c.loop-line.invariant.told c.loop-line.invariant.same (c.may_tell.ensures c.if-not-may_tell.false)
      c.tell_next.ensures.own c.in_ok-tell_next.ensures.told;
}
