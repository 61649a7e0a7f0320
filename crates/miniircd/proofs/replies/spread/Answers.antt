use Rattle.std.proofs.Common.{ap, sym, arith}
use Rattle.miniircd.specs.Mail.{readers}
use Rattle.miniircd.proofs.MailLemmas.{posted_none}
use Rattle.miniircd.proofs.LineLemmas.{spread_step}
use Rattle.miniircd.proofs.replies.spread.Goals as goal

pub loop-member-init : goal.loop-member-init
loop-member-init c = sym (posted_none c.args.post.now)

pub loop-member-preserved : goal.loop-member-preserved
loop-member-preserved c =
    spread_step c.args.text.now c.args.members.now c.loop-member.member-index _ _ _ _ (omega arith) c.loop-member.invariant c.in_ok-send.ensures.told

pub returns-clause-readers : goal.returns-clause-readers
returns-clause-readers c = ap readers c.loop-member.invariant
