use Rattle.replay.proofs.Startings.{AreNew-none, AreNew-next}
use Rattle.replay.proofs.starting.new_bots.Goals as goal

pub loop-number-init : goal.loop-number-init
loop-number-init c = AreNew-none c.args.leaves c.args.zone.now _ c.in_ok-bots.ensures.items

pub loop-number-preserved : goal.loop-number-preserved
loop-number-preserved c = AreNew-next c.args.leaves c.args.zone.now c.loop-number.number _ _ _ c.loop-number.invariant c.in_ok-bot.ensures c.in_ok-push.ensures.items
