use Rattle.replay.proofs.Startings.{never_refused}
use Rattle.replay.proofs.starting.bot.Goals as goal

pub unreachable-requires : goal.unreachable-requires
unreachable-requires c =
    let returned = c.in-Err.returned in
    never_refused c.args.leaves c.args.zone.now c.args.number c.in_ok-config.config returned.error c.in-Refused.field-0 c.new.result c.new-2.result returned.disks.first
    returned.disks.second c.requires.few c.requires.numbered c.in_ok-config.ensures c.in-Refused.is c.in-Err.ensures.made
