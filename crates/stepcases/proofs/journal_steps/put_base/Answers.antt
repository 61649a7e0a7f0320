use Rattle.botjournal.proofs.LengthLaws.{shapes_are}
use Rattle.stepcases.proofs.journal_steps.put_base.Goals as goal

pub write_base-requires : goal.write_base-requires
write_base-requires c = shapes_are c.args.base.now c.requires
