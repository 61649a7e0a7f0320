use Rattle.usercodec.proofs.ShapeLaws.{short_texts}
use Rattle.usercodec.proofs.changes.put_change.Goals as goal

pub put_fields-requires : goal.put_fields-requires
put_fields-requires c = short_texts c.args.change.now c.requires
