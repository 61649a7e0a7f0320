use Rattle.usercodec.proofs.ShapeLaws.{hostmask_is_short, short_as}
use Rattle.usercodec.proofs.users.put_mask.Goals as goal

pub put_text-requires : goal.put_text-requires
put_text-requires c = short_as c.as_bytes.result.now c.args.mask.now c.as_bytes.ensures.given (hostmask_is_short c.args.mask.now c.as_bytes.ensures.good)
