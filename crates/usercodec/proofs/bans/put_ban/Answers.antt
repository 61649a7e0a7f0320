use Rattle.usercodec.proofs.ShapeLaws.{hostmask_is_short, ban_texts, short_as}
use Rattle.usercodec.proofs.bans.put_ban.Goals as goal

pub put_text-requires : goal.put_text-requires
put_text-requires c = short_as c.as_bytes.result.now c.args.ban.now.channel c.as_bytes.ensures (ban_texts c.args.ban.now c.requires).0

pub put_text-requires-2 : goal.put_text-requires-2
put_text-requires-2 c =
    short_as c.as_bytes-2.result.now c.args.ban.now.mask c.as_bytes-2.ensures.given (hostmask_is_short c.args.ban.now.mask c.as_bytes-2.ensures.good)

pub put_text-requires-3 : goal.put_text-requires-3
put_text-requires-3 c = short_as c.as_bytes-3.result.now c.args.ban.now.creator c.as_bytes-3.ensures (ban_texts c.args.ban.now c.requires).1

pub put_text-requires-4 : goal.put_text-requires-4
put_text-requires-4 c = short_as c.as_bytes-4.result.now c.args.ban.now.comment c.as_bytes-4.ensures (ban_texts c.args.ban.now c.requires).2
