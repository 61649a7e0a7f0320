use Rattle.std.proofs.Common.{ap, ◌∙◌}
use Rattle.std.specs.List.{list_all}
use Rattle.userfile.specs.Together.{is_entry}
use Rattle.usercodec.proofs.ShapeLaws.{user_texts, short_as}
use Rattle.usercodec.proofs.users.put_user.Goals as goal

pub put_text-requires : goal.put_text-requires
put_text-requires c = short_as c.as_bytes.result.now c.args.user.now.handle c.as_bytes.ensures (user_texts c.args.user.now c.requires.own).0

pub put_entries-requires-clause-good : goal.put_entries-requires-clause-good
put_entries-requires-clause-good c = ap (list_all is_entry) c.as_slice-2.ensures ∙ (user_texts c.args.user.now c.requires.own).1

pub put_text-requires-2 : goal.put_text-requires-2
put_text-requires-2 c = short_as c.as_bytes-2.result.now c.args.user.now.info c.as_bytes-2.ensures (user_texts c.args.user.now c.requires.own).2
