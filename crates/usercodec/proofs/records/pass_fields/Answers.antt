use Rattle.usercodec.proofs.PassLaws.{passes_user, passes_ban}
use Rattle.usercodec.proofs.records.pass_fields.Goals as goal

pub returns-in_ok-user_fields-in-3 : goal.returns-in_ok-user_fields-in-3
returns-in_ok-user_fields-in-3 c =
    passes_user c.args.tag c.args.reader.now c.user_fields.new.reader _ c.in-3.is c.in_ok-user_fields-in-3.ensures

pub returns-in_ok-held_ban_fields-in-4 : goal.returns-in_ok-held_ban_fields-in-4
returns-in_ok-held_ban_fields-in-4 c =
    passes_ban c.args.tag c.args.reader.now c.held_ban_fields.new.reader _ c.in-4.is c.in_ok-held_ban_fields-in-4.ensures
