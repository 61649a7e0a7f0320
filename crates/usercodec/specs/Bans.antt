-- A ban that is read, as plain data.
use Rattle.userfile.specs.declared.ban.Ban.{Ban}
use Rattle.usercodec.specs.declared.bans.BanFields.{BanFields}

-- the ban with these fields
abbrev pub ban_of : BanFields → Ban
ban_of fields =
    record { channel = fields.channel.now; mask = fields.mask.now; creator = fields.creator.now; expires = fields.expires; comment = fields.comment.now; sticky = fields.sticky }
