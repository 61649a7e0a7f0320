-- A user as an object of JSON.
use Rattle.std.specs.Prelude.{ℕ, List, ◌++◌, codes}
use Rattle.flagexpr.specs.Letters.{spelling}
use Rattle.userfile.specs.declared.user.User.{User}
use Rattle.userfile.specs.declared.channel_flags.ChannelFlags.{ChannelFlags}
use Rattle.recordjson.specs.Words.{first, listed, next, or_null, quoted}

-- the flags on a channel
abbrev pub chan_text : ChannelFlags → List ℕ
chan_text entry = first (codes "channel") ++ quoted entry.channel ++ next (codes "flags") ++ quoted (spelling entry.flags) ++ codes "}"

-- the members that each user has once
abbrev pub person_text : User → List ℕ
person_text user =
    first (codes "handle") ++ quoted user.handle ++ next (codes "flags") ++ quoted (spelling user.global) ++ next (codes "bot") ++ quoted (spelling user.bot)
    ++ next (codes "info") ++ or_null user.info

-- the lists
abbrev pub entries_text : User → List ℕ
entries_text user =
    next (codes "masks") ++ codes "[" ++ listed quoted user.masks ++ codes "]" ++ next (codes "channels") ++ codes "[" ++ listed chan_text user.channels ++ codes "]}"

abbrev pub user_text : User → List ℕ
user_text user = person_text user ++ entries_text user
