-- The lines of a bot's version and records, as a transcript has them.
use Rattle.std.specs.Prelude.{ℕ, List, [], ◌∷◌, ◌++◌, length, Option, None, Some, if◌then◌else◌, codes, decimal}
use Rattle.std.specs.List.{flat_map}
use Rattle.flagexpr.specs.Letters.{spelling}
use Rattle.userfile.specs.Records.{Records}
use Rattle.userfile.specs.declared.user.User.{User}
use Rattle.userfile.specs.declared.channel_flags.ChannelFlags.{ChannelFlags}
use Rattle.userfile.specs.declared.ban.Ban.{Ban}

-- B user H G F
abbrev pub user_line : ℕ → User → List ℕ
user_line bot user = decimal bot ++ codes " user " ++ user.handle ++ codes " " ++ spelling user.global ++ codes " " ++ spelling user.bot ++ 10 ∷ []

-- B host H M
abbrev pub host_line : ℕ → List ℕ → List ℕ → List ℕ
host_line bot handle mask = decimal bot ++ codes " host " ++ handle ++ codes " " ++ mask ++ 10 ∷ []

-- B chan H C F
abbrev pub chan_line : ℕ → List ℕ → ChannelFlags → List ℕ
chan_line bot handle entry = decimal bot ++ codes " chan " ++ handle ++ codes " " ++ entry.channel ++ codes " " ++ spelling entry.flags ++ 10 ∷ []

-- B info H TEXT, if there is an info
abbrev pub info_line : ℕ → List ℕ → List ℕ → List ℕ
info_line bot handle [] = []
info_line bot handle (b ∷ bs) = decimal bot ++ codes " info " ++ handle ++ codes " " ++ (b ∷ bs) ++ 10 ∷ []

-- a user and the info, then the hostmasks and then the flags on channels, each in order
abbrev pub user_lines : ℕ → User → List ℕ
user_lines bot user =
    user_line bot user ++ info_line bot user.handle user.info ++ flat_map (host_line bot user.handle) user.masks
    ++ flat_map (chan_line bot user.handle) user.channels

-- * for a ban on all channels
abbrev pub channel_text : List ℕ → List ℕ
channel_text [] = codes "*"
channel_text (b ∷ bs) = b ∷ bs

-- a comment and the space before it; nothing if it is empty
abbrev pub comment_text : List ℕ → List ℕ
comment_text [] = []
comment_text (b ∷ bs) = codes " " ++ b ∷ bs

-- B ban C M H E COMMENT
abbrev pub ban_line : ℕ → Ban → List ℕ
ban_line bot ban =
    decimal bot ++ codes " ban " ++ channel_text ban.channel ++ codes " " ++ ban.mask ++ codes " " ++ ban.creator ++ codes " " ++ decimal ban.expires ++
    comment_text ban.comment ++ 10 ∷ []

-- B sticky C M
abbrev pub sticky_line : ℕ → Ban → List ℕ
sticky_line bot ban = decimal bot ++ codes " sticky " ++ channel_text ban.channel ++ codes " " ++ ban.mask ++ 10 ∷ []

-- a ban, and that it is sticky if it is
abbrev pub ban_lines : ℕ → Ban → List ℕ
ban_lines bot ban = ban_line bot ban ++ (if ban.sticky then sticky_line bot ban else [])

-- B version V users U bans N
abbrev pub version_line : ℕ → ℕ → ℕ → ℕ → List ℕ
version_line bot version users bans = decimal bot ++ codes " version " ++ decimal version ++ codes " users " ++ decimal users ++ codes " bans " ++ decimal
    bans ++ 10 ∷ []

-- a bot's version and records, or that no such bot exists
abbrev pub shown_text : ℕ → Option ℕ → Option Records → List ℕ
shown_text bot (Some version) (Some records) =
    version_line bot version (length records.users) (length records.bans) ++ flat_map (user_lines bot) records.users ++ flat_map (ban_lines bot) records.bans
shown_text bot (Some version) None = codes "world O2" ++ 10 ∷ []
shown_text bot None records = codes "world O2" ++ 10 ∷ []
