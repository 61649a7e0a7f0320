-- A ban as an object of JSON.
use Rattle.std.specs.Prelude.{ℕ, List, ◌++◌, codes}
use Rattle.userfile.specs.declared.ban.Ban.{Ban}
use Rattle.recordjson.specs.Words.{first, next, or_null, quoted, second_or_null, truth}

-- whom it keeps off, and by whom it was made: null for a ban on all channels
abbrev pub aim_text : Ban → List ℕ
aim_text ban = first (codes "channel") ++ or_null ban.channel ++ next (codes "mask") ++ quoted ban.mask ++ next (codes "creator") ++ quoted ban.creator

-- until when, and why: null for a ban that never ends
abbrev pub terms_text : Ban → List ℕ
terms_text ban =
    next (codes "expires") ++ second_or_null ban.expires ++ next (codes "comment") ++ or_null ban.comment ++ next (codes "sticky") ++ truth ban.sticky ++ codes "}"

abbrev pub ban_text : Ban → List ℕ
ban_text ban = aim_text ban ++ terms_text ban
