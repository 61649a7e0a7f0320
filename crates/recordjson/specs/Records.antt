-- A bot's version and records as an object of JSON.
use Rattle.std.specs.Prelude.{ℕ, List, ◌++◌, codes, decimal}
use Rattle.userfile.specs.Records.{Records}
use Rattle.recordjson.specs.Words.{first, listed, next}
use Rattle.recordjson.specs.Users.{user_text}
use Rattle.recordjson.specs.Bans.{ban_text}

abbrev pub records_text : ℕ → ℕ → Records → List ℕ
records_text bot version records =
    first (codes "bot") ++ decimal bot ++ next (codes "version") ++ decimal version ++ next (codes "users") ++ codes "[" ++ listed user_text records.users
    ++ codes "]" ++ next (codes "bans") ++ codes "[" ++ listed ban_text records.bans ++ codes "]}"
