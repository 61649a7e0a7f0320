-- Other nicks for a server that rejects the bot's own.
use Rattle.std.specs.Prelude.{ℕ, ◌+◌, ◌-◌, ◌^◌, ◌||◌, min, nat_lt, nat_le, List, ◌++◌, length, take, replicate, Option, None, Some, if◌then◌else◌}
use Rattle.serverlink.specs.declared.nicks.TheConstants.{SHORT_NICK}

-- the first nine bytes of a nick, the last `underscores` of them replaced by underscores
abbrev pub cut_nick : List ℕ → ℕ → List ℕ
cut_nick nick underscores = take (min SHORT_NICK (length nick) - underscores) nick ++ replicate underscores 95

-- a long nick is first cut, without any underscore
abbrev pub place_of : ℕ → ℕ → ℕ
place_of len tried = if nat_lt SHORT_NICK len then tried else min (tried + 1) (2 ^ 64 - 1)

abbrev pub other_nick : List ℕ → ℕ → Option (List ℕ)
other_nick nick tried =
    if nat_le SHORT_NICK (place_of (length nick) tried) || nat_le (length nick) (place_of (length nick) tried) then None
    else Some (cut_nick nick (place_of (length nick) tried))
