-- Which words are nicks, and which are keys of channels.
use Rattle.std.specs.Prelude.{ℕ, ◌==◌, nat_lt, nat_le, Bool, not, ◌&&◌, List, length, slice_index}
use Rattle.std.specs.List.{list_all}
use Rattle.settings.specs.declared.TheConstants.{MAX_KEY, MAX_NICK}

-- a nick has no space or control byte, and none of ! @ , * ?
abbrev pub is_nick_byte : ℕ → Bool
is_nick_byte b = nat_lt 32 b && (not (b == 33) && (not (b == 64) && (not (b == 44) && (not (b == 42) && not (b == 63)))))

-- a nick has 1 to 30 such bytes, and does not begin with a colon
abbrev pub is_nick : List ℕ → Bool
is_nick nick = nat_le 1 (length nick) && (nat_le (length nick) MAX_NICK && (not (slice_index nick 0 == 58) && list_all is_nick_byte nick))

-- a key has no space or control byte below it, and no comma, which would part it from another key (RFC 2812 section
-- 3.2.1)
abbrev pub is_key_byte : ℕ → Bool
is_key_byte b = nat_lt 32 b && not (b == 44)

-- a key has 1 to 50 such bytes, and does not begin with a colon, which a server takes for the mark of a last parameter
abbrev pub is_key : List ℕ → Bool
is_key key = nat_le 1 (length key) && (nat_le (length key) MAX_KEY && (not (slice_index key 0 == 58) && list_all is_key_byte key))
