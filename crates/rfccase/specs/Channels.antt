-- Which texts are channel names (RFC 2812 section 1.3, with 100 bytes instead of the RFC's 50 characters).
use Rattle.std.specs.Prelude.{ℕ, Bool, not, ◌==◌, ◌&&◌, ◌||◌, nat_le, List, length, slice_index}
use Rattle.std.specs.List.{list_all}

-- a channel name begins with & # + or !
abbrev pub is_channel_start : ℕ → Bool
is_channel_start b = b == 38 || (b == 35 || (b == 43 || b == 33))

-- a channel name has no space, comma or control G
abbrev pub is_channel_byte : ℕ → Bool
is_channel_byte b = not (b == 32) && (not (b == 44) && not (b == 7))

abbrev pub is_channel_name : List ℕ → Bool
is_channel_name text = is_channel_start (slice_index text 0) && (nat_le (length text) 100 && list_all is_channel_byte text)
