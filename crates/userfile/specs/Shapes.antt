-- Which texts may stand in a change or a record.
use Rattle.std.specs.Prelude.{ℕ, List, Bool, not, ◌&&◌, ◌||◌, nat_le, ◌==◌, length}
use Rattle.std.specs.List.{list_all}
use Rattle.std.specs.Option.{is_none}
use Rattle.rfccase.specs.Channels.{is_channel_name}
use Rattle.wildmask.specs.Masks.{host_fault}
use Rattle.userfile.specs.declared.limits.TheConstants.{MAX_HANDLE, MAX_COMMENT, MAX_INFO}

-- a byte of a handle is printable, and is not a space or one of * , : @ (Eggdrop's handles, without the bytes that a
-- line of a script or a list of handles needs)
abbrev pub is_handle_byte : ℕ → Bool
is_handle_byte b = nat_le 33 b && nat_le b 126 && not (b == 42) && not (b == 44) && not (b == 58) && not (b == 64)

-- 1 to 32 such bytes
unfoldable pub is_handle : List ℕ → Bool
is_handle bytes = not (length bytes == 0) && nat_le (length bytes) MAX_HANDLE && list_all is_handle_byte bytes

-- a ban is of one channel (RFC 2812 section 1.3), or of all if its channel is the empty text
unfoldable pub is_ban_channel : List ℕ → Bool
is_ban_channel bytes = length bytes == 0 || is_channel_name bytes

-- a text is a hostmask if it has no fault as one
unfoldable pub is_hostmask : List ℕ → Bool
is_hostmask bytes = is_none (host_fault bytes)

-- a person, written as nick!user@host, or as $a:NAME by the account of the IRC network: a hostmask without the wildcards
-- * and ?
unfoldable pub is_person : List ℕ → Bool
is_person bytes = is_hostmask bytes && list_all (λ b. not (b == 42) && not (b == 63)) bytes

-- a byte that is not NUL, CR or LF (RFC 2812 section 2.3.1)
abbrev pub is_line_byte : ℕ → Bool
is_line_byte b = not (b == 0) && not (b == 13) && not (b == 10)

-- a comment has at most 100 such bytes
unfoldable pub is_comment : List ℕ → Bool
is_comment bytes = nat_le (length bytes) MAX_COMMENT && list_all is_line_byte bytes

-- an info text has at most 80 such bytes
unfoldable pub is_info : List ℕ → Bool
is_info bytes = nat_le (length bytes) MAX_INFO && list_all is_line_byte bytes
