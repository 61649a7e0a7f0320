-- Which hostmasks are loose.
use Rattle.std.specs.Prelude.{ℕ, Bool, true, false, not, ◌==◌, ◌&&◌, ◌||◌, nat_le, List, take, drop, Option, None, Some, codes}
use Rattle.std.specs.List.{list_any, prefix_len}
use Rattle.loosemask.specs.declared.looseness.Looseness.{Looseness}
use Rattle.loosemask.specs.declared.looseness.Looseness.TheVariants.{Hosts, Users, HostsAndUsers}

-- ---- the parts of a mask

abbrev pub is_other : ℕ → ℕ → Bool
is_other byte b = not (b == byte)

abbrev pub has : ℕ → List ℕ → Bool
has byte text = list_any (λ b. b == byte) text

-- what stands before the first of this byte, and after it
abbrev pub before : ℕ → List ℕ → List ℕ
before byte text = take (prefix_len (is_other byte) text) text

abbrev pub after : ℕ → List ℕ → List ℕ
after byte text = drop 1 (drop (prefix_len (is_other byte) text) text)

-- nick!user@host
abbrev pub user_in : List ℕ → List ℕ
user_in mask = before 64 (after 33 mask)

abbrev pub host_in : List ℕ → List ℕ
host_in mask = after 64 (after 33 mask)

-- ---- users

-- * and ? stand for other bytes, and ~ before a user name says that the host did not confirm it
abbrev pub is_user_byte : ℕ → Bool
is_user_byte b = not (b == 42) && (not (b == 63) && not (b == 126))

abbrev pub names_user : List ℕ → Bool
names_user user = list_any is_user_byte user

-- a user that has a *, and a part of a name as well
abbrev pub fits_other_users : List ℕ → Bool
fits_other_users user = has 42 user && names_user user

-- ---- hosts

-- * ? . and : say nothing of a host
abbrev pub is_open : ℕ → Bool
is_open b = b == 42 || (b == 63 || (b == 46 || b == 58))

-- a byte that no IPv4 address has
abbrev pub is_name_byte : ℕ → Bool
is_name_byte b = not (is_open b) && not (nat_le 48 b && nat_le b 57)

abbrev pub has_name : List ℕ → Bool
has_name end = list_any is_name_byte end

-- a name of two labels or more: no IPv6 address, which has colons, and no IPv4 address
abbrev pub is_domain : List ℕ → Bool
is_domain end = has 46 end && (not (has 58 end) && has_name end)

-- a host that begins with a *, and has no domain after that
abbrev pub fits_most_hosts : List ℕ → Bool
fits_most_hosts host = has 42 (take (prefix_len is_open host) host) && not (is_domain (drop (prefix_len is_open host) host))

-- ---- the mask

abbrev pub looseness_by : Bool → Bool → Option Looseness
looseness_by true true = Some HostsAndUsers
looseness_by true false = Some Hosts
looseness_by false true = Some Users
looseness_by false false = None

abbrev pub looseness_of : List ℕ → Option Looseness
looseness_of mask = looseness_by (fits_most_hosts (host_in mask)) (fits_other_users (user_in mask))

abbrev pub warning_of : Looseness → List ℕ
warning_of Hosts = codes "warning: strangers on many hosts fit this mask: write more of the host"
warning_of Users = codes "warning: other users fit too, as acme fits *me: write the user without *"
warning_of HostsAndUsers = codes "warning: strangers on many hosts fit this mask: write more of the host, and the user without *"
