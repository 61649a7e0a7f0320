-- Which hosts are addresses (RFC 4291 section 2.2), and which of them reach this machine alone.
use Rattle.std.specs.Prelude.{ℕ, ◌==◌, List, Bool, ◌||◌, is_some, codes}
use Rattle.std.specs.List.{starts_with}
use Rattle.std.specs.Str.{bytes_eq}
use Rattle.std.specs.declared.net.ip_addr.IpAddr.{IpAddr}
use Rattle.std.specs.Net.Grammar.{IsIpText}
use Rattle.std.specs.Net.Reader.{whole_value, read_ipv4, read_ipv6}

-- a host spells an address, by the grammar of addresses
abbrev pub SpellsAddress : List ℕ → Type 0
SpellsAddress host = (ip : IpAddr) × IsIpText host ip

-- whether it does, by reading it
abbrev pub is_address : List ℕ → Bool
is_address host = is_some (whole_value (read_ipv4 host)) || is_some (whole_value (read_ipv6 host))

-- an address of this machine alone: one of 127.0.0.0/8 (RFC 1122 section 3.2.1.3), or ::1 (RFC 4291 section 2.5.3) as
-- it is commonly spelled
abbrev pub is_loopback : List ℕ → Bool
is_loopback host = starts_with (λ a b. a == b) host (codes "127.") || bytes_eq host (codes "::1")
