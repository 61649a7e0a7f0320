-- How a lookup of a name goes on and ends.
use Rattle.std.specs.Prelude.{◌≡◌, ◌<◌, ℕ, ◌*◌, ◌==◌, ◌⊎◌, List, length, Option, None, Some, Result, Ok, Err, if◌then◌else◌}
use Rattle.std.specs.declared.net.ip_addr.IpAddr.{IpAddr}
use Rattle.net.specs.declared.address.DialFault.{DialFault}
use Rattle.net.specs.declared.address.DialFault.TheVariants.{Unknown, Unanswered}
use Rattle.net.specs.declared.lookup.TheConstants.{TRIES}

-- the most questions for one family: three to each server, or one if an address of the other family is known
abbrev pub most_tries : ℕ → ℕ → ℕ
most_tries servers known = if known == 0 then TRIES * servers else 1

-- a lookup that ends has found an address, or has this fault
abbrev pub EndsWith : DialFault → Result (Option (List IpAddr)) DialFault → Type 0
EndsWith fault (Ok None) = ⊥
EndsWith fault (Ok (Some found)) = 0 < length found
EndsWith fault (Err other) = other ≡ fault

-- it goes on, or ends with an address, or nobody knows one, or nobody answers
abbrev pub IsEnd : Result (Option (List IpAddr)) DialFault → Type 0
IsEnd (Ok None) = Unit {0}
IsEnd (Ok (Some found)) = 0 < length found
IsEnd (Err fault) = (fault ≡ Unknown) ⊎ (fault ≡ Unanswered)
