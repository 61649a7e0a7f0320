-- A connection that goes through a tunnel, or a named fault of the tunnel.
use Rattle.std.specs.Prelude.{ℕ, List, Option, None, Some, Result, Ok, Err}
use Rattle.std.specs.declared.net.ip_addr.IpAddr.{IpAddr}
use Rattle.std.specs.Net.Grammar.{IsIpText}
use Rattle.bytetext.specs.declared.failure.Failure.{Failure}
use Rattle.bytetext.specs.declared.failure.Failure.TheVariants.{Refused, NoMemory}
use Rattle.net.specs.Addresses.{GoesByTunnel, IsOfTunnel}
use Rattle.net.specs.declared.address.DialFault.{DialFault}
use Rattle.net.specs.declared.dialling.Dialled.{Dialled}

-- The connection is at a path of this machine, and not over TCP. It is made at once, or the tunnel has a fault.
abbrev pub GoesThroughTunnel : Result (Option Dialled) (Failure DialFault) → Type 0
GoesThroughTunnel (Ok None) = ⊥
GoesThroughTunnel (Ok (Some dialled)) = GoesByTunnel dialled
GoesThroughTunnel (Err NoMemory) = ⊥
GoesThroughTunnel (Err (Refused fault)) = IsOfTunnel fault

-- memory runs out only for a host that is no address, whose name is looked up
abbrev pub NeedsName : List ℕ → Result (Option Dialled) (Failure DialFault) → Type 0
NeedsName host (Ok found) = Unit {0}
NeedsName host (Err NoMemory) = (ip : IpAddr) → IsIpText host ip → ⊥
NeedsName host (Err (Refused fault)) = Unit {0}
