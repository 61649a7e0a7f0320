-- Which addresses a host has.
use Rattle.std.specs.Prelude.{ℕ, ◌%◌, ◌≡◌, ◌⊎◌, true, List, length, slice_index_or, Option, None, Some, Result, Ok, Err}
use Rattle.std.specs.declared.net.ip_addr.IpAddr.{IpAddr}
use Rattle.std.specs.declared.net.socket_addr.SocketAddr.{SocketAddr}
use Rattle.std.specs.Net.Grammar.{IsIpText}
use Rattle.std.specs.Net.ToAddrs.{IsHostAndPort}
use Rattle.bytetext.specs.declared.failure.Failure.{Failure}
use Rattle.bytetext.specs.declared.failure.Failure.TheVariants.{Refused}
use Rattle.net.specs.declared.address.DialFault.{DialFault}
use Rattle.net.specs.declared.address.DialFault.TheVariants.{Unreached, NoTunnel, TunnelBusy}
use Rattle.net.specs.declared.any_socket.Way.{Way}
use Rattle.net.specs.declared.any_socket.Way.TheVariants.{Tcp, Tunnel}
use Rattle.net.specs.declared.dialling.Dialled.{Dialled}
use Rattle.net.specs.Ways.{is_at_path, is_tunnel}

-- the address that a host spells, with this port; none if it spells none
abbrev pub IsLiteral : List ℕ → ℕ → Option SocketAddr → Type 0
IsLiteral host port (Some address) = IsHostAndPort host port address
IsLiteral host port None = (ip : IpAddr) → IsIpText host ip → ⊥

-- a way that leads to that address
abbrev pub LeadsBy : List ℕ → ℕ → Way → Type 0
LeadsBy host port (Tcp address) = IsHostAndPort host port address
LeadsBy host port Tunnel = ⊥

-- a connection that was begun at once to that address, unless the system does not begin it
abbrev pub IsDirect : List ℕ → ℕ → Result (Option Dialled) (Failure DialFault) → Type 0
IsDirect host port (Ok (Some dialled)) = LeadsBy host port dialled.way
IsDirect host port (Ok None) = ⊥
IsDirect host port (Err failure) = failure ≡ Refused Unreached

-- a host that spells an address leads to that one: nobody is asked, and nothing waits
abbrev pub LeadsTo : List ℕ → ℕ → Result (Option Dialled) (Failure DialFault) → Type 0
LeadsTo host port result = (ip : IpAddr) → IsIpText host ip → IsDirect host port result

-- a connection goes to a path of this machine, and not over TCP
pub record GoesByTunnel (dialled : Dialled) : Type 0 where
  pub socket : is_at_path dialled.socket.stream ≡ true
  pub way : is_tunnel dialled.way ≡ true

-- a fault that a tunnel has
abbrev pub IsOfTunnel : DialFault → Type 0
IsOfTunnel fault = (fault ≡ NoTunnel) ⊎ (fault ≡ TunnelBusy)

-- in each round the next address; after the last one the first again
abbrev pub IsOfRound : List IpAddr → ℕ → Option IpAddr → Type 0
IsOfRound found round None = length found ≡ 0
IsOfRound found round (Some address) = address ≡ slice_index_or found (round % length found) address
