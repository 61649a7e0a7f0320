-- Which way a connection goes: over TCP, or to a path of this machine.
use Rattle.std.specs.Prelude.{Bool, true, false}
use Rattle.net.specs.declared.any_socket.AnyStream.{AnyStream}
use Rattle.net.specs.declared.any_socket.AnyStream.TheVariants.{Tcp as over_tcp, Unix as over_unix}
use Rattle.net.specs.declared.any_socket.Way.{Way}
use Rattle.net.specs.declared.any_socket.Way.TheVariants.{Tcp, Tunnel}

-- the socket is at a path of this machine, and not over TCP
abbrev pub is_at_path : AnyStream → Bool
is_at_path (over_tcp stream) = false
is_at_path (over_unix stream) = true

-- a way leads through a tunnel
abbrev pub is_tunnel : Way → Bool
is_tunnel (Tcp address) = false
is_tunnel Tunnel = true
