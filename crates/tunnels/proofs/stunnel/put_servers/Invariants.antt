use Rattle.std.proofs.Common.{◌≡◌, ◌++◌, drop}
use Rattle.tunnels.specs.Stunnels.{servers_text}
use Rattle.tunnels.proofs.stunnel.put_servers.Given as goal

-- what is written, and the sections of the servers to come, are all of them
abbrev pub invariant-loop-place : goal.invariant-loop-place
invariant-loop-place l =
    l.out.items ++ servers_text l.folder (drop l.place l.servers) ≡ l.fn.out.items ++ servers_text l.folder l.servers
