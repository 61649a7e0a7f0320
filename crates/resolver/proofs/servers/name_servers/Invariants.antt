use Rattle.std.proofs.Common.{◌≤◌, length, map, []}
use Rattle.resolver.specs.Files.{Collects, server_text}
use Rattle.resolver.proofs.servers.name_servers.Given as goal

-- the servers of the lines so far
abbrev pub invariant-loop-line : goal.invariant-loop-line
invariant-loop-line l = (length l.servers ≤ 3) × Collects server_text 3 (map (λ line. line.now) l.yielded) [] l.servers
