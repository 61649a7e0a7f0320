use Rattle.std.proofs.Common.{map, []}
use Rattle.resolver.specs.Names.{bare}
use Rattle.resolver.specs.Files.{Collects, host_text}
use Rattle.resolver.proofs.hosts.known_addresses.Given as goal

-- the addresses of the lines so far
abbrev pub invariant-loop-line : goal.invariant-loop-line
invariant-loop-line l = Collects (host_text (bare l.fn.name)) 32 (map (λ line. line.now) l.yielded) [] l.found
