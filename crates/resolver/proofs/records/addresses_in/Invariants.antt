use Rattle.std.proofs.Common.{◌≡◌, ◌-◌, []}
use Rattle.resolver.specs.Replies.{found_at}
use Rattle.resolver.proofs.records.addresses_in.Given as goal

abbrev pub invariant-loop : goal.invariant-loop
invariant-loop l = found_at l.family (l.count - l.counter) l.found l.rest ≡ found_at l.family l.count [] l.bytes
