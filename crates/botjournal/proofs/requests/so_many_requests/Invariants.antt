use Rattle.std.proofs.Common.{◌≡◌, ◌-◌, []}
use Rattle.usercodec.specs.Records.{items_at}
use Rattle.botjournal.specs.Bases.{request_at}
use Rattle.botjournal.proofs.requests.so_many_requests.Given as goal

-- those so far and those that are left are all of them
abbrev pub invariant-loop : goal.invariant-loop
invariant-loop l = items_at (λ held bytes. request_at l.layout bytes) (l.count - l.counter) l.requests.items l.reader
    ≡ items_at (λ held bytes. request_at l.layout bytes) l.count [] l.fn.reader
