use Rattle.std.proofs.Common.{◌≡◌, ◌-◌}
use Rattle.usercodec.specs.Records.{items_at}
use Rattle.usercodec.specs.Old.{record_at_old, so_many_records_at_old}
use Rattle.usercodec.proofs.record_lists.tagged_records_old.Given as goal

-- those so far and those that are left are all of them
abbrev pub invariant-loop : goal.invariant-loop
invariant-loop l = items_at (λ held bytes. record_at_old bytes) (l.count - l.counter) l.records.items l.reader ≡ so_many_records_at_old l.count l.fn.reader
