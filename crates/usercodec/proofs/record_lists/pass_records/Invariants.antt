use Rattle.std.proofs.Common.{◌≡◌, ◌-◌, List}
use Rattle.usercodec.specs.declared.records.Record.{Record}
use Rattle.usercodec.specs.Records.{items_at, record_at, so_many_records_at}
use Rattle.usercodec.proofs.record_lists.pass_records.Given as goal

-- those passed so far, which the proof alone knows, and those that are left are all of them
abbrev pub invariant-loop : goal.invariant-loop
invariant-loop l = (held : List Record)
    × (items_at (λ held bytes. record_at bytes) (l.count - l.counter) held l.reader ≡ so_many_records_at l.count l.fn.reader)
