use Rattle.std.proofs.Common.{[], ◌∷◌, length, arith}
use Rattle.usercodec.specs.Records.{entry_bytes}
use Rattle.usercodec.proofs.WriterLaws.{no_room}
use Rattle.usercodec.proofs.users.put_entries.Goals as goal

pub returns-in_err-put_entry-clause-memory : goal.returns-in_err-put_entry-clause-memory
returns-in_err-put_entry-clause-memory c =
    no_room entry_bytes c.args.entries.now c.loop-entry.entry-index c.entry-item.result (length c.args.entries.now ∷ [])
    c.args.out.now c.loop-entry.out c.from_residual-in_err-put_entry.result (omega arith) c.entry-item.is c.loop-entry.invariant.bytes
    c.loop-entry.invariant.capacity c.in_err-put_entry.ensures.memory
