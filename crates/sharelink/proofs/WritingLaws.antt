-- What a ledger's append wrote.
use Rattle.std.proofs.Common.{Result, Ok, Err}
use Rattle.bytetext.specs.declared.failure.Failure.{Failure}
use Rattle.bytetext.specs.declared.failure.Failure.TheVariants.{Refused, NoMemory}
use Rattle.disks.specs.declared.disk.DiskFault.{DiskFault}
use Rattle.botjournal.specs.declared.entry.Entry.{Entry}
use Rattle.botjournal.specs.Ledger.{Ledger, Adding, Appends}
use Rattle.sharelink.specs.Kept.{WritesAny}

-- an entry that was appended was written
pub appended_written : (old new : Ledger) (entry : Entry) (result : Result (Unit {0}) (Failure DiskFault)) → Appends old entry result new
    → WritesAny old (Adding entry) result new
appended_written old new entry (Ok u) row = row
appended_written old new entry (Err (Refused fault)) row = row
appended_written old new entry (Err NoMemory) row = row
