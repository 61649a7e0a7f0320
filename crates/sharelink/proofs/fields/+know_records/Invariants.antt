use Rattle.std.proofs.Common.{length}
use Rattle.sharelink.proofs.fields.+know_records.Given as goal

abbrev pub decreases-know_records : goal.decreases-know_records
decreases-know_records l = length l.items.now
