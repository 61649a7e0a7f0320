use Rattle.std.proofs.Common.{length}
use Rattle.sharelink.proofs.fields.+know_entries.Given as goal

abbrev pub decreases-know_entries : goal.decreases-know_entries
decreases-know_entries l = length l.entries.now
