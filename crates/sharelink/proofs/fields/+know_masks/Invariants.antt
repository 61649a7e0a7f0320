use Rattle.std.proofs.Common.{length}
use Rattle.sharelink.proofs.fields.+know_masks.Given as goal

abbrev pub decreases-know_masks : goal.decreases-know_masks
decreases-know_masks l = length l.masks.now
