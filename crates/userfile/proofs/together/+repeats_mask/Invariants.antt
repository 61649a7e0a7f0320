use Rattle.std.proofs.Common.{length}
use Rattle.userfile.proofs.together.+repeats_mask.Given as goal

abbrev pub decreases-repeats_mask : goal.decreases-repeats_mask
decreases-repeats_mask l = length l.masks.now
