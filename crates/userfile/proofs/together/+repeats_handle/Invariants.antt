use Rattle.std.proofs.Common.{length}
use Rattle.userfile.proofs.together.+repeats_handle.Given as goal

abbrev pub decreases-repeats_handle : goal.decreases-repeats_handle
decreases-repeats_handle l = length l.users.now
