use Rattle.std.proofs.Common.{length}
use Rattle.userfile.proofs.together.+repeats_channel.Given as goal

abbrev pub decreases-repeats_channel : goal.decreases-repeats_channel
decreases-repeats_channel l = length l.entries.now
