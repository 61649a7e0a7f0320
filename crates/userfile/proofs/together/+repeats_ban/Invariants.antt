use Rattle.std.proofs.Common.{length}
use Rattle.userfile.proofs.together.+repeats_ban.Given as goal

abbrev pub decreases-repeats_ban : goal.decreases-repeats_ban
decreases-repeats_ban l = length l.bans.now
