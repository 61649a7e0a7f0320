use Rattle.eggprocs.proofs.RecordedLemmas.{keepbans-only, keepbans-unbanned, keepbans-own, keepbans-bot, keeps-off, keeps-off-beside, sets-again, removals-left}
use Rattle.eggprocs.proofs.channel_laws.recorded_bans_are_kept.Goals as goal

pub returns : goal.returns
returns c = record {
  keepbans = keepbans-only;
  unbanned = keepbans-unbanned;
  others = keepbans-own;
  with_op = keepbans-bot;
  kept_off = keeps-off;
  beside = keeps-off-beside;
  again = sets-again;
  removals = removals-left;
}
