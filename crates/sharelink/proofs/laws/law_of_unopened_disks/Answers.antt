use Rattle.sharelink.proofs.LeftLaws.{bots-never_refused, left-bots}
use Rattle.sharelink.proofs.laws.law_of_unopened_disks.Goals as goal

pub returns : goal.returns
returns g c = record {
  left = left-bots;
  never_refused = bots-never_refused g.D.Disk.state;
}
