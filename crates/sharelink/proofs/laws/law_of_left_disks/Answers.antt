use Rattle.sharelink.proofs.LeftLaws.{never_refused}
use Rattle.sharelink.proofs.laws.law_of_left_disks.Goals as goal

pub returns : goal.returns
returns g c = never_refused g.D.Disk.state
