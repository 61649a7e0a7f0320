use Rattle.std.proofs.Common.{refl}
use Rattle.protocol.specs.Journals.{leaf_meaning}
use Rattle.botjournal.specs.Ledger.{device_on}
use Rattle.sharelink.proofs.AnewLaws.{gates-still, left-still}
use Rattle.sharelink.specs.LeafLinks.{RenewsLeaf}
use Rattle.sharelink.proofs.leaf_link.LeafLink.open.Goals as goal

pub returns-in_default-clause-any_moment : goal.returns-in_default-clause-any_moment
returns-in_default-clause-any_moment g c =
    let state = g.D.Disk.state in
    left-still state c.args.first c.args.second (leaf_meaning c.args.number) RenewsLeaf
    (device_on (state c.args.first) (state c.args.second)) c.requires.first_settled c.requires.second_settled (refl, refl, refl, refl)

pub returns-in_default-clause-gates : goal.returns-in_default-clause-gates
returns-in_default-clause-gates g c =
    let state = g.D.Disk.state in
    gates-still state c.args.first c.args.second (device_on (state c.args.first) (state c.args.second)) c.requires.first_settled
    c.requires.second_settled (refl, refl, refl, refl)
