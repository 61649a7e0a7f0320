use Rattle.std.proofs.Common.{subst, sym}
use Rattle.std.specs.List.{AllByRecursion}
use Rattle.sharelink.specs.Shapes.{HasGoodRecords}
use Rattle.peers.proofs.PickingLemmas.{granted_good}
use Rattle.peers.proofs.hub_links.HubLinks.take_packets.Goals as goal

pub returns-clause-good : goal.returns-clause-good
returns-clause-good c =
    subst (AllByRecursion HasGoodRecords) (sym c.granted.ensures) (granted_good c.is_in_doubt-is_in_doubt.result _ c.in_ok-packets.ensures.good)
