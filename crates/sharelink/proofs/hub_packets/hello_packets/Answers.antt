use Rattle.sharelink.proofs.Sending.{changes-good, changes-few}
use Rattle.sharelink.proofs.hub_packets.hello_packets.Goals as goal

pub returns-else-version-floor-clause-good : goal.returns-else-version-floor-clause-good
returns-else-version-floor-clause-good c =
    changes-good (λ v. v.items) c.args.hub.now c.args.leaf c.args.version c.next_changes.result c.next_changes.ensures.packets

pub returns-else-version-floor-clause-few : goal.returns-else-version-floor-clause-few
returns-else-version-floor-clause-few c =
    changes-few (λ v. v.items) c.args.hub.now c.args.leaf c.args.version c.next_changes.result c.next_changes.ensures.packets
