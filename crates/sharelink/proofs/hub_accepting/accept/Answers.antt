use Rattle.std.proofs.Common.{ap, ◌∙◌}
use Rattle.sharelink.specs.Calls.{outgoings_of}
use Rattle.sharelink.proofs.Sending.{goes-accepted}
use Rattle.sharelink.proofs.hub_accepting.accept.Goals as goal

pub returns-in-Ok-clause-packets : goal.returns-in-Ok-clause-packets
returns-in-Ok-clause-packets g c =
    goes-accepted c.who.result _ _ c.new.result c.who.ensures.end (ap outgoings_of c.new.ensures ∙ c.in_ok-packets.ensures)
