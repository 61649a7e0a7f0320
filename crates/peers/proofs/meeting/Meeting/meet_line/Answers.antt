use Rattle.handshake.proofs.HeirLemmas.{told_after}
use Rattle.peers.proofs.meeting.Meeting.meet_line.Goals as goal

-- the hub's line is still among the bytes that were heard
pub invariant_of-self-in-Refused-clause-told_by : goal.invariant_of-self-in-Refused-clause-told_by
invariant_of-self-in-Refused-clause-told_by c =
    told_after c.args.self.now.side c.hear.new.self c.args.self.now.connection.heard.items c.as_slice.result.now c.in-Refused.fault
    c.is_heir-self.result c.as_slice.ensures.value c.in-Refused.ensures.hears c.in-Refused.ensures.after c.is_heir-self.ensures
