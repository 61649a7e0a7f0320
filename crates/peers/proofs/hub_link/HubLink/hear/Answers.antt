use Rattle.peers.proofs.HearingLemmas.{hears_hub}
use Rattle.peers.proofs.hub_link.HubLink.hear.Goals as goal

pub returns-clause-checked : goal.returns-clause-checked
returns-clause-checked c =
    hears_hub c.read_frames.result _ _ c.args.self.now c.heed_beats.new.self c.read_frames.new.self c.open.new.self
    c.in_ok-opened.ensures.opens c.as_slice-2.ensures.value c.heed_beats.ensures.wire c.heed_beats.ensures.reader
    c.read_frames.ensures.reads c.read_frames.ensures.wire
