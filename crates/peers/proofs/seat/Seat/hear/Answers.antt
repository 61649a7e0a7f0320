use Rattle.std.proofs.Common.{ap, refl}
use Rattle.peers.specs.declared.link_wire.LinkWire.{LinkWire}
use Rattle.peers.proofs.HearingLemmas.{all_hands_on, heard_own, heard_hello, heard_layout, heard_persons, heard_reads, hands_nothing}
use Rattle.peers.proofs.seat.Seat.hear.Goals as goal

pub returns-clause-checked : goal.returns-clause-checked
returns-clause-checked c =
    all_hands_on c.read_frames.result _ _ c.args.self.now c.heed_beats.new.self c.read_frames.new.self c.open.new.self
    c.in_ok-opened.ensures.opens c.as_slice-2.ensures.value c.heed_beats.ensures.wire c.heed_beats.ensures.reader
    c.heed_beats.ensures.leaf c.heed_beats.ensures.may c.heed_beats.ensures.layout c.read_frames.ensures.reads

pub returns-clause-own : goal.returns-clause-own
returns-clause-own c = heard_own c.read_frames.result c.args.self.now c.read_frames.new.self (returns-clause-checked c)

pub returns-clause-hello : goal.returns-clause-hello
returns-clause-hello c = heard_hello c.read_frames.result c.args.self.now c.read_frames.new.self (returns-clause-checked c)

pub returns-clause-reads : goal.returns-clause-reads
returns-clause-reads c = heard_reads c.read_frames.result c.args.self.now c.read_frames.new.self (returns-clause-checked c)

pub returns-clause-persons : goal.returns-clause-persons
returns-clause-persons c = heard_persons c.read_frames.result c.args.self.now c.read_frames.new.self (returns-clause-checked c)

pub returns-clause-layout : goal.returns-clause-layout
returns-clause-layout c = heard_layout c.read_frames.result c.args.self.now c.read_frames.new.self (returns-clause-checked c)

pub returns-then-is_slow-clause-checked : goal.returns-then-is_slow-clause-checked
returns-then-is_slow-clause-checked c =
    hands_nothing c.args.self.now _ c.new.result.items c.new.ensures.items
    (ap (λ (w : LinkWire). w.connection.heard.items) c.rest.ensures) (ap (λ (w : LinkWire). w.opener) c.rest.ensures) refl refl
