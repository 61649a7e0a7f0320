use Rattle.std.proofs.Common.{arith, ap, ◌∙◌, Ok}
use Rattle.peers.proofs.SealLemmas.{seals_front, front_fits, front_is_all, front_few, cut}
use Rattle.peers.proofs.link_wire.LinkWire.seal_frames.Goals as goal

pub invariant_of-self : goal.invariant_of-self
invariant_of-self c =
    let fits = front_fits c.seal_all.result _ _ c.front-front.result.now _ c.seal_all.new.out.items c.args.self.now.connection.bounds.unsent
    (front_few _ _ c.args.self.now.outbox _ c.saturating_sub-room.ensures c.front-front.ensures) c.requires.room c.args.self.now.wide
    c.seal_all.ensures.sealed (λ no. (c.seal_all.ensures.unchanged no).0) in
    (c.args.self.now.connection.heard_fits, (omega (arith, fits, c.seal_all.new.out.ok), tt))

pub returns-then-branch-clause-seals : goal.returns-then-branch-clause-seals
returns-then-branch-clause-seals c =
    let done = c.in_ok-seal_all.was ∙ ap Ok c.if-branch.true in
    seals_front c.args.self.now _ c.front-front.result.now (c.seal_all.ensures.sealed done)
    (cut c.saturating_sub-room.result _ _ _ c.front-front.ensures c.take_front.ensures)

pub returns-then-branch-clause-all : goal.returns-then-branch-clause-all
returns-then-branch-clause-all c = λ going few.
    let done = c.in_ok-seal_all.was ∙ ap Ok c.if-branch.true in
    front_is_all _ _ c.front-front.result.now c.args.self.now.connection.unsent.items c.seal_all.new.out.items c.args.self.now.outbox _
    c.saturating_sub-room.result (omega (arith, c.saturating_sub-room.ensures, c.len.ensures, c.args.self.now.connection.unsent.ok))
    c.front-front.ensures c.take_front.ensures (c.seal_all.ensures.sealed done) few
