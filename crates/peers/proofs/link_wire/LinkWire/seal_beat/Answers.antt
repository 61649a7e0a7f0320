use Rattle.std.proofs.Common.{arith, refl, ap, ◌∙◌, Ok, length}
use Rattle.peers.proofs.SealLemmas.{seals_beat, beat_most, beat_fits}
use Rattle.peers.proofs.link_wire.LinkWire.seal_beat.Goals as goal

pub invariant_of-self : goal.invariant_of-self
invariant_of-self c =
    let fits = beat_fits c.seal.result _ _ c.deref.result.now _ c.seal.new.out.items c.args.self.now.connection.bounds.unsent
    (ap length c.deref.ensures.0 ∙ c.content-content.ensures.len) c.requires.room c.args.self.now.wide c.seal.ensures.record
    (λ no. (c.seal.ensures.unchanged no).0) in
    (c.args.self.now.connection.heard_fits, (omega (arith, fits, c.seal.new.out.ok), tt))

pub returns-then-branch-clause-seals : goal.returns-then-branch-clause-seals
returns-then-branch-clause-seals c =
    let done = c.in_ok-seal.was ∙ ap Ok c.if-branch.true in
    seals_beat c.args.self.now _ c.deref.result.now (omega (arith, ap length c.deref.ensures.0, c.content-content.ensures.len))
    (c.seal.ensures.record done) (c.seal.ensures.count done) refl

pub returns-then-branch-clause-few : goal.returns-then-branch-clause-few
returns-then-branch-clause-few c =
    let done = c.in_ok-seal.was ∙ ap Ok c.if-branch.true in
    beat_most _ _ c.deref.result.now _ _ (ap length c.deref.ensures.0 ∙ c.content-content.ensures.len) (c.seal.ensures.record done)
