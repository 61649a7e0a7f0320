use Rattle.std.proofs.Common.{refl}
use Rattle.peers.proofs.DiceLemmas.{among_self, draws_none, draws_then}
use Rattle.peers.proofs.door.Door.let_in.Goals as goal

pub loop-guest-init : goal.loop-guest-init
loop-guest-init g c = draws_none refl (among_self _)

pub loop-guest-preserved : goal.loop-guest-preserved
loop-guest-preserved g c =
    draws_then c.loop-guest.invariant (draws_then (draws_none refl c.make_way.ensures.nonces) c.greet.ensures.nonces)

pub returns-in_err-make_way : goal.returns-in_err-make_way
returns-in_err-make_way g c = record { nonces = draws_then c.loop-guest.invariant (draws_none refl c.make_way.ensures.nonces) }

pub returns-in_err-greet : goal.returns-in_err-greet
returns-in_err-greet g c = record {
  nonces = draws_then c.loop-guest.invariant (draws_then (draws_none refl c.make_way.ensures.nonces) c.greet.ensures.nonces);
}
