use Rattle.std.proofs.Common.{◌∙◌, ◌++◌, ◌∷◌, [], ap}
use Rattle.peers.specs.declared.door.Door.{Door}
use Rattle.handshake.specs.declared.hub_side.HubSide.{HubSide}
use Rattle.peers.specs.Drawn.{nonces_of}
use Rattle.peers.proofs.DiceLemmas.{among_more, among_same, among_self, draws_none, draws_one}
use Rattle.peers.proofs.door.Door.greet.Goals as goal

-- no nonce is drawn
pub returns-in_default : goal.returns-in_default
returns-in_default g c = record { nonces = draws_none c.in_default.ensures.none (among_self _) }

-- one is drawn, and nobody says it
pub returns-in_err-guest : goal.returns-in_err-guest
returns-in_err-guest g c = record {
  nonces = draws_one c.in-Ok.nonce c.in-Ok.ensures.rolled (among_more (nonces_of c.args.self.now.guests.list.items) (c.in-Ok.nonce ∷ []));
}

pub returns-in_err-arrive : goal.returns-in_err-arrive
returns-in_err-arrive g c = record {
  nonces = draws_one c.in-Ok.nonce c.in-Ok.ensures.rolled
      (among_same c.in_err-arrive.ensures.stays (among_more (nonces_of c.args.self.now.guests.list.items) (c.in-Ok.nonce ∷ [])));
}

-- the new guest says it
pub returns : goal.returns
returns g c =
    let old = nonces_of c.args.self.now.guests.list.items in
    record {
      nonces = draws_one c.in-Ok.nonce c.in-Ok.ensures.rolled (among_same (
          ap (λ (door : Door). nonces_of door.guests.list.items) c.name.ensures
          ∙ c.in_ok-arrive.ensures.comes
          ∙ ap (λ nonce. old ++ nonce ∷ []) (ap (λ (side : HubSide). side.nonce) c.in_ok-guest.ensures ∙ c.side.ensures.nonce)
          ) (among_self _));
    }
