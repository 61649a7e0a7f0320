use Rattle.std.proofs.Common.{◌∙◌, ap}
use Rattle.peers.specs.declared.guest.Guest.{Guest}
use Rattle.peers.proofs.DiceLemmas.{among_same, among_self, among_trans, nonces_set}
use Rattle.peers.proofs.door.Door.make_way.Goals as goal

pub returns-in_default : goal.returns-in_default
returns-in_default c = record { nonces = among_self _ }

pub returns-in_default-get_mut : goal.returns-in_default-get_mut
returns-in_default-get_mut c = record { nonces = among_self _ }

-- a guest that is heard says the nonce that it said before
pub returns-in_err-gone : goal.returns-in_err-gone
returns-in_err-gone c =
    let heard = c.in-Some-get_mut.guest.now in
    record {
      nonces = among_same (
          nonces_set c.args.self.now.guests.list.items c.in-Some.place c.hear_last.new.guest heard
          (c.hear_last.ensures.side ∙ ap (λ (guest : Guest). guest.side) c.in-Some-get_mut.ensures.value)
          ) (among_self _);
    }

pub returns-in-Some-2 : goal.returns-in-Some-2
returns-in-Some-2 c =
    let heard = c.in-Some-get_mut.guest.now in
    record {
      nonces = among_trans c.drop_guest.ensures.nonces (among_same (
          nonces_set c.args.self.now.guests.list.items c.in-Some.place c.hear_last.new.guest heard
          (c.hear_last.ensures.side ∙ ap (λ (guest : Guest). guest.side) c.in-Some-get_mut.ensures.value)
          ) (among_self _));
    }

pub returns-in_default-2 : goal.returns-in_default-2
returns-in_default-2 c =
    let heard = c.in-Some-get_mut.guest.now in
    record {
      nonces = among_same (
          nonces_set c.args.self.now.guests.list.items c.in-Some.place c.hear_last.new.guest heard
          (c.hear_last.ensures.side ∙ ap (λ (guest : Guest). guest.side) c.in-Some-get_mut.ensures.value)
          ) (among_self _);
    }
