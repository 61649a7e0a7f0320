-- Where processes stand for a history, a request is accepted at most once, and is reported so.
use Rattle.std.proofs.Common.{◌≡◌, ℕ, zero, suc, List, [], ◌∷◌, Some, ap, sym, subst, ◌∙◌}
use Rattle.userfile.specs.declared.change.Change.{Change as UserChange}
use Rattle.sharewire.specs.declared.packet.Packet.{Packet}
use Rattle.protocol.specs.Numbers.{item_at}
use Rattle.protocol.specs.Packets.{AcceptedChange, Sent as LinkSent, from_wire}
use Rattle.protocol.specs.History.{History}
use Rattle.protocol.specs.Claims.{Holds, WasSent}
use Rattle.protocol.proofs.Holding.{holds}
use Rattle.botworld.specs.declared.sent.Sent.{Sent}
use Rattle.botworld.specs.Net.{packet_at}
use Rattle.botworld.specs.Network.{sent_as}
use Rattle.processes.specs.Deeds.{Net, IsTold}
use Rattle.processes.specs.Standing.{IsAmong, AreAmong, Stands}
use Rattle.processes.specs.Promises.{Once}

among-at : (told : List Sent) (packets : List LinkSent) (number : ℕ) (sent : Sent) → AreAmong told packets
    → packet_at told number ≡ Some sent → IsAmong (sent_as sent) packets
among-at told packets zero sent among at = cc
among-at [] packets (suc place) sent among at = cc
among-at (first ∷ told) packets (suc zero) sent among at =
    let same : first ≡ sent = cc in subst (λ (s : Sent). IsAmong (sent_as s) packets) same among.0
among-at (first ∷ told) packets (suc (suc place)) sent among at = among-at told packets (suc place) sent among.1 at

module _ (w : Net) (h : History) (st : Stands w h) where
  abbrev all_hold : Holds st.moment.net h
  all_hold = holds st.moment.net h st.moment.stands st.moment.sound

  was_sent : (packet : Packet) → IsTold w packet → WasSent h (from_wire packet)
  was_sent packet told =
      let found = among-at w.packets st.packets told.0 told.1 st.told told.2 in (
        found.0,
        sent_as told.1,
        ap (λ (ps : List LinkSent). item_at ps found.0) (sym (st.moment.packets_are ∙ st.moment.stands.packets))
            ∙ found.1,
        ap from_wire told.3,
      )

  abbrev entry : ℕ → ℕ → UserChange → AcceptedChange
  entry origin request change = record { origin = origin; request = request; change = change }

  pub stands_once : Once w
  stands_once = record {
    change = λ n m place request a b x y.
        let one = all_hold.changes n (suc place) request a (was_sent _ x) in
        let other = all_hold.changes m (suc place) request b (was_sent _ y) in
        let same = all_hold.once n m place request a b one other in
        let both : Some (entry (suc place) request a) ≡ Some (entry (suc place) request b) =
        sym one ∙ ap (item_at h.hub.kept.accepted) same ∙ other in
        let entries : entry (suc place) request a ≡ entry (suc place) request b = cc in
        (same, ap (λ (e : AcceptedChange). e.change) entries);
    accepted = λ n m place request a x y.
        all_hold.told n m place request a (all_hold.changes n (suc place) request a (was_sent _ x)) (was_sent _ y);
    not_refused = λ n place request a fault x y.
        all_hold.not_refused n place request a fault (all_hold.changes n (suc place) request a (was_sent _ x))
        (was_sent _ y);
    same = λ n o p r s a b x y.
        let both : Some (entry o r a) ≡ Some (entry p s b) =
        sym (all_hold.changes n o r a (was_sent _ x)) ∙ all_hold.changes n p s b (was_sent _ y) in
        let entries : entry o r a ≡ entry p s b = cc in (
          ap (λ (e : AcceptedChange). e.origin) entries,
          ap (λ (e : AcceptedChange). e.request) entries,
          ap (λ (e : AcceptedChange). e.change) entries,
        );
  }
