-- What a call of one bot leaves is a moment that history grew into.
use Rattle.std.proofs.Common.{◌≡◌, ◌⊎◌, inl, inr, ◌+◌, ℕ, zero, suc, List, [], ◌∷◌, ◌++◌, length, length-append, append-nil, slice_get, Some, Result, Ok, refl, ap, sym, subst, ◌∙◌, arith}
use Rattle.protocol.specs.Numbers.{item_at}
use Rattle.protocol.specs.Packets.{Sent, AcceptedChange}
use Rattle.protocol.specs.Notes.{Note, LinkFault}
use Rattle.protocol.specs.Notes.Note.{Accepted, Restarted}
use Rattle.protocol.specs.Bots.{How, Row}
use Rattle.protocol.specs.HubRules.{Hub, version_of, hub_received}
use Rattle.protocol.specs.LeafRules.{Leaf, leaf_received}
use Rattle.protocol.specs.Network.{Net, Event, At, Deliver, Report, Makes, hub_stepped, leaf_stepped, leaf_met, at_bot, delivered, hub_event, leaf_event}
use Rattle.protocol.specs.History.{History, asked_of, Extends, Grows}
use Rattle.protocol.specs.Soundness.{IsSound}
use Rattle.protocol.specs.Standing.{Stands}
use Rattle.protocol.specs.Claims.{MovesAsTold as NetMoves, TellsOf}
use Rattle.protocol.proofs.HubGoes.{version_stands}
use Rattle.protocol.proofs.Steps.{Follows as NetFollows, follows}
use Rattle.protocol.proofs.Moves.{moves_as_told}
use Rattle.protocol.specs.Ends.{End, AtHub, AtLeaf, of_hub, of_leaf, end_did, end_received}
use Rattle.protocol.specs.Nets.{ends_of, IsMoment, TellsReached, MovesAsTold, RowFollows}
use Rattle.protocol.proofs.NetLists.{leaf_ends-set, leaf_at}
use Rattle.protocol.proofs.Telling.{IsSo, Tells, event_tells, received_tells}

-- ---- the accepted changes

-- the hub's version counts the accepted changes
pub counts : (net : Net) (h : History) → Stands net h → IsSound h → version_of net.hub.kept ≡ length h.hub.kept.accepted
counts net h st sound = version_stands (asked_of h.leaves) net.hub.kept h.hub.kept st.hub.kept sound.hub.kept

-- a list that grew by none, or by one
grew_none : (old new : List AcceptedChange) → Extends old new → length new ≡ length old → new ≡ old
grew_none old new ([], is) same = is ∙ append-nil old
grew_none old new (entry ∷ more, is) same =
    absurd (omega (arith, same, ap length is, length-append old (entry ∷ more)))

grew_one : (old new : List AcceptedChange) → Extends old new → length new ≡ length old + 1
    → (entry : AcceptedChange) × (new ≡ old ++ entry ∷ [])
grew_one old new ([], is) more = absurd (omega (arith, more, ap length is, length-append old []))
grew_one old new (entry ∷ [], is) more = (entry, is)
grew_one old new (entry ∷ other ∷ rest, is) more =
    absurd (omega (arith, more, ap length is, length-append old (entry ∷ other ∷ rest)))

-- what the net's step says of the hub's version, said of the accepted changes
module _ (net : Net) (h : History) (st : Stands net h) (sound : IsSound h) where
  moved : (bot : ℕ) (told : Result Note LinkFault) (after : Net) (h' : History) → Stands after h' → IsSound h' → Grows h h'
      → ((version_of after.hub.kept ≡ version_of net.hub.kept)
      ⊎ ((version_of after.hub.kept ≡ version_of net.hub.kept + 1) × TellsOf (version_of net.hub.kept + 1) (Report bot told)))
      → (bot ≡ 0 → IsSo (version_of net.hub.kept) (version_of after.hub.kept) told)
      → MovesAsTold h.hub.kept.accepted h'.hub.kept.accepted bot told
  moved bot told after h' st' sound' grows moves so =
      record { stay_or_grow = by moves; accepted = accepted; restarted = restarted }
    where
      old : List AcceptedChange
      old = h.hub.kept.accepted

      new : List AcceptedChange
      new = h'.hub.kept.accepted

      was : version_of net.hub.kept ≡ length old
      was = counts net h st sound

      now : version_of after.hub.kept ≡ length new
      now = counts after h' st' sound'

      this : TellsOf (version_of net.hub.kept + 1) (Report bot told) → TellsReached (length old + 1) bot told
      this (inl e) =
          let here : bot ≡ 0 = cc in
          let says : told ≡ Ok (Accepted (version_of net.hub.kept + 1)) = cc in
          (here, inl (says ∙ ap (λ v. Ok (Accepted (v + 1))) was))
      this (inr e) =
          let here : bot ≡ 0 = cc in
          let says : told ≡ Ok (Restarted (version_of net.hub.kept + 1)) = cc in
          (here, inr (says ∙ ap (λ v. Ok (Restarted (v + 1))) was))

      by : ((version_of after.hub.kept ≡ version_of net.hub.kept)
          ⊎ ((version_of after.hub.kept ≡ version_of net.hub.kept + 1) × TellsOf (version_of net.hub.kept + 1) (Report bot told)))
          → (new ≡ old) ⊎ ((entry : AcceptedChange) × (new ≡ old ++ entry ∷ []) × TellsReached (length old + 1) bot told)
      by (inl same) = inl (grew_none old new grows.hub.accepted (omega (arith, same, was, now)))
      by (inr more) =
          let grew = grew_one old new grows.hub.accepted (omega (arith, more.0, was, now)) in
          inr (grew.0, grew.1, this more.1)

      accepted : (number : ℕ) → bot ≡ 0 → told ≡ Ok (Accepted number) → (number ≡ length old + 1) × (length new ≡ number)
      accepted number here says =
          let is = subst (λ t. IsSo (version_of net.hub.kept) (version_of after.hub.kept) t) says (so here) in
          (omega (arith, is.0, was), omega (arith, is.1, now))

      restarted : (version : ℕ) → bot ≡ 0 → told ≡ Ok (Restarted version) → length new ≡ version
      restarted version here says =
          let is = subst (λ t. IsSo (version_of net.hub.kept) (version_of after.hub.kept) t) says (so here) in
          omega (arith, is, now)

  -- ---- a step of the net, said of the ends

  from_hub : (row : Row Hub) → NetFollows h (hub_stepped net row) → NetMoves net (hub_stepped net row) → Tells net.hub row
      → RowFollows h (ends_of net) net.packets 0 (of_hub row)
  from_hub row next moves so = record {
    after = next.after;
    moment = record {
      net = (hub_stepped net row).after;
      ends_are = refl;
      packets_are = refl;
      stands = next.stands;
      sound = next.sound;
    };
    count = sym next.stands.count ∙ st.count;
    grows = next.grows;
    answers = next.answers;
    fine = next.fine;
    moves = moved 0 row.told (hub_stepped net row).after next.after next.stands next.sound next.grows moves (λ here. so);
  }

  from_leaf : (place : ℕ) (row : Row Leaf) → NetFollows h (leaf_stepped net place row) → NetMoves net (leaf_stepped net place row)
      → RowFollows h (ends_of net) net.packets (suc place) (of_leaf row)
  from_leaf place row next moves = record {
    after = next.after;
    moment = record {
      net = (leaf_stepped net place row).after;
      ends_are = ap (λ ends. AtHub net.hub ∷ ends) (leaf_ends-set net.leaves place row.after);
      packets_are = refl;
      stands = next.stands;
      sound = next.sound;
    };
    count = sym next.stands.count ∙ st.count;
    grows = next.grows;
    answers = next.answers;
    fine = next.fine;
    moves = moved (suc place) row.told (leaf_stepped net place row).after next.after next.stands next.sound next.grows moves (λ here. cc);
  }

  -- the row of one bot, where the net's step is that row
  at_some_end : (bot : ℕ) (end : End) (hub_row : Row Hub) (leaf_row : ℕ → Leaf → Row Leaf) (of : End → Row End)
      → of (AtHub net.hub) ≡ of_hub hub_row
      → ((place : ℕ) (leaf : Leaf) → bot ≡ suc place → of (AtLeaf leaf) ≡ of_leaf (leaf_row bot leaf))
      → NetFollows h (at_bot net bot hub_row leaf_row) → NetMoves net (at_bot net bot hub_row leaf_row) → Tells net.hub hub_row
      → slice_get (ends_of net) bot ≡ Some end → RowFollows h (ends_of net) net.packets bot (of end)
  at_some_end zero end hub_row leaf_row of is_hub is_leaf next moves so at =
      let same : AtHub net.hub ≡ end = cc in
      subst (λ row. RowFollows h (ends_of net) net.packets 0 row) (sym is_hub ∙ ap of same) (from_hub hub_row next moves so)
  at_some_end (suc place) end hub_row leaf_row of is_hub is_leaf next moves so at =
      let found = leaf_at net.leaves place end at in
      let met : at_bot net (suc place) hub_row leaf_row ≡ leaf_stepped net place (leaf_row (suc place) found.leaf) =
      ap (leaf_met net place (leaf_row (suc place))) found.at in
      subst (λ row. RowFollows h (ends_of net) net.packets (suc place) row)
      (sym (is_leaf place found.leaf refl) ∙ ap of (sym found.is))
      (from_leaf place (leaf_row (suc place) found.leaf) (subst (λ s. NetFollows h s) met next) (subst (λ s. NetMoves net s) met moves))

  did_follows : (how : How) (event : Event) (bot : ℕ) (end : End) → slice_get (ends_of net) bot ≡ Some end
      → RowFollows h (ends_of net) net.packets bot (end_did net.count bot how end event)
  did_follows how event bot end at =
      at_some_end bot end (hub_event net.count how net.hub event) (λ number leaf. leaf_event net.count how number leaf event)
      (λ e. end_did net.count bot how e event) refl (λ place leaf same. refl) (follows net h st sound (Makes how) (At bot event))
      (moves_as_told (Makes how) net (At bot event)) (event_tells net.count how net.hub event) at

  received_follows : (how : How) (sent : Sent) (number : ℕ) (end : End) → item_at net.packets number ≡ Some sent
      → slice_get (ends_of net) sent.to ≡ Some end
      → RowFollows h (ends_of net) net.packets sent.to (end_received net.count sent.to how end sent.packet)
  received_follows how sent number end was at =
      let met : delivered how net (item_at net.packets number) ≡ delivered how net (Some sent) = ap (delivered how net) was in
      at_some_end sent.to end (hub_received net.count how net.hub sent.packet)
      (λ place leaf. leaf_received net.count place how leaf sent.packet) (λ e. end_received net.count sent.to how e sent.packet) refl
      (λ place leaf same. refl) (subst (λ s. NetFollows h s) met (follows net h st sound (Makes how) (Deliver number)))
      (subst (λ s. NetMoves net s) met (moves_as_told (Makes how) net (Deliver number)))
      (received_tells net.count how net.hub sent.packet) at

-- ---- for whoever holds the ends and the packets

-- a bot that acts as an event says
pub did_goes : (ends : List End) (packets : List Sent) (h : History) → IsMoment ends packets h → (leaves bot : ℕ) (end : End) (how : How)
    (event : Event) → leaves ≡ h.count → slice_get ends bot ≡ Some end
    → RowFollows h ends packets bot (end_did leaves bot how end event)
did_goes ends packets h m leaves bot end how event same at =
    subst (λ es. RowFollows h es packets bot (end_did leaves bot how end event)) (sym m.ends_are)
    (subst (λ ps. RowFollows h (ends_of m.net) ps bot (end_did leaves bot how end event)) (sym m.packets_are)
    (subst (λ n. RowFollows h (ends_of m.net) m.net.packets bot (end_did n bot how end event)) (m.stands.count ∙ sym same)
    (did_follows m.net h m.stands m.sound how event bot end
    (subst (λ (es : List End). slice_get es bot ≡ Some end) m.ends_are at))))

-- a bot that takes a packet of its own that was sent
pub received_goes : (ends : List End) (packets : List Sent) (h : History) → IsMoment ends packets h → (leaves : ℕ) (number : ℕ)
    (sent : Sent) (end : End) (how : How) → leaves ≡ h.count → item_at packets number ≡ Some sent → slice_get ends sent.to ≡ Some end
    → RowFollows h ends packets sent.to (end_received leaves sent.to how end sent.packet)
received_goes ends packets h m leaves number sent end how same was at =
    subst (λ es. RowFollows h es packets sent.to (end_received leaves sent.to how end sent.packet)) (sym m.ends_are)
    (subst (λ ps. RowFollows h (ends_of m.net) ps sent.to (end_received leaves sent.to how end sent.packet)) (sym m.packets_are)
    (subst (λ n. RowFollows h (ends_of m.net) m.net.packets sent.to (end_received n sent.to how end sent.packet))
    (m.stands.count ∙ sym same)
    (received_follows m.net h m.stands m.sound how sent number end
    (subst (λ (ps : List Sent). item_at ps number ≡ Some sent) m.packets_are was)
    (subst (λ (es : List End). slice_get es sent.to ≡ Some end) m.ends_are at))))
