-- What each moment shows, and what two moments have in common.
use Rattle.std.proofs.Common.{◌≡◌, ◌+◌, ◌≤◌, ℕ, zero, suc, List, [], ◌∷◌, length, slice_get, Some, refl, ap, sym, subst, ◌∙◌, arith}
use Rattle.protocol.specs.Numbers.{item_at}
use Rattle.protocol.specs.Packets.{Packet, Sent}
use Rattle.protocol.specs.Packets.Packet.{Hello, Change, Request, Accepted, Refused, BotText, Part}
use Rattle.protocol.specs.Network.{Net, new_hub, new_leaf, new_leaves, new_net}
use Rattle.protocol.specs.History.{History, start, records_of, Grows}
use Rattle.protocol.specs.Soundness.{IsSound}
use Rattle.protocol.specs.Standing.{Stands}
use Rattle.protocol.specs.Claims.{WasSent}
use Rattle.protocol.proofs.Lists.{records_of-more, Extends-length}
use Rattle.protocol.proofs.Holding.{holds}
use Rattle.protocol.proofs.Runs.{start_stands, start_sound}
use Rattle.protocol.specs.Ends.{End, AtHub, AtLeaf, new_end, end_version, end_records}
use Rattle.protocol.specs.Nets.{leaf_ends, ends_of, IsMoment, IsShaped, Shows, Keeps}
use Rattle.protocol.proofs.NetLists.{leaf_ends-length, leaf_at}
use Rattle.protocol.proofs.NetGoes.{counts}

-- ---- at a moment

-- an end shows the records that its version means, and is not ahead of what was accepted
record IsAt (h : History) (end : End) : Type 0 where
  pub records : end_records end ≡ records_of h.hub.kept.accepted (end_version end)
  pub within : end_version end ≤ length h.hub.kept.accepted

module _ (net : Net) (h : History) (st : Stands net h) (sound : IsSound h) where
  each : (bot : ℕ) (end : End) → slice_get (ends_of net) bot ≡ Some end → IsAt h end
  each zero end at =
      let same : AtHub net.hub ≡ end = cc in
      subst (λ e. IsAt h e) same (record {
        records = st.hub.kept.records ∙ ap (records_of h.hub.kept.accepted) (sym (counts net h st sound));
        within = omega (arith, counts net h st sound);
      })
  each (suc place) end at =
      let found = leaf_at net.leaves place end at in
      let stands = (st.leaves place found.leaf found.at).kept in
      subst (λ e. IsAt h e) (sym found.is) (record {
        records = stands.records ∙ ap (records_of h.hub.kept.accepted) (sym stands.version);
        within = omega (arith, stands.version, (sound.leaves (suc place)).kept.version);
      })

  many : length (ends_of net) ≡ h.count + 1
  many = omega (arith, leaf_ends-length net.leaves, st.length)

  shaped : (packet : Packet) → WasSent h packet → IsShaped packet
  shaped (Hello layout leaf version) sent = tt
  shaped (Change number origin request change) sent = tt
  shaped (Request leaf request change) sent = tt
  shaped (Accepted leaf request number) sent = tt
  shaped (Refused leaf request fault) sent = tt
  shaped (BotText from to text) sent = tt
  shaped (Part version part count items) sent = (holds net h st sound).shapes version part count items sent

pub shows : (ends : List End) (packets : List Sent) (h : History) → IsMoment ends packets h → Shows ends packets h
shows ends packets h m = record {
  many = ap (λ (es : List End). length es) m.ends_are ∙ many m.net h m.stands m.sound;
  records = λ bot end at. (is bot end at).records;
  within = λ bot end at. (is bot end at).within;
  shapes = λ number sent at.
      shaped m.net h m.stands m.sound sent.packet
      (number, sent, ap (λ (ps : List Sent). item_at ps number) (sym (m.packets_are ∙ m.stands.packets)) ∙ at, refl);
}
  where
    is : (bot : ℕ) (end : End) → slice_get ends bot ≡ Some end → IsAt h end
    is bot end at =
        each m.net h m.stands m.sound bot end (ap (λ (es : List End). slice_get es bot) (sym m.ends_are) ∙ at)

-- ---- from one moment to a later one

-- no end's version goes back as history grows
version_grows : (net : Net) (h : History) → Stands net h → IsSound h → (net' : Net) (h' : History) → Stands net' h' → IsSound h' → Grows h h'
    → (bot : ℕ) (a b : End) → slice_get (ends_of net) bot ≡ Some a → slice_get (ends_of net') bot ≡ Some b → end_version a ≤ end_version b
version_grows net h st sound net' h' st' sound' grows zero a b at at' =
    let was : AtHub net.hub ≡ a = cc in
    let now : AtHub net'.hub ≡ b = cc in
    omega (
      arith,
      ap end_version was,
      ap end_version now,
      counts net h st sound,
      counts net' h' st' sound',
      Extends-length h.hub.kept.accepted h'.hub.kept.accepted grows.hub.accepted,
    )
version_grows net h st sound net' h' st' sound' grows (suc place) a b at at' =
    let was = leaf_at net.leaves place a at in
    let now = leaf_at net'.leaves place b at' in
    omega (
      arith,
      ap end_version was.is,
      ap end_version now.is,
      (st.leaves place was.leaf was.at).kept.version,
      (st'.leaves place now.leaf now.at).kept.version,
      (grows.leaves (suc place)).version,
    )

pub keeps : (ends : List End) (packets : List Sent) (h : History) → IsMoment ends packets h
    → (ends' : List End) (packets' : List Sent) (h' : History) → IsMoment ends' packets' h' → Grows h h' → Keeps ends ends'
keeps ends packets h m ends' packets' h' m' grows = record {
  same_records = λ one other a b at at' same.
      let was = shows ends packets h m in
      let now = shows ends' packets' h' m' in
      was.records one a at
      ∙ sym (records_of-more h.hub.kept.accepted h'.hub.kept.accepted (end_version a) grows.hub.accepted (was.within one a at))
      ∙ ap (records_of h'.hub.kept.accepted) same ∙ sym (now.records other b at');
  never_back = λ bot a b at at'.
      version_grows m.net h m.stands m.sound m'.net h' m'.stands m'.sound grows bot a b
      (ap (λ (es : List End). slice_get es bot) (sym m.ends_are) ∙ at) (ap (λ (es : List End). slice_get es bot) (sym m'.ends_are) ∙ at');
}

-- ---- the start

starts : (count : ℕ) → IsMoment (ends_of (new_net count)) [] (start count)
starts count = record {
  net = new_net count;
  ends_are = refl;
  packets_are = refl;
  stands = start_stands count;
  sound = start_sound count;
}

-- lists of ends that are new at each place
new_leaf_ends : (count : ℕ) (ends : List End) → length ends ≡ count
    → ((place : ℕ) (end : End) → slice_get ends place ≡ Some end → end ≡ AtLeaf new_leaf) → ends ≡ leaf_ends (new_leaves count)
new_leaf_ends zero [] many are = refl
new_leaf_ends zero (end ∷ ends) many are = cc
new_leaf_ends (suc count) [] many are = cc
new_leaf_ends (suc count) (end ∷ ends) many are =
    let rest = new_leaf_ends count ends (omega (arith, many)) (λ place e at. are (suc place) e at) in
    ap (λ e. e ∷ ends) (are zero end refl) ∙ ap (λ es. AtLeaf new_leaf ∷ es) rest

pub begins : (count : ℕ) (ends : List End) → length ends ≡ count + 1
    → ((place : ℕ) (end : End) → slice_get ends place ≡ Some end → end ≡ new_end place count) → IsMoment ends [] (start count)
begins count [] many are = absurd (omega (arith, many))
begins count (end ∷ ends) many are =
    let rest = new_leaf_ends count ends (omega (arith, many)) (λ place e at. are (suc place) e at) in
    subst (λ es. IsMoment es [] (start count))
    (sym (ap (λ e. e ∷ ends) (are zero end refl) ∙ ap (λ es. AtHub (new_hub count) ∷ es) rest)) (starts count)
