-- What is promised holds at each sound moment.
use Rattle.std.proofs.Common.{◌≡◌, inl, inr, ℕ, zero, suc, ◌≤◌, length, slice_get, Option, None, Some, refl, ap, sym, subst, ◌∙◌, arith}
use Rattle.std.specs.List.{AllByRecursion}
use Rattle.std.specs.Option.{option_map}
use Rattle.userfile.specs.Records.{Records}
use Rattle.userfile.specs.declared.change.Change.{Change as UserChange}
use Rattle.usercodec.specs.Records.{HasShape}
use Rattle.botjournal.specs.declared.reply.Verdict.TheVariants.{Taken, Refused as refused_request}
use Rattle.protocol.specs.Numbers.{item_at}
use Rattle.protocol.specs.Packets.{Packet}
use Rattle.protocol.specs.Packets.Packet.{Hello, Change, Request, Accepted, Refused, Part}
use Rattle.protocol.specs.HubRules.{version_of}
use Rattle.protocol.specs.LeafRules.{Leaf}
use Rattle.protocol.specs.History.{History, asked_of, records_of, Grows}
use Rattle.protocol.specs.Truth.{IsTrue}
use Rattle.protocol.specs.Soundness.{IsSound}
use Rattle.protocol.specs.Network.{Net, Course, Step, stepped}
use Rattle.protocol.specs.Standing.{Stands}
use Rattle.protocol.specs.Claims.{shown_version, shown_records, WasSent, WasTaken, Holds, Lawful}
use Rattle.protocol.proofs.Lists.{records_of-more, Extends-length}
use Rattle.protocol.proofs.Truth.{AllSent-at}
use Rattle.protocol.proofs.HubGoes.{version_stands}
use Rattle.protocol.proofs.Steps.{follows}
use Rattle.protocol.proofs.Shapes.{part_shaped}

-- ---- at a moment

module _ (w : Net) (s : History) (st : Stands w s) (sound : IsSound s) where
  -- what was sent is so
  so : (p : Packet) → WasSent s p → IsTrue s.hub.kept (asked_of s.leaves) p
  so p sent =
      let says = IsTrue s.hub.kept (asked_of s.leaves) in
      subst says sent.3 (AllSent-at says s.packets sent.0 sent.1 sound.packets sent.2)

  version : version_of w.hub.kept ≡ length s.hub.kept.accepted
  version = version_stands (asked_of s.leaves) w.hub.kept s.hub.kept st.hub.kept sound.hub.kept

  -- the answer to an accepted request, and its change
  owned : (n k r : ℕ) (c : UserChange) → WasTaken s n (suc k) r c
      → (item_at (s.hub.kept.answers (suc k)) r ≡ Some (Taken n)) × (item_at (asked_of s.leaves (suc k)) r ≡ Some c)
  owned n k r c at = elim (sound.hub.kept.owned n (record { origin = suc k; request = r; change = c }) at) [
    | inl none ↦ absurd (omega (arith, none))
    | inr t ↦ t
  ]

  records : (bot : ℕ) → shown_records w bot ≡ option_map (records_of s.hub.kept.accepted) (shown_version w bot)
  records zero = ap (λ (r : Records). Some r) (st.hub.kept.records ∙ ap (records_of s.hub.kept.accepted) (sym version))
  records (suc place) = by (slice_get w.leaves place) refl
    where
      by : (o : Option Leaf) → slice_get w.leaves place ≡ o
          → option_map (λ (leaf : Leaf). leaf.kept.records) o
          ≡ option_map (records_of s.hub.kept.accepted) (option_map (λ (leaf : Leaf). leaf.kept.version) o)
      by None e = refl
      by (Some x) e =
          let t =
          (st.leaves place x e).kept in ap (λ (r : Records). Some r) (t.records ∙ ap (records_of s.hub.kept.accepted) (sym t.version))

  within : (bot v : ℕ) → shown_version w bot ≡ Some v → v ≤ length s.hub.kept.accepted
  within zero v is = let same : version_of w.hub.kept ≡ v = cc in omega (arith, version, same)
  within (suc place) v is = by (slice_get w.leaves place) refl is
    where
      by : (o : Option Leaf) → slice_get w.leaves place ≡ o → option_map (λ (leaf : Leaf). leaf.kept.version) o ≡ Some v
          → v ≤ length s.hub.kept.accepted
      by None e is = cc
      by (Some x) e is =
          let same : x.kept.version ≡ v = cc in
          omega (arith, same, (st.leaves place x e).kept.version, (sound.leaves (suc place)).kept.version)

  pub holds : Holds w s
  holds = record {
    records = records;
    within = within;
    once = λ n m k r a b x y.
        let both : Some (Taken n) ≡ Some (Taken m) = sym (owned n k r a x).0 ∙ (owned m k r b y).0 in
        let same : Taken n ≡ Taken m = cc in cc;
    told = λ n m k r c x sent.
        let both : Some (Taken m) ≡ Some (Taken n) = sym (so (Accepted (suc k) r m) sent) ∙ (owned n k r c x).0 in
        let same : Taken m ≡ Taken n = cc in cc;
    not_refused = λ n k r c fault x sent.
        let both : Some (refused_request fault) ≡ Some (Taken n) = sym (so (Refused (suc k) r fault) sent) ∙ (owned n k r c x).0 in cc;
    asked = λ n k r c d x sent.
        let both : Some d ≡ Some c = sym (so (Request (suc k) r d) sent) ∙ (owned n k r c x).1 in cc;
    one_change = λ i r a b x y.
        let both : Some a ≡ Some b = sym (so (Request i r a) x) ∙ so (Request i r b) y in cc;
    changes = λ n o r c sent. so (Change n o r c) sent;
    layouts = λ layout leaf v sent. so (Hello layout leaf v) sent;
    parts = λ v i k items sent. let t = so (Part v i k items) sent in (t.many, t.these);
    shapes = λ v i k items sent.
        let t = so (Part v i k items) sent in
        subst (AllByRecursion HasShape) (sym t.these) (part_shaped (records_of s.hub.kept.accepted v) i (sound.hub.kept.whole v t.reached));
  }

-- ---- at two moments

-- the same version means the same records
pub same_records : (w : Net) (s : History) (w' : Net) (s' : History) → Holds w s → Holds w' s' → Grows s s'
    → (bot bot' v : ℕ) → shown_version w bot ≡ Some v → shown_version w' bot' ≡ Some v → shown_records w bot ≡ shown_records w' bot'
same_records w s w' s' h h' grows bot bot' v is is' =
    h.records bot ∙ ap (option_map (records_of s.hub.kept.accepted)) is
    ∙ ap (λ (r : Records). Some r) (sym (records_of-more s.hub.kept.accepted s'.hub.kept.accepted v grows.hub.accepted (h.within bot v is)))
    ∙ ap (option_map (records_of s'.hub.kept.accepted)) (sym is') ∙ sym (h'.records bot')

-- a leaf's version is that of history
leaf_version : (w : Net) (s : History) → Stands w s → (place v : ℕ) → shown_version w (suc place) ≡ Some v
    → v ≡ (s.leaves (suc place)).kept.version
leaf_version w s st place v is = by (slice_get w.leaves place) refl is
  where
    by : (o : Option Leaf) → slice_get w.leaves place ≡ o → option_map (λ (leaf : Leaf). leaf.kept.version) o ≡ Some v
        → v ≡ (s.leaves (suc place)).kept.version
    by None e is = cc
    by (Some x) e is = let same : x.kept.version ≡ v = cc in sym same ∙ (st.leaves place x e).kept.version

-- no version goes back as history grows
pub versions_grow : (w : Net) (s : History) → Stands w s → IsSound s → (w' : Net) (s' : History) → Stands w' s' → IsSound s'
    → Grows s s'
    → (bot v v' : ℕ) → shown_version w bot ≡ Some v → shown_version w' bot ≡ Some v' → v ≤ v'
versions_grow w s st sound w' s' st' sound' grows zero v v' is is' =
    let was : version_of w.hub.kept ≡ v = cc in
    let now : version_of w'.hub.kept ≡ v' = cc in
    omega
    (arith, was, now, version w s st sound, version w' s' st' sound', Extends-length s.hub.kept.accepted s'.hub.kept.accepted grows.hub.accepted)
versions_grow w s st sound w' s' st' sound' grows (suc place) v v' is is' =
    omega (arith, leaf_version w s st place v is, leaf_version w' s' st' place v' is', (grows.leaves (suc place)).version)

pub lawful : (w : Net) (s : History) → (st : Stands w s) → (sound : IsSound s) → (course : Course) (step : Step)
    → Lawful w s (stepped course w step) (follows w s st sound course step).after
lawful w s st sound course step =
    let next = follows w s st sound course step in
    record {
      grows = next.grows;
      versions = versions_grow w s st sound (stepped course w step).after next.after next.stands next.sound next.grows;
      answers = next.answers;
      fine = next.fine;
    }
