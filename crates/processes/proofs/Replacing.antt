-- A leaf that a new one replaces: the moment after that is sound.
use Rattle.std.proofs.Common.{◌≡◌, inl, inr, ◌≤◌, ◌<◌, ◌==◌, nat_lt, ◌&&◌, ℕ, zero, suc, Bool, true, false, if◌then◌else◌, List, [], ◌∷◌, length, length-set, slice_get, slice_set, None, Some, refl, ap, sym, ◌∙◌, arith, eq-eqb}
use Rattle.std.proofs.lemmas.Bool.{cases_lt, lt-ltb}
use Rattle.userfile.specs.declared.change.Change.{Change as UserChange}
use Rattle.userfile.specs.Changes.{by_nobody}
use Rattle.userfile.specs.declared.edit.Edit.TheVariants.{DelUser}
use Rattle.protocol.specs.Numbers.{item_at, set_at}
use Rattle.protocol.specs.Packets.{Packet, Sent, AcceptedChange}
use Rattle.protocol.specs.Packets.Packet.{Hello, Change, Request, Accepted, Refused, BotText, Part}
use Rattle.protocol.specs.LeafRules.{Leaf, no_loose}
use Rattle.protocol.specs.History.{LeafPast, History, asked_of, LeafGrows}
use Rattle.protocol.specs.Truth.{IsTrue, AllSent}
use Rattle.protocol.specs.Soundness.{IsOwned, HubSound, LeafSound, IsSound}
use Rattle.protocol.specs.Network.{Net}
use Rattle.protocol.specs.Standing.{LeafStands, BotStands, Stands}
use Rattle.protocol.specs.Ends.{End, AtHub, AtLeaf}
use Rattle.protocol.specs.Nets.{IsMoment}
use Rattle.protocol.proofs.Lists.{item_at-within, set_at-elim, set-elim}
use Rattle.protocol.proofs.Growing.{LeafGrows-refl}
use Rattle.protocol.proofs.NetLists.{leaf_ends-set}
use Rattle.sharelink.specs.BotLinks.{leaf_after}
use Rattle.processes.specs.Deeds.{is_unanswered}

-- ---- what was asked

-- the first `count` of these changes, with others after them if there are fewer
abbrev front : ℕ → List UserChange → List UserChange
front zero asked = []
front (suc count) [] = by_nobody (DelUser []) ∷ front count []
front (suc count) (change ∷ asked) = change ∷ front count asked

front-length : (count : ℕ) (asked : List UserChange) → length (front count asked) ≡ count
front-length zero asked = refl
front-length (suc count) [] = ap suc (front-length count [])
front-length (suc count) (change ∷ asked) = ap suc (front-length count asked)

front-get : (count : ℕ) (asked : List UserChange) (place : ℕ) (change : UserChange) → slice_get asked place ≡ Some change
    → place < count → slice_get (front count asked) place ≡ Some change
front-get zero asked place change at within = absurd (omega (arith, within))
front-get (suc count) [] place change at within = cc
front-get (suc count) (one ∷ asked) zero change at within = at
front-get (suc count) (one ∷ asked) (suc place) change at within =
    front-get count asked place change at (omega (arith, within))

front-at : (count : ℕ) (asked : List UserChange) (request : ℕ) (change : UserChange) → item_at asked request ≡ Some change
    → request ≤ count → item_at (front count asked) request ≡ Some change
front-at count asked zero change at within = cc
front-at count asked (suc place) change at within = front-get count asked place change at (omega (arith, within))

-- ---- what was sent

-- the packets but for the leaf's requests above this number
abbrev pub link_answered : (leaf last : ℕ) → List Sent → List Sent
link_answered leaf last [] = []
link_answered leaf last (sent ∷ packets) =
    if is_unanswered leaf last sent.packet then link_answered leaf last packets else sent ∷ link_answered leaf last packets

-- a request that stays has no higher number
within_last : (leaf last from request : ℕ) → ((from == leaf) && nat_lt last request) ≡ false → from ≡ leaf → request ≤ last
within_last leaf last from request stays same = elim (cases_lt last request) [
  | inl above ↦ let both : ((from == leaf) && nat_lt last request) ≡ true = rw (eq-eqb from leaf same) (lt-ltb last request above) in
      let bad : true ≡ false = sym both ∙ stays in cc
  | inr below ↦ below
]

-- ---- the moment

module _ (h : History) (sound : IsSound h) (place last : ℕ) (is : last ≡ length (h.hub.kept.answers (suc place))) where
  abbrev new_past : LeafPast
  new_past = record {
    kept = record { version = 0; asked = front last (h.leaves (suc place)).kept.asked; out = [] };
    loose = no_loose;
    down = false;
    doubt = None;
  }

  -- the leaf has asked for what the hub has replied to, and nothing more
  abbrev pub replaced : History
  replaced = record h {
    leaves = set_at h.leaves (suc place) new_past;
    packets = link_answered (suc place) last h.packets;
  }

  asked_kept : (leaf request : ℕ) (change : UserChange) → item_at (asked_of h.leaves leaf) request ≡ Some change
      → (leaf ≡ suc place → request ≤ last) → item_at (asked_of replaced.leaves leaf) request ≡ Some change
  asked_kept leaf request change =
      set_at-elim (λ k (l : LeafPast). item_at (asked_of h.leaves k) request ≡ Some change → (k ≡ suc place → request ≤ last)
      → item_at l.kept.asked request ≡ Some change) h.leaves (suc place) new_past
      (λ at within. front-at last (h.leaves (suc place)).kept.asked request change at (within refl)) (λ k at within. at) leaf

  owned : (number : ℕ) (entry : AcceptedChange) → item_at h.hub.kept.accepted number ≡ Some entry
      → IsOwned h.hub.kept.answers (asked_of replaced.leaves) number entry
  owned number entry at = elim (sound.hub.kept.owned number entry at) [
    | inl none ↦ inl none
    | inr t ↦ inr (
      t.0,
      asked_kept entry.origin entry.request entry.change t.1 (λ same.
          let within = item_at-within (h.hub.kept.answers entry.origin) entry.request _ t.0 in
          omega (arith, within, ap (λ leaf. length (h.hub.kept.answers leaf)) same, is)),
    )
  ]

  hub_sound : h.hub.doubt ≡ None → HubSound (asked_of replaced.leaves) h.hub
  hub_sound none = record {
    kept = record {
      taken = sound.hub.kept.taken;
      whole = sound.hub.kept.whole;
      owned = owned;
      floor = sound.hub.kept.floor;
    };
    loose = tt;
    doubt = λ entry e. let bad : None ≡ Some entry = sym none ∙ e in cc;
  }

  new_sound : LeafSound h.hub.kept (suc place) new_past
  new_sound = record {
    kept = record {
      version = omega arith;
      asked = tt;
      answered = λ request within. inr (omega (arith, within, front-length last (h.leaves (suc place)).kept.asked, is));
    };
    loose = λ set e. cc;
    doubt = λ entry e. cc;
  }

  still : (p : Packet) → is_unanswered (suc place) last p ≡ false → IsTrue h.hub.kept (asked_of h.leaves) p
      → IsTrue h.hub.kept (asked_of replaced.leaves) p
  still (Hello layout leaf version) stays t = t
  still (Change number origin request change) stays t = t
  still (Request leaf request change) stays t = asked_kept leaf request change t (within_last (suc place) last leaf request stays)
  still (Accepted leaf request number) stays t = t
  still (Refused leaf request fault) stays t = t
  still (BotText from to text) stays t = t
  still (Part version part count items) stays t = t

  packets_true : (packets : List Sent) → AllSent (IsTrue h.hub.kept (asked_of h.leaves)) packets
      → AllSent (IsTrue h.hub.kept (asked_of replaced.leaves)) (link_answered (suc place) last packets)
  packets_true [] t = tt
  packets_true (sent ∷ packets) t = by (is_unanswered (suc place) last sent.packet) refl (packets_true packets t.1)
    where
      by : (b : Bool) → is_unanswered (suc place) last sent.packet ≡ b
          → AllSent (IsTrue h.hub.kept (asked_of replaced.leaves)) (link_answered (suc place) last packets)
          → AllSent (IsTrue h.hub.kept (asked_of replaced.leaves))
          (if b then link_answered (suc place) last packets else sent ∷ link_answered (suc place) last packets)
      by true e rest = rest
      by false e rest = (still sent.packet e t.0, rest)

  replaced_sound : h.hub.doubt ≡ None → IsSound replaced
  replaced_sound none = record {
    hub = hub_sound none;
    leaves = set_at-elim (λ k (l : LeafPast). LeafSound h.hub.kept k l) h.leaves (suc place) new_past new_sound sound.leaves;
    packets = packets_true h.packets sound.packets;
  }

  -- the net with the new leaf
  abbrev replaced_net : Net → Net
  replaced_net net = record net {
    leaves = slice_set net.leaves place (leaf_after last);
    packets = link_answered (suc place) last net.packets;
  }

  new_stands : BotStands (LeafStands h.hub.kept.accepted) (leaf_after last) new_past
  new_stands = record {
    kept = record {
      version = refl;
      records = refl;
      last = sym (front-length last (h.leaves (suc place)).kept.asked);
      out = refl;
    };
    loose = refl;
    down = refl;
    doubt = refl;
  }

  replaced_stands : (net : Net) → Stands net h → Stands (replaced_net net) replaced
  replaced_stands net st = record {
    count = st.count;
    length = length-set net.leaves place (leaf_after last) ∙ st.length;
    hub = st.hub;
    leaves = set-elim (λ k (leaf : Leaf) (past : LeafPast). BotStands (LeafStands h.hub.kept.accepted) leaf past) net.leaves h.leaves
        place (leaf_after last) new_past (λ old at. new_stands) st.leaves;
    packets = ap (link_answered (suc place) last) st.packets;
  }

  pub replaced_moment : (ends : List End) (packets : List Sent) → IsMoment ends packets h → h.hub.doubt ≡ None
      → IsMoment (slice_set ends (suc place) (AtLeaf (leaf_after last))) (link_answered (suc place) last packets) replaced
  replaced_moment ends packets m none = record {
    net = replaced_net m.net;
    ends_are = ap (λ (es : List End). slice_set es (suc place) (AtLeaf (leaf_after last))) m.ends_are
        ∙ ap (λ (es : List End). AtHub m.net.hub ∷ es) (leaf_ends-set m.net.leaves place (leaf_after last));
    packets_are = ap (link_answered (suc place) last) m.packets_are;
    stands = replaced_stands m.net m.stands;
    sound = replaced_sound none;
  }

  -- the other leaves have what they had
  pub others_grow : (leaf : ℕ) → (suc place ≡ leaf → ⊥) → LeafGrows (h.leaves leaf).kept (replaced.leaves leaf).kept
  others_grow =
      set_at-elim (λ k (l : LeafPast). (suc place ≡ k → ⊥) → LeafGrows (h.leaves k).kept l.kept) h.leaves (suc place) new_past
      (λ other. absurd (other refl)) (λ k other. LeafGrows-refl (h.leaves k).kept)
