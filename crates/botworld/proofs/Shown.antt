-- What the bots show is what the links of their net show, and so what happened means by it.
use Rattle.std.proofs.Common.{◌≡◌, ℕ, zero, suc, ◌<◌, ◌≤◌, List, [], ◌∷◌, ◌++◌, length, slice_get, slice_set}
use Rattle.std.proofs.Common.{Option, None, Some, get_or, refl, ap, sym, ◌∙◌, arith}
use Rattle.std.proofs.lemmas.Option.{slice_get_within, slice_get_past, slice_get_read}
use Rattle.std.specs.Option.{option_map}
use Rattle.protocol.specs.Packets.{Packet, Sent as LinkSent, from_wire}
use Rattle.protocol.specs.LeafRules.{Leaf}
use Rattle.protocol.specs.History.{asked_of, records_of, Grows}
use Rattle.protocol.specs.Truth.{IsTrue}
use Rattle.protocol.specs.Network.{Net as LinkNet, posted as link_posted}
use Rattle.protocol.specs.Claims.{Holds, shown_version as link_shows_version, shown_records as link_shows_records}
use Rattle.protocol.proofs.Holding.{holds, same_records, versions_grow}
use Rattle.protocol.proofs.Truth.{AllSent-at}
use Rattle.sharelink.specs.declared.answer.Outgoing.{Outgoing}
use Rattle.sharelink.specs.Calls.{outgoings_of}
use Rattle.protocol.specs.Ends.{End as LinkEnd, end_version, end_records}
use Rattle.protocol.specs.Nets.{leaf_ends, ends_of as ends_in}
use Rattle.botcore.specs.Bots.{Bot}
use Rattle.botcore.specs.Links.{link_version, link_records}
use Rattle.botworld.specs.declared.sent.Sent.{Sent}
use Rattle.botworld.specs.Net.{Net, packet_at, posted, shown_version, shown_records}
use Rattle.botworld.specs.Network.{State, accepted_by, ends_of, sent_as, all_sent, IsSound, IsTruePacket, NeverBack, KeepsPromises}
use Rattle.botworld.specs.Standing.{SameRecords}

-- ---- the ends of bots

pub ends_of-get : (bots : List Bot) (i : ℕ) (b : Bot) → slice_get bots i ≡ Some b → slice_get (ends_of bots) i ≡ Some b.link.end
ends_of-get [] i b e = cc
ends_of-get (x ∷ bots) zero b e = let same : x ≡ b = cc in ap (λ (b : Bot). Some b.link.end) same
ends_of-get (x ∷ bots) (suc i) b e = ends_of-get bots i b e

pub ends_of-set : (bots : List Bot) (i : ℕ) (b : Bot) → ends_of (slice_set bots i b) ≡ slice_set (ends_of bots) i b.link.end
ends_of-set [] i b = refl
ends_of-set (x ∷ bots) zero b = refl
ends_of-set (x ∷ bots) (suc i) b = ap (λ (es : List LinkEnd). x.link.end ∷ es) (ends_of-set bots i b)

-- what the bot at a place shows, and that none is there
module _ {A : Type 0} (of : Bot → A) (w : Net) (bots : List Bot) (i : ℕ) (all : bots ≡ w.bots) where
  pub shown-none : length bots ≤ i → option_map of (slice_get w.bots i) ≡ None
  shown-none past = ap (option_map of) (ap (λ (bs : List Bot). slice_get bs i) (sym all) ∙ slice_get_past bots i past)

  pub shown-some : (b : Bot) → i < length bots → b ≡ get_or bots i b → option_map of (slice_get w.bots i) ≡ Some (of b)
  shown-some b there is =
      ap (option_map of) (ap (λ (bs : List Bot). slice_get bs i) (sym all) ∙ slice_get_read bots (length bots) i b refl there is)

-- ---- packets

pub all_sent-append : (xs ys : List Sent) → all_sent (xs ++ ys) ≡ all_sent xs ++ all_sent ys
all_sent-append [] ys = refl
all_sent-append (x ∷ xs) ys = ap (λ (ps : List LinkSent). sent_as x ∷ ps) (all_sent-append xs ys)

pub all_sent-posted : (from : ℕ) (os : List Outgoing) → all_sent (posted from os) ≡ link_posted from (outgoings_of os)
all_sent-posted from [] = refl
all_sent-posted from (o ∷ os) =
    ap (λ (ps : List LinkSent). record { from = from; to = o.to; packet = from_wire o.packet } ∷ ps) (all_sent-posted from os)

pub all_sent-get : (packets : List Sent) (i : ℕ) (sent : Sent) → slice_get packets i ≡ Some sent
    → slice_get (all_sent packets) i ≡ Some (sent_as sent)
all_sent-get [] i sent e = cc
all_sent-get (x ∷ packets) zero sent e = let same : x ≡ sent = cc in ap (λ (x : Sent). Some (sent_as x)) same
all_sent-get (x ∷ packets) (suc i) sent e = all_sent-get packets i sent e

-- ---- versions and records

version_of_end : (bots : List Bot) (i : ℕ)
    → option_map (λ (b : Bot). link_version b.link) (slice_get bots i) ≡ option_map end_version (slice_get (ends_of bots) i)
version_of_end [] i = refl
version_of_end (x ∷ bots) zero = refl
version_of_end (x ∷ bots) (suc i) = version_of_end bots i

records_of_end : (bots : List Bot) (i : ℕ)
    → option_map (λ (b : Bot). link_records b.link) (slice_get bots i) ≡ option_map end_records (slice_get (ends_of bots) i)
records_of_end [] i = refl
records_of_end (x ∷ bots) zero = refl
records_of_end (x ∷ bots) (suc i) = records_of_end bots i

leaf_version : (leaves : List Leaf) (i : ℕ)
    → option_map end_version (slice_get (leaf_ends leaves) i) ≡ option_map (λ (leaf : Leaf). leaf.kept.version) (slice_get leaves i)
leaf_version [] i = refl
leaf_version (x ∷ leaves) zero = refl
leaf_version (x ∷ leaves) (suc i) = leaf_version leaves i

leaf_records : (leaves : List Leaf) (i : ℕ)
    → option_map end_records (slice_get (leaf_ends leaves) i) ≡ option_map (λ (leaf : Leaf). leaf.kept.records) (slice_get leaves i)
leaf_records [] i = refl
leaf_records (x ∷ leaves) zero = refl
leaf_records (x ∷ leaves) (suc i) = leaf_records leaves i

version_in : (links : LinkNet) (i : ℕ) → option_map end_version (slice_get (ends_in links) i) ≡ link_shows_version links i
version_in links zero = refl
version_in links (suc i) = leaf_version links.leaves i

records_in : (links : LinkNet) (i : ℕ) → option_map end_records (slice_get (ends_in links) i) ≡ link_shows_records links i
records_in links zero = refl
records_in links (suc i) = leaf_records links.leaves i

module _ (s : State) (sound : IsSound s) where
  abbrev pub links : LinkNet
  links = sound.links.net

  pub all_hold : Holds links s.links
  all_hold = holds links s.links sound.links.stands sound.links.sound

  pub keeps_promises : KeepsPromises s
  keeps_promises =
      record {
        links = links;
        ends = sound.links.ends_are;
        packets = sound.links.packets_are;
        sent = sound.links.stands.packets;
        holds = all_hold;
      }

  pub version_is : (i : ℕ) → shown_version s.net i ≡ link_shows_version links i
  version_is i =
      version_of_end s.net.bots i ∙ ap (λ (es : List LinkEnd). option_map end_version (slice_get es i)) sound.links.ends_are ∙ version_in links i

  pub records_are : (i : ℕ) → shown_records s.net i ≡ link_shows_records links i
  records_are i =
      records_of_end s.net.bots i ∙ ap (λ (es : List LinkEnd). option_map end_records (slice_get es i)) sound.links.ends_are ∙ records_in links i

  -- a bot that shows a version shows the records of that version
  pub shown_at : (i v : ℕ) → shown_version s.net i ≡ Some v
      → (v ≤ length (accepted_by s)) × (shown_records s.net i ≡ Some (records_of (accepted_by s) v))
  shown_at i v e =
      let shows : link_shows_version links i ≡ Some v = sym (version_is i) ∙ e in
      (all_hold.within i v shows, records_are i ∙ all_hold.records i ∙ ap (option_map (records_of (accepted_by s))) shows)

  -- a packet that was sent is true
  pub sent_is_true : (number : ℕ) (sent : Sent) → packet_at s.net.packets number ≡ Some sent → IsTruePacket s sent
  sent_is_true zero sent e = cc
  sent_is_true (suc place) sent e =
      let says : Packet → Type 0 = IsTrue s.links.hub.kept (asked_of s.links.leaves) in
      let here : slice_get s.links.packets place ≡ Some (sent_as sent) =
      ap (λ (ps : List LinkSent). slice_get ps place) (sym sound.links.stands.packets ∙ sym sound.links.packets_are)
      ∙ all_sent-get s.net.packets place sent e in
      AllSent-at says s.links.packets (suc place) (sent_as sent) sound.links.sound.packets here

-- ---- two moments

slice_get-there : {X : Type 0} (xs : List X) (i : ℕ) → i < length xs → (x : X) × (slice_get xs i ≡ Some x)
slice_get-there [] i h = absurd (omega (arith, h))
slice_get-there (x ∷ xs) zero h = (x, refl)
slice_get-there (x ∷ xs) (suc i) h = slice_get-there xs i (omega (arith, h))

bot_of_version : (r : Option Bot) (u : ℕ) → option_map (λ (b : Bot). link_version b.link) r ≡ Some u → (b : Bot) × (r ≡ Some b)
bot_of_version None u e = cc
bot_of_version (Some b) u e = (b, refl)

-- as history grows no version goes back, and one version has the same records
module _ (s t : State) (before : IsSound s) (after : IsSound t) (grows : Grows s.links t.links) where
  pub never_back : length t.net.bots ≡ length s.net.bots → NeverBack s.net t.net
  never_back bots i u e =
      let was = bot_of_version (slice_get s.net.bots i) u e in
      let now = slice_get-there t.net.bots i (omega (arith, slice_get_within s.net.bots i was.0 was.1, bots)) in
      let shows : shown_version t.net i ≡ Some (link_version now.0.link) = ap (option_map (λ (b : Bot). link_version b.link)) now.1 in (
        link_version now.0.link,
        shows,
        versions_grow (links s before) s.links before.links.stands before.links.sound (links t after) t.links after.links.stands after.links.sound
            grows i u (link_version now.0.link) (sym (version_is s before i) ∙ e) (sym (version_is t after i) ∙ shows),
      )

  pub same_shown : SameRecords s.net t.net
  same_shown i j v one other =
      records_are s before i
      ∙ same_records (links s before) s.links (links t after) t.links (all_hold s before) (all_hold t after) grows i j v
      (sym (version_is s before i) ∙ one) (sym (version_is t after j) ∙ other)
      ∙ sym (records_are t after j)
