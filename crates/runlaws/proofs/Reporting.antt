-- Packets in all reports, and those of them that may still arrive.
use Rattle.std.proofs.Common.{◌≡◌, ◌∙◌, ◌⊎◌, inl, inr, ℕ, zero, suc, Bool, true, false, List, [], ◌∷◌, ◌++◌, slice_get, Some, ap, sym, subst}
use Rattle.sharewire.specs.declared.packet.Packet.{Packet}
use Rattle.protocol.specs.Packets.{from_wire}
use Rattle.sharelink.specs.Telling.{end_last_request}
use Rattle.botcore.specs.Bots.{Bot}
use Rattle.botworld.specs.declared.sent.Sent.{Sent}
use Rattle.botworld.specs.Net.{packet_at, posted}
use Rattle.watching.specs.Acts.{Act, Opens, Creates, Began, Told, Made, Forgets, Hears, Sends, Waits}
use Rattle.processes.specs.Deeds.{Net, IsTold, is_unanswered}
use Rattle.runlaws.specs.Folders.{Folder, What, Does, Takes, Ends, Happening, Holder, NoneYet, NoneNow, Holds, is_holder, holder_of}
use Rattle.runlaws.specs.Worlds.{posted_by, kept_by, sent_after, told_after, sent_in, told_in}
use Rattle.runlaws.proofs.Telling.{slice_answered}

-- ---- lists

abbrev IsIn : Sent → List Sent → Type 0
IsIn sent packets = (place : ℕ) × (slice_get packets place ≡ Some sent)

parted : (sent : Sent) (xs ys : List Sent) (place : ℕ) → slice_get (xs ++ ys) place ≡ Some sent → IsIn sent xs ⊎ IsIn sent ys
parted sent [] ys place at = inr (place, at)
parted sent (x ∷ xs) ys zero at = inl (zero, at)
parted sent (x ∷ xs) ys (suc place) at = elim (parted sent xs ys place at) [
  | inl is ↦ inl (suc is.0, is.1)
  | inr is ↦ inr is
]

in_first : (sent : Sent) (xs ys : List Sent) (place : ℕ) → slice_get xs place ≡ Some sent → IsIn sent (xs ++ ys)
in_first sent [] ys place at = cc
in_first sent (x ∷ xs) ys zero at = (zero, at)
in_first sent (x ∷ xs) ys (suc place) at = let it = in_first sent xs ys place at in (suc it.0, it.1)

in_second : (sent : Sent) (xs ys : List Sent) (place : ℕ) → slice_get ys place ≡ Some sent → IsIn sent (xs ++ ys)
in_second sent [] ys place at = (place, at)
in_second sent (x ∷ xs) ys place at = let it = in_second sent xs ys place at in (suc it.0, it.1)

-- ---- a packet that is never dropped

-- it is no request
abbrev IsNeverDropped : Packet → Type 0
IsNeverDropped packet = (leaf last : ℕ) → is_unanswered leaf last (from_wire packet) ≡ false

module _ (folders : ℕ → Folder) (sent : Sent) (stays : IsNeverDropped sent.packet) where
  posted_too : (holding : Bool) (number : ℕ) (act : Act) (told packets : List Sent) → (IsIn sent told → IsIn sent packets)
      → IsIn sent (posted_by holding number act told) → IsIn sent (posted_by holding number act packets)
  posted_too false number act told packets rest is = rest is
  posted_too true number (Opens x y) told packets rest is = rest is
  posted_too true number (Creates x y last) told packets rest is = rest is
  posted_too true number (Began bot) told packets rest is = rest is
  posted_too true number (Told bot event) told packets rest is = rest is
  posted_too true number (Made report bot) told packets rest is =
      elim (parted sent told (posted number report.packets) is.0 is.1) [
        | inl was ↦ let now = rest was in in_first sent packets (posted number report.packets) now.0 now.1
        | inr new ↦ in_second sent packets (posted number report.packets) new.0 new.1
      ]
  posted_too true number (Forgets bot) told packets rest is = rest is
  posted_too true number (Hears heard) told packets rest is = rest is
  posted_too true number (Sends outgoing) told packets rest is = rest is
  posted_too true number Waits told packets rest is = rest is

  kept_too : (holder : Holder) (number : ℕ) (bot : Bot) (packets : List Sent) → IsIn sent packets
      → IsIn sent (kept_by holder number bot packets)
  kept_too NoneYet number bot packets is = is
  kept_too NoneNow number bot packets is =
      slice_answered number (end_last_request bot.link.end) sent (stays number (end_last_request bot.link.end)) packets is.0 is.1
  kept_too (Holds folder) number bot packets is =
      slice_answered number (end_last_request bot.link.end) sent (stays number (end_last_request bot.link.end)) packets is.0 is.1

  after_too : (folder : ℕ) (holder : Holder) (number : ℕ) (what : What) (told packets : List Sent) → (IsIn sent told → IsIn sent packets)
      → IsIn sent (told_after folder holder number what told) → IsIn sent (sent_after folder holder number what packets)
  after_too folder holder number (Does act) told packets rest is = posted_too (is_holder folder holder) number act told packets rest is
  after_too folder holder number (Takes bot) told packets rest is = kept_too holder number bot packets (rest is)
  after_too folder holder number (Ends x y) told packets rest is = rest is

  still_there : (world : List Happening) → IsIn sent (told_in folders world) → IsIn sent (sent_in folders world)
  still_there [] is = is
  still_there (h ∷ world) is =
      after_too h.folder (holder_of folders (folders h.folder).number world) (folders h.folder).number h.what
      (told_in folders world) (sent_in folders world) (still_there world) is

packet_of : (packets : List Sent) (number : ℕ) (sent : Sent) → packet_at packets number ≡ Some sent → IsIn sent packets
packet_of packets zero sent at = cc
packet_of packets (suc place) sent at = (place, at)

-- it is told in a net with the packets that may still arrive
pub told_still : (folders : ℕ → Folder) (world : List Happening) (w : Net) → w.packets ≡ sent_in folders world → (packet : Packet)
    → ((leaf last : ℕ) → is_unanswered leaf last (from_wire packet) ≡ false)
    → IsTold (record { processes = []; packets = told_in folders world }) packet → IsTold w packet
told_still folders world w packets packet stays told =
    let it = still_there folders told.1 (subst IsNeverDropped (sym told.3) stays) world
    (packet_of (told_in folders world) told.0 told.1 told.2) in
    (suc it.0, told.1, ap (λ (ps : List Sent). packet_at ps (suc it.0)) packets ∙ it.1, told.3)
