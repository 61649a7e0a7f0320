-- All ends in one list, the hub's first, and every packet that was ever sent, at a moment of history.
use Rattle.std.specs.Prelude.{◌≡◌, ◌⊎◌, ◌+◌, ◌≤◌, ℕ, List, [], ◌∷◌, ◌++◌, length, slice_get, slice_set, Some, Result, Ok}
use Rattle.std.specs.List.{AllByRecursion}
use Rattle.usercodec.specs.Records.{HasShape}
use Rattle.protocol.specs.Numbers.{item_at}
use Rattle.protocol.specs.Packets.{Packet, Sent, AcceptedChange}
use Rattle.protocol.specs.Packets.Packet.{Hello, Change, Request, Accepted as accepted_packet, Refused, BotText, Part}
use Rattle.protocol.specs.Notes.{Note, LinkFault}
use Rattle.protocol.specs.Notes.Note.{Accepted, Restarted}
use Rattle.protocol.specs.Bots.{Row}
use Rattle.protocol.specs.LeafRules.{Leaf}
use Rattle.protocol.specs.Network.{Net, posted}
use Rattle.protocol.specs.History.{History, records_of, Grows}
use Rattle.protocol.specs.Truth.{IsKeptAnswer, AllOutgoing}
use Rattle.protocol.specs.Soundness.{IsSound}
use Rattle.protocol.specs.Standing.{Stands}
use Rattle.protocol.specs.Claims.{IsFine}
use Rattle.protocol.specs.Ends.{End, AtHub, AtLeaf, end_version, end_records}

-- ---- a net as a list of ends

abbrev pub leaf_ends : List Leaf → List End
leaf_ends [] = []
leaf_ends (leaf ∷ leaves) = AtLeaf leaf ∷ leaf_ends leaves

-- bot 0 is the hub, and leaf n has place n
abbrev pub ends_of : Net → List End
ends_of net = AtHub net.hub ∷ leaf_ends net.leaves

-- these ends, and the packets that were ever sent, are the state after this sound moment of history
pub record IsMoment (ends : List End) (packets : List Sent) (h : History) : Type 0 where
  pub net : Net
  pub ends_are : ends ≡ ends_of net
  pub packets_are : packets ≡ net.packets
  pub stands : Stands net h
  pub sound : IsSound h

-- ---- at a moment

-- each record of a part is of good shape
abbrev pub IsShaped : Packet → Type 0
IsShaped (Hello layout leaf version) = Unit {0}
IsShaped (Change number origin request change) = Unit {0}
IsShaped (Request leaf request change) = Unit {0}
IsShaped (accepted_packet leaf request number) = Unit {0}
IsShaped (Refused leaf request fault) = Unit {0}
IsShaped (BotText from to text) = Unit {0}
IsShaped (Part version part count items) = AllByRecursion HasShape items

-- a hub and its leaves; each end shows the records that its version means, and is not ahead of what was accepted; each
-- part that was ever sent is of good shape
pub record Shows (ends : List End) (packets : List Sent) (h : History) : Type 0 where
  pub many : length ends ≡ h.count + 1
  pub records : (bot : ℕ) (end : End) → slice_get ends bot ≡ Some end
      → end_records end ≡ records_of h.hub.kept.accepted (end_version end)
  pub within : (bot : ℕ) (end : End) → slice_get ends bot ≡ Some end → end_version end ≤ length h.hub.kept.accepted
  pub shapes : (number : ℕ) (sent : Sent) → item_at packets number ≡ Some sent → IsShaped sent.packet

-- ---- from one moment to a later one

-- ends of one version show the same records, and no version goes back
pub record Keeps (before after : List End) : Type 0 where
  pub same_records : (one other : ℕ) (a b : End) → slice_get before one ≡ Some a → slice_get after other ≡ Some b
      → end_version a ≡ end_version b → end_records a ≡ end_records b
  pub never_back : (bot : ℕ) (a b : End) → slice_get before bot ≡ Some a → slice_get after bot ≡ Some b
      → end_version a ≤ end_version b

-- ---- a call

-- the hub reported that this version was reached: it accepted a change, or a restart found that it had
abbrev pub TellsReached : ℕ → ℕ → Result Note LinkFault → Type 0
TellsReached version bot told = (bot ≡ 0) × ((told ≡ Ok (Accepted version)) ⊎ (told ≡ Ok (Restarted version)))

-- the accepted changes grow exactly as the call reports
pub record MovesAsTold (before after : List AcceptedChange) (bot : ℕ) (told : Result Note LinkFault) : Type 0 where
  -- they stay, or there is one more, and the call reported it
  pub stay_or_grow : (after ≡ before)
      ⊎ ((entry : AcceptedChange) × (after ≡ before ++ entry ∷ []) × TellsReached (length before + 1) bot told)
  -- if the hub reports that it accepted a change, there is one more, with the number that it reports
  pub accepted : (number : ℕ) → bot ≡ 0 → told ≡ Ok (Accepted number) → (number ≡ length before + 1) × (length after ≡ number)
  -- if the hub reports that it restarted, the number of changes is the version that it reports
  pub restarted : (version : ℕ) → bot ≡ 0 → told ≡ Ok (Restarted version) → length after ≡ version

-- what one bot's call leaves, according to this row, is a moment that history grew into
pub record Follows (h : History) (bot : ℕ) (row : Row End) (ends : List End) (packets : List Sent) : Type 0 where
  pub after : History
  pub moment : IsMoment ends packets after
  pub count : after.count ≡ h.count
  pub grows : Grows h after
  -- each answer that is sent is one that the hub keeps, one of the last eight to its leaf
  pub answers : AllOutgoing (IsKeptAnswer after.hub.kept) row.sends
  -- no leaf's records diverge, and no hello has another layout
  pub fine : IsFine row.told
  pub moves : MovesAsTold h.hub.kept.accepted after.hub.kept.accepted bot row.told

-- one bot has made this row, and what it sends is among the packets
abbrev pub RowFollows : History → List End → List Sent → ℕ → Row End → Type 0
RowFollows h ends packets bot row =
    Follows h bot row (slice_set ends bot row.after) (packets ++ posted bot row.sends)
