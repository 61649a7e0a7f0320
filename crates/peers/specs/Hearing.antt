-- What a leaf's or a hub's connection brings, and which of it is handed on.
use Rattle.std.specs.Prelude.{◌≡◌, ℕ, nat_lt, ◌==◌, ◌&&◌, not, Bool, true, false, List, [], ◌++◌, Option, Some, None, IsSome, if◌then◌else◌}
use Rattle.std.specs.List.{list_all, sum_by}
use Rattle.std.specs.Str.{bytes_eq}
use Rattle.sharewire.specs.declared.packet.Packet.{Packet}
use Rattle.sharewire.specs.Streams.{Ending, Tells}
use Rattle.peers.specs.declared.beat.Beat.{Beat}
use Rattle.peers.specs.declared.beat.Beats.{Beats}
use Rattle.peers.specs.declared.beat.Beats.TheVariants.{Nothing, Last, Bad}
use Rattle.handshake.specs.declared.progress.LeafRights.{LeafRights}
use Rattle.handshake.specs.declared.refusal.HandshakeRefusal.{HandshakeRefusal}
use Rattle.handshake.specs.declared.refusal.HandshakeRefusal.TheVariants.{Ahead, Records}
use Rattle.peers.specs.declared.seating.TheConstants.{MAX_WAITING}
use Rattle.peers.specs.declared.seat.Seat.{Seat}
use Rattle.peers.specs.Beats.{IsLast}
use Rattle.peers.specs.Picking.{picked, said_by}
use Rattle.peers.specs.Sealed.{OpensFrames, waiting}
use Rattle.peers.specs.Speakers.{is_own}

-- ---- frames

-- after any stream that a reader has read, these frames bring these packets
abbrev pub ReadsOn : List ℕ → List Packet → Ending → Ending → Type 0
ReadsOn frames told old new =
    (stream : List ℕ) (before : List Packet) → Tells stream before old → Tells (stream ++ frames) (before ++ told) new

-- none is handed on if one of them is not the leaf's own
abbrev pub handed_if : Bool → LeafRights → Option ℕ → List Packet → List Packet
handed_if true may said told = picked may said told
handed_if false may said told = []

abbrev pub handed : ℕ → LeafRights → Option ℕ → List Packet → List Packet
handed leaf may said told = handed_if (list_all (is_own leaf) told) may said told

-- the layout that a leaf's last hello said; none of these packets is heeded if one of them is not the leaf's own
abbrev pub noted_if : Bool → Option ℕ → List Packet → Option ℕ
noted_if true said told = said_by said told
noted_if false said told = said

abbrev pub noted : ℕ → Option ℕ → List Packet → Option ℕ
noted leaf said told = noted_if (list_all (is_own leaf) told) said told

-- frames were read from a leaf, and these packets of them are handed on
pub record ReadsFrames (frames : List ℕ) (old : Seat) (packets : List Packet) (new : Seat) : Type 0 where
  pub told : List Packet
  pub reads : ReadsOn frames told old.reader new.reader
  pub handed_are : packets ≡ handed old.leaf old.may old.layout told
  pub layout : new.layout ≡ noted old.leaf old.layout told
  pub wire : new.wire ≡ record old.wire { gone = new.wire.gone }

-- The packets that are handed on are those of the frames that whole records carried, of which each had the right tag at
-- its place. The leaf's last hello among them says its layout from then on.
pub record HandsOn (old : Seat) (packets : List Packet) (new : Seat) : Type 0 where
  pub frames : List ℕ
  pub told : List Packet
  pub opens : OpensFrames frames old.wire new.wire
  pub reads : ReadsOn frames told old.reader new.reader
  pub handed_are : packets ≡ handed old.leaf old.may old.layout told
  pub layout : new.layout ≡ noted old.leaf old.layout told

-- ---- beats

-- a leaf's last beat says what it holds, and is still to be compared
abbrev pub HeedsIf : Beats → Seat → Seat → Type 0
HeedsIf Nothing old new = new ≡ old
HeedsIf (Last beat) old new = new ≡ record old { version = beat.version; held = beat.held; beat = Some beat }
HeedsIf Bad old new = (new ≡ record old { wire = record old.wire { gone = new.wire.gone } }) × IsSome new.wire.gone

pub record HeedsBeats (contents : List ℕ) (old new : Seat) : Type 0 where
  pub beats : Beats
  pub last : IsLast contents beats
  pub heeds : HeedsIf beats old new

-- why a leaf that says the first is no leaf of a hub that says the second
abbrev pub refusal_of : Beat → Beat → Option HandshakeRefusal
refusal_of leaf hub =
    if nat_lt hub.version leaf.version then Some Ahead
    else if (leaf.version == hub.version) && not (bytes_eq leaf.sum hub.sum) then Some Records
    else None

-- whether a hub that says the first is no hub of a leaf that said the second: it is at a lower version, or has other
-- records at the same one
abbrev pub is_no_hub : Beat → Beat → Bool
is_no_hub hub leaf =
    if nat_lt hub.version leaf.version then true
    else (hub.version == leaf.version) && not (bytes_eq hub.sum leaf.sum)

-- ---- the budget

abbrev pub waiting_for : Option Seat → ℕ
waiting_for None = 0
waiting_for (Some seat) = waiting seat.wire

-- more than 16 MiB wait for all leaves together
abbrev pub over_budget : List (Option Seat) → Bool
over_budget seats = nat_lt MAX_WAITING (sum_by waiting_for seats)
