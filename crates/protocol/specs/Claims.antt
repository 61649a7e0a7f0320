-- What the link promises of each moment, of each step and of each run.
use Rattle.std.specs.Prelude.{◌≡◌, ◌⊎◌, ◌+◌, ℕ, zero, suc, ◌≤◌, List, [], ◌∷◌, length, slice_get, Option, Some, Result, Ok, Err}
use Rattle.std.specs.Option.{option_map}
use Rattle.std.specs.List.{AllByRecursion}
use Rattle.userfile.specs.Records.{Records}
use Rattle.userfile.specs.declared.change.Change.{Change as UserChange}
use Rattle.userfile.specs.declared.error.ChangeFault.{ChangeFault}
use Rattle.usercodec.specs.declared.records.Record.{Record}
use Rattle.usercodec.specs.Records.{HasShape}
use Rattle.botjournal.specs.declared.TheConstants.{LAYOUT}
use Rattle.protocol.specs.Numbers.{item_at}
use Rattle.protocol.specs.Packets.{Packet, Sent, AcceptedChange}
use Rattle.protocol.specs.Packets.Packet.{Hello, Change, Request, Accepted, Refused, Part}
use Rattle.protocol.specs.Notes.{Note, LinkFault}
use Rattle.protocol.specs.Snapshots.{part_count, part_of}
use Rattle.protocol.specs.HubRules.{version_of}
use Rattle.protocol.specs.LeafRules.{Leaf}
use Rattle.protocol.specs.History.{History, records_of, Grows}
use Rattle.protocol.specs.Truth.{IsKeptAnswer, AllOutgoing}
use Rattle.protocol.specs.Soundness.{IsSound}
use Rattle.protocol.specs.Standing.{Stands}
use Rattle.protocol.specs.Network.{Net, Step, Outcome, Report, OutOfMemory, NoSuchBot, NoSuchPacket, Course, Stepped, stepped}

-- ---- what can be observed

-- the version that a bot shows, and its records; none if there is no such bot
abbrev pub shown_version : Net → ℕ → Option ℕ
shown_version net zero = Some (version_of net.hub.kept)
shown_version net (suc place) = option_map (λ (leaf : Leaf). leaf.kept.version) (slice_get net.leaves place)

abbrev pub shown_records : Net → ℕ → Option Records
shown_records net zero = Some net.hub.kept.records
shown_records net (suc place) = option_map (λ (leaf : Leaf). leaf.kept.records) (slice_get net.leaves place)

-- this packet was sent at some time
abbrev pub WasSent : History → Packet → Type 0
WasSent h packet = (number : ℕ) × (sent : Sent) × (item_at h.packets number ≡ Some sent) × (sent.packet ≡ packet)

-- this change, of the hub's or of a leaf's, was accepted under a number
abbrev pub WasAccepted : History → ℕ → AcceptedChange → Type 0
WasAccepted h number entry = item_at h.hub.kept.accepted number ≡ Some entry

-- the change that a leaf asked for under this request number was accepted
abbrev pub WasTaken : History → ℕ → ℕ → ℕ → UserChange → Type 0
WasTaken h number leaf request change = WasAccepted h number (record { origin = leaf; request = request; change = change })

-- ---- at each moment

pub record Holds (net : Net) (h : History) : Type 0 where
  -- each bot shows the records that its version means
  pub records : (bot : ℕ) → shown_records net bot ≡ option_map (records_of h.hub.kept.accepted) (shown_version net bot)
  -- no bot is ahead of what was accepted
  pub within : (bot version : ℕ) → shown_version net bot ≡ Some version → version ≤ length h.hub.kept.accepted
  -- a leaf's request is accepted at most once
  pub once : (n m place request : ℕ) (a b : UserChange) → WasTaken h n (suc place) request a → WasTaken h m (suc place) request b → n ≡ m
  -- the hub reports an accepted request under its number
  pub told : (n m place request : ℕ) (change : UserChange) → WasTaken h n (suc place) request change
      → WasSent h (Accepted (suc place) request m) → m ≡ n
  -- and never as rejected
  pub not_refused : (n place request : ℕ) (change : UserChange) (fault : ChangeFault) → WasTaken h n (suc place) request change
      → WasSent h (Refused (suc place) request fault) → ⊥
  -- its change is the one that the leaf asked for
  pub asked : (n place request : ℕ) (change other : UserChange) → WasTaken h n (suc place) request change
      → WasSent h (Request (suc place) request other) → other ≡ change
  -- a request number stands for one change
  pub one_change : (leaf request : ℕ) (a b : UserChange) → WasSent h (Request leaf request a) → WasSent h (Request leaf request b) → a ≡ b
  -- each change that was sent is the accepted one of its number
  pub changes : (n origin request : ℕ) (change : UserChange) → WasSent h (Change n origin request change) → WasTaken h n origin request change
  -- each hello that was sent has the layout of all bots
  pub layouts : (layout leaf version : ℕ) → WasSent h (Hello layout leaf version) → layout ≡ LAYOUT
  -- each part that was sent is one of the records at its version, and each of its records is of good shape
  pub parts : (version part count : ℕ) (items : List Record) → WasSent h (Part version part count items)
      → (count ≡ part_count (records_of h.hub.kept.accepted version)) × (items ≡ part_of (records_of h.hub.kept.accepted version) part)
  pub shapes : (version part count : ℕ) (items : List Record) → WasSent h (Part version part count items) → AllByRecursion HasShape items

-- ---- of each step

-- no leaf ever diverges, and no hello has another layout
abbrev pub IsFineFault : LinkFault → Type 0
IsFineFault (LinkFault.BadChange fault) = Unit {0}
IsFineFault LinkFault.AsksFull = Unit {0}
IsFineFault LinkFault.Down = Unit {0}
IsFineFault LinkFault.Diverged = ⊥
IsFineFault LinkFault.NumbersSpent = Unit {0}
IsFineFault LinkFault.JournalFault = Unit {0}
IsFineFault LinkFault.BadBotText = Unit {0}
IsFineFault LinkFault.DiskFault = Unit {0}
IsFineFault LinkFault.OtherLayout = ⊥

abbrev pub IsFine : Result Note LinkFault → Type 0
IsFine (Ok note) = Unit {0}
IsFine (Err fault) = IsFineFault fault

abbrev pub IsFineOutcome : Outcome → Type 0
IsFineOutcome (Report bot told) = IsFine told
IsFineOutcome OutOfMemory = Unit {0}
IsFineOutcome NoSuchBot = Unit {0}
IsFineOutcome NoSuchPacket = Unit {0}

pub record Lawful (net : Net) (h : History) (made : Stepped) (h' : History) : Type 0 where
  -- what was accepted, answered, asked and sent stays
  pub grows : Grows h h'
  -- no version goes back
  pub versions : (bot v v' : ℕ) → shown_version net bot ≡ Some v → shown_version made.after bot ≡ Some v' → v ≤ v'
  -- each answer that is sent is one that the hub keeps, one of the last eight to its leaf
  pub answers : AllOutgoing (IsKeptAnswer h'.hub.kept) made.sends
  pub fine : IsFineOutcome made.outcome

-- ---- of each run

-- a step, and how it goes
pub record Made : Type 0 where
  pub step : Step
  pub course : Course

-- the net after these steps
abbrev pub net_after : Net → List Made → Net
net_after net [] = net
net_after net (made ∷ others) = net_after (stepped made.course net made.step).after others

-- a run: each step is lawful and leaves a moment at which all holds
abbrev pub Leads : Net → History → List Made → History → Type 0
Leads net h [] h' = h' ≡ h
Leads net h (made ∷ others) h' =
    (next : History)
    × Lawful net h (stepped made.course net made.step) next
    × Holds (stepped made.course net made.step).after next
    × Leads (stepped made.course net made.step).after next others h'

-- a run that leaves a sound moment, from which others may go on
pub record Ends (net : Net) (h : History) (made : List Made) : Type 0 where
  pub after : History
  pub leads : Leads net h made after
  pub stands : Stands (net_after net made) after
  pub sound : IsSound after

-- ---- when the hub's version moves, and what a finished call has done

-- a step reported that this version was reached: the hub accepted a change, or a restart found that it had
abbrev pub TellsOf : ℕ → Outcome → Type 0
TellsOf version outcome = (outcome ≡ Report 0 (Ok (Note.Accepted version))) ⊎ (outcome ≡ Report 0 (Ok (Note.Restarted version)))

-- the hub's version stays, or it is one more and the step reported so
abbrev pub MovesAsTold : Net → Stepped → Type 0
MovesAsTold old made =
    (version_of made.after.hub.kept ≡ version_of old.hub.kept)
    ⊎ ((version_of made.after.hub.kept ≡ version_of old.hub.kept + 1) × TellsOf (version_of old.hub.kept + 1) made.outcome)
