-- What a disk holds before the gate that ends it, and what it would hold if that gate were open.
--
-- A crash closes the gate of the entry that was being written, and of no other one. So what more than that one entry
-- stands after a closed gate wasn't left by a crash, if it is a journal's at all: the layers above can tell.
use Rattle.std.specs.Prelude.{◌≡◌, ◌⊎◌, ◌≤◌, ◌<◌, ◌==◌, ℕ, ◌+◌, Bool, false, Option, None, Some, List, [], ◌∷◌, length, drop, nat_lt, slice_set, if◌then◌else◌, Result, Ok, Err}
use Rattle.bytetext.specs.declared.failure.Failure.{Failure}
use Rattle.bytetext.specs.declared.failure.Failure.TheVariants.{Refused, NoMemory}
use Rattle.disks.specs.State.{State, Rose}
use Rattle.bytejournal.specs.declared.fault.JournalFault.{JournalFault}
use Rattle.bytejournal.specs.declared.fault.JournalFault.TheVariants.{DiskFault, NotAJournal, Spent, GenerationsSpent}
use Rattle.bytejournal.specs.declared.ending.Counted.{Counted}
use Rattle.bytejournal.specs.declared.ending.IfOpen.{IfOpen}
use Rattle.bytejournal.specs.declared.ending.Ending.{Ending}
use Rattle.bytejournal.specs.Meaning.{Held, held, sized, entries_of}
use Rattle.bytejournal.specs.Meaning.Held.{Shut, Broken, Open}
use Rattle.bytejournal.specs.Reading.{EndAt}

-- how many bytes these entries take, each with its gate and its length
abbrev pub size_of : List (List ℕ) → ℕ
size_of [] = 0
size_of (entry ∷ entries) = 5 + length entry + size_of entries

-- The offset of the gate that ends a disk: its first one if that isn't open, and else the one after its base and
-- entries. None if what follows the open first gate isn't a journal's.
abbrev pub end_gate : Held → Option ℕ
end_gate Shut = Some 0
end_gate Broken = None
end_gate (Open contents) = Some (14 + length contents.base + size_of contents.entries)

-- what these bytes hold with the gate at this offset open, whatever it is: nothing can be read if it is missing
abbrev pub with_open : List ℕ → Option ℕ → Held
with_open bytes None = Broken
with_open bytes (Some gate) = if nat_lt gate (length bytes) then held (slice_set bytes gate 1) else Broken

-- what a disk with these bytes would hold if the gate that ends it were open
abbrev pub held_open : List ℕ → Held
held_open bytes = with_open bytes (end_gate (held bytes))

-- what counts on a disk that holds this, beside another one
abbrev pub counted : Held → Option Counted
counted Shut = None
counted Broken = None
counted (Open contents) = Some (record { generation = contents.generation; entries = length contents.entries })

-- the contents of a journal, if this is one's
abbrev pub if_open : Held → Option IfOpen
if_open Shut = None
if_open Broken = None
if_open (Open contents) = Some (record {
  layout = contents.layout;
  generation = contents.generation;
  base = contents.base;
  entries = contents.entries;
})

-- what stands on a disk with these bytes before and after the gate that ends it
abbrev pub ending_of : List ℕ → Ending
ending_of bytes = record { counted = counted (held bytes); if_open = if_open (held_open bytes) }

-- at most one entry more than those that count, and none if no entry counts because the first gate isn't open
abbrev pub AreFew : Option Counted → Option IfOpen → Type 0
AreFew counted None = Unit {0}
AreFew None (Some texts) = texts.entries ≡ []
AreFew (Some counted) (Some texts) = length texts.entries ≤ counted.entries + 1

-- after the gate that ends a disk stands what a crash may leave of an entry or of a base that was being written
abbrev pub HasFewAfter : List ℕ → Type 0
HasFewAfter bytes = AreFew (ending_of bytes).counted (ending_of bytes).if_open

-- the first gate isn't open, and after it stands a journal of this generation, if it is one's
abbrev pub IsShutAt : List ℕ → ℕ → Type 0
IsShutAt bytes generation = ((ending_of bytes).counted ≡ None)
    × ((texts : IfOpen) → (ending_of bytes).if_open ≡ Some texts → texts.generation ≡ generation)

-- a journal of this generation stands on the disk
abbrev pub CountsAt : List ℕ → ℕ → Type 0
CountsAt bytes generation = (entries : ℕ) × ((ending_of bytes).counted ≡ Some (record { generation = generation; entries = entries }))

-- with its first gate open the disk wouldn't count either, beside another one of these bytes
abbrev pub IsBehind : List ℕ → List ℕ → Type 0
IsBehind bytes other = (shut counts : ℕ) × IsShutAt bytes shut × CountsAt other counts × (shut ≤ counts)

-- an open gate stands first
abbrev pub is_open : List ℕ → Bool
is_open [] = false
is_open (gate ∷ rest) = gate == 1

-- after an open gate these bytes are read as no entry, or as one before a gate that isn't open
abbrev pub IsAtMostOne : List ℕ → Type 0
IsAtMostOne bytes = (text more : List ℕ) → sized bytes ≡ Some (text, more) → is_open more ≡ false

-- these entries are cut short, or after the gate that ends them stands at most one more
abbrev pub HasFewMore : List ℕ → Type 0
HasFewMore bytes =
    (entries_of bytes ≡ None) ⊎ ((gate : ℕ) × EndAt bytes gate × (gate < length bytes → IsAtMostOne (drop (gate + 1) bytes)))

-- reading what stands there, by cases on the result
abbrev pub ReadsEnding : State → Result Ending (Failure JournalFault) → State → Type 0
ReadsEnding old (Ok ending) new = ending ≡ ending_of old.seen
ReadsEnding old (Err (Refused DiskFault)) new = Rose old.failed new.failed
ReadsEnding old (Err (Refused NotAJournal)) new = ⊥
ReadsEnding old (Err (Refused Spent)) new = ⊥
ReadsEnding old (Err (Refused GenerationsSpent)) new = ⊥
ReadsEnding old (Err NoMemory) new = 0 < length old.seen
