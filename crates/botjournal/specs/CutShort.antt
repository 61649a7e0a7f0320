-- Journals that a device cut short: it closed a gate, and entries that count no more stand after it.
--
-- A crash leaves at most one entry after the gate that ends a disk: the one that was being written. What it leaves of a
-- base that was being written has no entry. So more than that was lost by the device, if it carries its sums.
use Rattle.std.specs.Prelude.{◌≡◌, ◌⊎◌, ◌-◌, ◌&&◌, ◌||◌, ◌==◌, ℕ, Bool, true, false, Option, None, Some, List, ◌∷◌, length, nat_le, nat_lt, Result, Ok, Err}
use Rattle.std.specs.Option.{is_some}
use Rattle.bytetext.specs.declared.failure.Failure.{Failure}
use Rattle.bytetext.specs.declared.failure.Failure.TheVariants.{Refused, NoMemory}
use Rattle.disks.specs.State.{State, Rose}
use Rattle.bytejournal.specs.declared.fault.JournalFault.{JournalFault}
use Rattle.bytejournal.specs.declared.fault.JournalFault.TheVariants.{DiskFault, NotAJournal, Spent, GenerationsSpent}
use Rattle.bytejournal.specs.declared.ending.Counted.{Counted}
use Rattle.bytejournal.specs.declared.ending.IfOpen.{IfOpen}
use Rattle.bytejournal.specs.declared.ending.Ending.{Ending}
use Rattle.bytejournal.specs.Ending.{HasFewAfter, IsBehind, ending_of}
use Rattle.bytejournal.specs.Opening.{HoldByte}
use Rattle.botjournal.specs.declared.TheConstants.{LAYOUT}
use Rattle.botjournal.specs.Sums.{start, through, AreCarried}

-- the base and each entry end with their sums: the texts of older layouts have none
abbrev pub carries_sums : IfOpen → Bool
carries_sums texts = (texts.layout == LAYOUT) && is_some (through (start LAYOUT texts.generation) (texts.base ∷ texts.entries))

-- the texts of this generation would count beside the other disk
abbrev pub would_count : Option Counted → IfOpen → Bool
would_count None texts = true
would_count (Some other) texts = nat_lt other.generation texts.generation

-- More than a crash leaves: two entries beside those that count, or if the disk's first gate isn't open, an entry in a
-- generation that would count.
abbrev pub is_more : Option Counted → Option Counted → IfOpen → Bool
is_more other None texts = nat_lt 0 (length texts.entries) && would_count other texts
is_more other (Some counted) texts = nat_le 2 (length texts.entries - counted.entries)

abbrev pub is_cut_beside : Option Counted → Option Counted → Option IfOpen → Bool
is_cut_beside other counted None = false
is_cut_beside other counted (Some texts) = is_more other counted texts && carries_sums texts

-- the disk with this ending was cut short, beside another one
abbrev pub is_cut : Option Counted → Ending → Bool
is_cut other ending = is_cut_beside other ending.counted ending.if_open

-- one of two disks with these bytes was cut short
abbrev pub is_cut_short : List ℕ → List ℕ → Bool
is_cut_short first second = is_cut (ending_of second).counted (ending_of first) || is_cut (ending_of first).counted (ending_of second)

-- The gates of a disk show that it wasn't cut short, beside another one: after the gate that ends it stands what a crash
-- leaves, or it wouldn't count with its first gate open.
abbrev pub ShowsUncut : List ℕ → List ℕ → Type 0
ShowsUncut bytes other = HasFewAfter bytes ⊎ IsBehind bytes other

-- the base and each entry end with their sums, of which each stands on the one before it
abbrev pub HasSums : IfOpen → Type 0
HasSums texts = (texts.layout ≡ LAYOUT) × AreCarried (start LAYOUT texts.generation) (texts.base ∷ texts.entries)

-- asking whether one was, by cases on the result
abbrev pub TellsCut : State → State → Result Bool (Failure JournalFault) → State → State → Type 0
TellsCut first second (Ok cut) first' second' = cut ≡ is_cut_short first.seen second.seen
TellsCut first second (Err (Refused DiskFault)) first' second' = Rose first.failed first'.failed ⊎ Rose second.failed second'.failed
TellsCut first second (Err (Refused NotAJournal)) first' second' = ⊥
TellsCut first second (Err (Refused Spent)) first' second' = ⊥
TellsCut first second (Err (Refused GenerationsSpent)) first' second' = ⊥
TellsCut first second (Err NoMemory) first' second' = HoldByte first second
