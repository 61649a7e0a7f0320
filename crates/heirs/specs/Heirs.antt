-- A net that goes on from the records of a bot of another net, whose hub is lost.
use Rattle.std.specs.Prelude.{◌≡◌, ◌+◌, ℕ, suc, List, [], ◌∷◌, length, slice_get, Some}
use Rattle.userfile.specs.Records.{Records}
use Rattle.procs.specs.Promises.{Promised}
use Rattle.botjournal.specs.Contents.{Contents, meaning}
use Rattle.protocol.specs.Ends.{AtHub}
use Rattle.sharelink.specs.BotLinks.{BotEnd, end_meaning}
use Rattle.botcore.specs.Bots.{Bot}
use Rattle.processes.specs.Deeds.{Process, Ended, Net, Opened, IsNew, Happens, after_deed, shown_version, shown_records}
use Rattle.processes.specs.Standing.{HasEnd}
use Rattle.heirs.specs.Beginnings.{heir_hub}

-- The first moment of the new net. Its hub is at this version with these records, and has no replies: its bot runs, or
-- its process has ended and a restart finds this on its disks. Its `count` leaves run as they were made: at version 0,
-- without records and without requests. No report has sent a packet.
pub record IsHeir (count version : ℕ) (records : Records) (w : Net) : Type 0 where
  pub many : length w.processes ≡ count + 1
  pub packets : w.packets ≡ []
  pub hub : Process
  pub at : slice_get w.processes 0 ≡ Some hub
  pub link : BotEnd
  pub has : HasEnd link hub
  pub number : link.number ≡ 0
  pub leaves : link.leaves ≡ count
  pub generation : ℕ
  pub end : link.end ≡ AtHub (heir_hub count version generation records)
  pub all_new : (place : ℕ) (process : Process) → slice_get w.processes (suc place) ≡ Some process → IsNew count (suc place) process

-- an heir, at this version, of what a bot of the old net shows
pub record IsHeirOf (old : Net) (bot version count : ℕ) (w : Net) : Type 0 where
  pub records : Records
  pub shows_version : shown_version old bot ≡ Some version
  pub shows_records : shown_records old bot ≡ Some records
  pub heir : IsHeir count version records w

-- ---- folders

-- another process may open the bot from the bytes that its process left, and shows this version and these records then
pub record CanShow (promised : Promised) (w : Net) (bot version : ℕ) (records : Records) : Type 0 where
  pub after : Bot
  pub opens : Happens promised w (Opened bot after)
  pub shows_version : shown_version (after_deed w (Opened bot after)) bot ≡ Some version
  pub shows_records : shown_records (after_deed w (Opened bot after)) bot ≡ Some records

-- these bytes of two disks mean the hub's end of an heir
pub record MeanHeir (count version : ℕ) (records : Records) (x y : List ℕ) : Type 0 where
  pub contents : Contents
  pub generation : ℕ
  pub found : meaning x y ≡ Some contents
  pub means : end_meaning 0 count contents ≡ Some (AtHub (heir_hub count version generation records))

-- a net whose hub's process has left these bytes, before the first process of it begins, with these leaves
abbrev pub net_over : (x y : List ℕ) → List Process → Net
net_over x y leaves = record { processes = Ended x y ∷ leaves; packets = [] }
