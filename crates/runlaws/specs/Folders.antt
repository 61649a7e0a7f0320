-- What happens in the folders of bots, and what a world shows of them.
use Rattle.std.specs.Prelude.{◌==◌, ℕ, Bool, true, false, if◌then◌else◌, List, [], ◌∷◌, Option, Some, None}
use Rattle.botcore.specs.Bots.{Bot}
use Rattle.watching.specs.Acts.{Act, Opens, Creates, Began, Told, Made, Forgets, Hears, Sends, Waits, bot_in}
use Rattle.processes.specs.Deeds.{Process, Runs, Ended}
use Rattle.runlaws.specs.Calls.{Doing, Nothing, Opening, Creating, Telling, Forgetting, doing}

-- ---- what happens

-- A folder: the number of its bot, and the names of the procs in the store of the program that runs the bot.
pub record Folder : Type 0 where
  pub number : ℕ
  pub names : List (List ℕ)

-- What happens in a folder, in which at most one process runs at a time.
pub data What : Type 0 where
  -- the process does something
  Does : Act → What
  -- the process has begun this bot, and from now on the folder holds the bot's number
  Takes : Bot → What
  -- the process ends, at whatever moment, and these bytes are on the two disks of the folder
  Ends : (first second : List ℕ) → What

-- the same, of this folder: a world is a list of these, the newest first
pub record Happening : Type 0 where
  pub folder : ℕ
  pub what : What

-- ---- what a world shows of one folder

abbrev pub past_with : Bool → What → List Act → List Act
past_with false what past = past
past_with true (Does act) past = act ∷ past
past_with true (Takes bot) past = Began bot ∷ past
past_with true (Ends first second) past = []

-- what the process in this folder has done since the earlier one ended
abbrev pub past_of : ℕ → List Happening → List Act
past_of folder [] = []
past_of folder (h ∷ world) = past_with (h.folder == folder) h.what (past_of folder world)

-- what a process has left on the disks of a folder
pub data Files : Type 0 where
  NoFiles : Files
  HasFiles : (first second : List ℕ) → Files

abbrev pub files_with : Bool → What → Files → Files
files_with false what files = files
files_with true (Does act) files = files
files_with true (Takes bot) files = files
files_with true (Ends first second) files = HasFiles first second

-- what the last process that ended in this folder has left
abbrev pub files_of : ℕ → List Happening → Files
files_of folder [] = NoFiles
files_of folder (h ∷ world) = files_with (h.folder == folder) h.what (files_of folder world)

-- ---- which folder holds a number

-- No folder has held the number yet; or none holds it any more; or this one holds it. The bot of a number is the one in
-- the folder that holds it.
pub data Holder : Type 0 where
  NoneYet : Holder
  NoneNow : Holder
  Holds : (folder : ℕ) → Holder

abbrev pub is_holder : ℕ → Holder → Bool
is_holder folder NoneYet = false
is_holder folder NoneNow = false
is_holder folder (Holds other) = folder == other

-- A folder gives its number up when a process creates a journal there, or forgets it: lawful processes do so on disks
-- that hold nothing, and for a bot without records.
abbrev pub without : ℕ → Holder → Holder
without folder NoneYet = NoneYet
without folder NoneNow = NoneNow
without folder (Holds other) = if folder == other then NoneNow else Holds other

abbrev pub holder_after : ℕ → What → Holder → Holder
holder_after folder (Does (Opens first second)) holder = holder
holder_after folder (Does (Creates first second last)) holder = without folder holder
holder_after folder (Does (Began bot)) holder = holder
holder_after folder (Does (Told bot event)) holder = holder
holder_after folder (Does (Made report bot)) holder = holder
holder_after folder (Does (Forgets bot)) holder = without folder holder
holder_after folder (Does (Hears packets)) holder = holder
holder_after folder (Does (Sends outgoing)) holder = holder
holder_after folder (Does Waits) holder = holder
holder_after folder (Takes bot) holder = Holds folder
holder_after folder (Ends first second) holder = holder

module _ (folders : ℕ → Folder) where
  abbrev pub holder_with : Bool → Happening → Holder → Holder
  holder_with false h holder = holder
  holder_with true h holder = holder_after h.folder h.what holder

  abbrev pub holder_of : ℕ → List Happening → Holder
  holder_of number [] = NoneYet
  holder_of number (h ∷ world) = holder_with ((folders h.folder).number == number) h (holder_of number world)

  -- whether this folder holds its number
  abbrev pub holds : ℕ → List Happening → Bool
  holds folder world = is_holder folder (holder_of (folders folder).number world)

-- ---- the bot of a number

-- The process as the deeds have it: with the bot that it has, also while that makes a step; or ended, with what is on the
-- disks.
abbrev pub rest_in : Files → Option Process
rest_in NoFiles = None
rest_in (HasFiles first second) = Some (Ended first second)

abbrev pub process_between : Option Bot → Files → Option Process
process_between None files = rest_in files
process_between (Some bot) files = Some (Runs bot)

abbrev pub process_in : Doing → Option Bot → Files → Option Process
process_in Nothing bot files = process_between bot files
process_in (Opening first second) bot files = rest_in files
process_in Creating bot files = None
process_in (Telling was event) bot files = Some (Runs was)
process_in Forgetting bot files = None

-- the same in the folder that holds a number; none if there is none
abbrev pub process_by : Holder → List Happening → Option Process
process_by NoneYet world = None
process_by NoneNow world = None
process_by (Holds folder) world = process_in (doing (past_of folder world)) (bot_in (past_of folder world)) (files_of folder world)

-- the call there that has not returned
abbrev pub call_by : Holder → List Happening → Doing
call_by NoneYet world = Nothing
call_by NoneNow world = Nothing
call_by (Holds folder) world = doing (past_of folder world)

abbrev pub bot_by : Option Process → Option Bot
bot_by None = None
bot_by (Some (Runs bot)) = Some bot
bot_by (Some (Ended first second)) = None

module _ (folders : ℕ → Folder) where
  abbrev pub process_of : ℕ → List Happening → Option Process
  process_of number world = process_by (holder_of folders number world) world

  abbrev pub call_of : ℕ → List Happening → Doing
  call_of number world = call_by (holder_of folders number world) world

  -- the bot of a number, while a process has it
  abbrev pub bot_of : ℕ → List Happening → Option Bot
  bot_of number world = bot_by (process_of number world)
