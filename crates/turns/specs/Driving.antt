-- Driving a bot: it handles what a server has sent line by line, then reads the clock, and writes what it says.
use Rattle.std.specs.Prelude.{◌≡◌, ◌≢◌, ◌≤◌, ◌⊎◌, ℕ, ◌==◌, Bool, true, false, ◌&&◌, if◌then◌else◌, is_none, List, [], ◌∷◌, ◌++◌, length, map, take}
use Rattle.std.specs.List.{flat_map}
use Rattle.streams.specs.declared.stream.Given.TheVariants.{Bytes, End, Stall, Fault}
use Rattle.streams.specs.State.{Source, Sink}
use Rattle.streams.specs.Calls.{Gives}
use Rattle.streams.specs.Transfers.{Reads, ReadsUntil, WritesOut, WritesFront}
use Rattle.ircline.specs.declared.line.Line.{Line as ReadLine}
use Rattle.ircline.specs.Stream.{lines_of, held_of}
use Rattle.procs.specs.Promises.{Promised}
use Rattle.sharelink.specs.declared.answer.Outgoing.{Outgoing}
use Rattle.turns.specs.declared.driving.DriveEnd.{DriveEnd}
use Rattle.turns.specs.declared.driving.DriveEnd.TheVariants.{Done, Read, Write, NoMemory}
use Rattle.turns.specs.declared.driving.DriveReport.{DriveReport}
use Rattle.turns.specs.declared.outcome.DriveOutcome.{DriveOutcome}
use Rattle.botcore.specs.declared.event.BotEvent.{BotEvent}
use Rattle.botcore.specs.declared.event.BotEvent.TheVariants.{Line, Clock}
use Rattle.botcore.specs.declared.report.End.TheVariants.{NoMemory as ends_no_memory}
use Rattle.botcore.specs.declared.report.Report.{Report}
use Rattle.botcore.specs.Bots.{Bot}
use Rattle.botcore.specs.Steps.{TakesStep}

-- ---- steps, one after another

-- each line with CR and LF
abbrev pub text_of : List (List ℕ) → List ℕ
text_of lines = flat_map (λ line. line ++ 13 ∷ 10 ∷ []) lines

-- the outcome of a step, if it has anything to report
abbrev pub is_silent : DriveOutcome → Bool
is_silent outcome = is_none outcome.note && (length outcome.calls == 0 && length outcome.faults == 0)

abbrev pub unless_silent : DriveOutcome → List DriveOutcome
unless_silent outcome = if is_silent outcome then [] else outcome ∷ []

abbrev pub outcome_of : Report → DriveOutcome
outcome_of report = record { note = report.note; calls = report.calls; faults = report.faults }

-- a bot, the output of its steps so far, packets for the link and text for the server, and their outcomes
pub record Course : Type 0 where
  pub bot : Bot
  pub packets : List Outgoing
  pub text : List ℕ
  pub outcomes : List DriveOutcome

-- before the first step
abbrev pub course_at : Bot → Course
course_at bot = record { bot = bot; packets = []; text = []; outcomes = [] }

-- The bot makes a step of this event, which does not run out of memory. Its packets, its lines and its outcome are
-- appended.
pub record MakesStep (promised : Promised) (names : List (List ℕ))
    (old : Course) (event : BotEvent) (new : Course) : Type 0 where
  pub report : Report
  pub takes : TakesStep promised names old.bot event report new.bot
  pub made : report.end ≢ ends_no_memory
  pub packets : new.packets ≡ old.packets ++ report.packets
  pub text : new.text ≡ old.text ++ text_of report.lines
  pub outcomes : new.outcomes ≡ old.outcomes ++ unless_silent (outcome_of report)

-- it makes a step of each event, in order
unfoldable pub Makes : Promised → List (List ℕ)
    → Course → List BotEvent → Course → Type 0
Makes promised names old [] new = new ≡ old
Makes promised names old (event ∷ events) new =
    (mid : Course) × MakesStep promised names old event mid × Makes promised names mid events new

-- it makes a step of each of the first events
pub record MakesFirst (promised : Promised) (names : List (List ℕ))
    (old : Course) (events : List BotEvent) (new : Course) : Type 0 where
  pub first : List BotEvent
  pub rest : List BotEvent
  pub all : first ++ rest ≡ events
  pub makes : Makes promised names old first new

-- ---- lines that are read

-- a step for each line
abbrev pub line_events : List ReadLine → List BotEvent
line_events lines = map (λ line. Line line) lines

-- These bytes complete these lines when this much of a line is held before them, and then this much is held.
pub record Ends (held bytes : List ℕ) (lines : List ReadLine) (after : List ℕ) : Type 0 where
  pub goes_on : (stream : List ℕ) → held ≡ held_of stream → lines_of (stream ++ bytes) ≡ lines_of stream ++ lines
  pub holds : (stream : List ℕ) → held ≡ held_of stream → after ≡ held_of (stream ++ bytes)

-- These bytes were handled when this much of a line was held before them: each line that they complete was a step, and
-- then this much is held.
pub record Hears (promised : Promised) (names : List (List ℕ))
    (old : Course) (held bytes : List ℕ) (new : Course) (after : List ℕ) : Type 0 where
  pub lines : List ReadLine
  pub ends : Ends held bytes lines after
  pub makes : Makes promised names old (line_events lines) new

-- memory ran out: of the lines that a prefix of the bytes completes, the first were steps
pub record HearsFirst (promised : Promised) (names : List (List ℕ))
    (old : Course) (held bytes : List ℕ) (new : Course) : Type 0 where
  pub front : List ℕ
  pub lost : List ℕ
  pub lines : List ReadLine
  pub after : List ℕ
  pub all : front ++ lost ≡ bytes
  pub ends : Ends held front lines after
  pub makes : MakesFirst promised names old (line_events lines) new

-- ---- what is read

-- There was no more to read: the stream was at its end or would block, or it was read 1,000 times.
abbrev pub ReadsEnough : Source → List ℕ → Source → Type 0
ReadsEnough old bytes new =
    ReadsUntil End 1000 old bytes new ⊎ (ReadsUntil Stall 1000 old bytes new ⊎ Reads 1000 old bytes new)

-- that, or some of it, by at most 1,000 reads
abbrev pub ReadsSome : Source → List ℕ → Source → Type 0
ReadsSome old bytes new = ReadsEnough old bytes new ⊎ ((count : ℕ) × (count ≤ 1000) × Reads count old bytes new)

-- The stream gave a piece, which the bot handled, and there may be more; or the stream has none now.
abbrev pub HearsPiece : Promised → List (List ℕ)
    → Course → List ℕ → Source → Bool → Course → List ℕ → Source → Type 0
HearsPiece promised names old held before true new after left =
    (n : ℕ) × (buffer : List ℕ) × Gives before (Bytes n) buffer left × Hears promised names old held (take n buffer) new after
HearsPiece promised names old held before false new after left =
    (buffer : List ℕ) × (Gives before End buffer left ⊎ Gives before Stall buffer left) × (new ≡ old) × (after ≡ held)

-- the stream failed, or memory ran out while the bot handled its piece
abbrev pub HearsNoPiece : DriveEnd → Promised → List (List ℕ)
    → Course → List ℕ → Source → Course → List ℕ → Source → Type 0
HearsNoPiece Done promised names old held before new after left = ⊥
HearsNoPiece Read promised names old held before new after left =
    (buffer : List ℕ) × Gives before Fault buffer left × (new ≡ old) × (after ≡ held)
HearsNoPiece Write promised names old held before new after left = ⊥
HearsNoPiece NoMemory promised names old held before new after left =
    (n : ℕ) × (buffer : List ℕ) × Gives before (Bytes n) buffer left × HearsFirst promised names old held (take n buffer) new

-- The bot has read and handled all that has arrived, or enough of it.
pub record HearsAll (promised : Promised)
    (names : List (List ℕ)) (old : Course) (held : List ℕ) (before : Source)
    (new : Course) (after : List ℕ) (left : Source) : Type 0 where
  pub bytes : List ℕ
  pub read : ReadsEnough before bytes left
  pub hears : Hears promised names old held bytes new after

-- some of it, until the stream fails or memory runs out
abbrev pub HearsSome : DriveEnd → Promised → List (List ℕ)
    → Course → List ℕ → Source → Course → List ℕ → Source → Type 0
HearsSome Done promised names old held before new after left = ⊥
HearsSome Read promised names old held before new after left =
    (bytes : List ℕ) × ReadsUntil Fault 1000 before bytes left × Hears promised names old held bytes new after
HearsSome Write promised names old held before new after left = ⊥
HearsSome NoMemory promised names old held before new after left =
    (bytes : List ℕ) × ReadsSome before bytes left × HearsFirst promised names old held bytes new

-- ---- all steps of a drive

-- a step for each line, and then one for the reading of the clock
abbrev pub all_events : List ReadLine → ℕ → List BotEvent
all_events lines now = line_events lines ++ Clock now ∷ []

-- All that has arrived is read, or enough of it; each line that it completes is a step, and then the reading is one.
pub record TakesAll (promised : Promised)
    (names : List (List ℕ)) (now : ℕ) (old : Course) (held : List ℕ) (before : Source)
    (new : Course) (after : List ℕ) (left : Source) : Type 0 where
  pub bytes : List ℕ
  pub lines : List ReadLine
  pub read : ReadsEnough before bytes left
  pub ends : Ends held bytes lines after
  pub makes : Makes promised names old (all_events lines now) new

-- memory ran out: only the first of all steps are made
pub record TakesFirst (promised : Promised)
    (names : List (List ℕ)) (now : ℕ) (old : Course) (held : List ℕ) (before : Source)
    (new : Course) (left : Source) : Type 0 where
  pub bytes : List ℕ
  pub lost : List ℕ
  pub lines : List ReadLine
  pub after : List ℕ
  pub read : ReadsSome before (bytes ++ lost) left
  pub ends : Ends held bytes lines after
  pub makes : MakesFirst promised names old (all_events lines now) new

-- some of them, until the stream fails or memory runs out
abbrev pub TakesSome : DriveEnd → Promised → List (List ℕ) → ℕ
    → Course → List ℕ → Source → Course → List ℕ → Source → Type 0
TakesSome Done promised names now old held before new after left = ⊥
TakesSome Read promised names now old held before new after left =
    (bytes : List ℕ) × ReadsUntil Fault 1000 before bytes left × Hears promised names old held bytes new after
TakesSome Write promised names now old held before new after left = ⊥
TakesSome NoMemory promised names now old held before new after left =
    TakesFirst promised names now old held before new left

-- ---- a whole drive

-- A bot and the connection over which it is driven: what its reader of lines holds, and both sides of the stream.
pub record Connection : Type 0 where
  pub bot : Bot
  pub held : List ℕ
  pub source : Source
  pub sink : Sink

-- all lines that were read and the reading are steps, and what the bot says is written as `Writes` says
pub record DrivesAll (Writes : Sink → List ℕ → Sink → Type 0)
    (promised : Promised) (names : List (List ℕ)) (now : ℕ)
    (old : Connection) (packets : List Outgoing) (outcomes : List DriveOutcome) (new : Connection) : Type 0 where
  pub bytes : List ℕ
  pub lines : List ReadLine
  pub text : List ℕ
  pub read : ReadsEnough old.source bytes new.source
  pub ends : Ends old.held bytes lines new.held
  pub makes : Makes promised names (course_at old.bot) (all_events lines now)
      (record { bot = new.bot; packets = packets; text = text; outcomes = outcomes })
  pub writes : Writes old.sink text new.sink

-- a read of the stream failed: all lines that were read are steps, and nothing is written
pub record DrivesLines (promised : Promised) (names : List (List ℕ))
    (old : Connection) (packets : List Outgoing) (outcomes : List DriveOutcome) (new : Connection) : Type 0 where
  pub bytes : List ℕ
  pub lines : List ReadLine
  pub text : List ℕ
  pub read : ReadsUntil Fault 1000 old.source bytes new.source
  pub ends : Ends old.held bytes lines new.held
  pub makes : Makes promised names (course_at old.bot) (line_events lines)
      (record { bot = new.bot; packets = packets; text = text; outcomes = outcomes })
  pub writes : new.sink ≡ old.sink

-- memory ran out: only the first of all steps are made, and nothing is written
pub record DrivesFirst (promised : Promised) (names : List (List ℕ))
    (now : ℕ) (old : Connection) (packets : List Outgoing) (outcomes : List DriveOutcome) (new : Connection) : Type 0 where
  pub bytes : List ℕ
  pub lost : List ℕ
  pub lines : List ReadLine
  pub after : List ℕ
  pub text : List ℕ
  pub read : ReadsSome old.source (bytes ++ lost) new.source
  pub ends : Ends old.held bytes lines after
  pub makes : MakesFirst promised names (course_at old.bot) (all_events lines now)
      (record { bot = new.bot; packets = packets; text = text; outcomes = outcomes })
  pub writes : new.sink ≡ old.sink

-- what a drive with this end has done, what it sends over the link, and the outcomes of its steps
abbrev pub DrivesTo : DriveEnd → Promised → List (List ℕ)
    → ℕ → Connection → List Outgoing → List DriveOutcome → Connection → Type 0
DrivesTo Done promised names now old packets outcomes new = DrivesAll WritesOut promised names now old packets outcomes new
DrivesTo Read promised names now old packets outcomes new = DrivesLines promised names old packets outcomes new
DrivesTo Write promised names now old packets outcomes new = DrivesAll WritesFront promised names now old packets outcomes new
DrivesTo NoMemory promised names now old packets outcomes new = DrivesFirst promised names now old packets outcomes new

abbrev pub Drives : Promised → List (List ℕ)
    → ℕ → Connection → DriveReport → Connection → Type 0
Drives promised names now old report new = DrivesTo report.end promised names now old report.packets report.outcomes new
