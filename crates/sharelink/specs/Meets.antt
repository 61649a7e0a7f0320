-- How a call's result matches its row.
use Rattle.std.specs.Prelude.{◌≡◌, ◌<◌, ◌⊎◌, [], length, Result, Ok, Err}
use Rattle.bytetext.specs.declared.failure.Failure.{Failure}
use Rattle.bytetext.specs.declared.failure.Failure.TheVariants.{Refused as refused_by, NoMemory}
use Rattle.botjournal.specs.Ledger.{Device, Failed}
use Rattle.protocol.specs.Notes.{Note as Meaning, LinkFault as Fault}
use Rattle.protocol.specs.Notes.Note.{Queued, Idle, Sent, Accepted, Refused, Served, Old, Repeat, Gap, Early, Applied, Kept, Installed, Compacted, Relayed, Text, Stray, Restarted}
use Rattle.protocol.specs.Notes.LinkFault.{Diverged as Apart, JournalFault as NotKept, Down as IsDown, BadChange as BadAsk, AsksFull as NoRoom, NumbersSpent as NoNumber, BadBotText as BadText, DiskFault as NotRead, OtherLayout as OtherBot}
use Rattle.protocol.specs.Bots.{How, Works, Fails, Counts, Row}
use Rattle.sharelink.specs.declared.answer.Answer.{Answer}
use Rattle.sharelink.specs.declared.error.LinkFault.{LinkFault}
use Rattle.sharelink.specs.declared.error.LinkFault.TheVariants.{Down, BadChange, AsksFull, Diverged, NumbersSpent, JournalFault, BadBotText, TextsFull, DiskFault, OtherLayout}
use Rattle.sharelink.specs.Calls.{note_of, outgoings_of, IsFault}

-- what the devices did in a call that is rejected: they failed if the error says so, and only then
abbrev pub how_of : LinkFault → How
how_of Down = Works
how_of (BadChange fault) = Works
how_of AsksFull = Works
how_of Diverged = Works
how_of NumbersSpent = Works
how_of JournalFault = Fails
how_of BadBotText = Works
how_of TextsFull = Works
how_of DiskFault = Fails
how_of OtherLayout = Works

-- if they failed, a disk has failed once more than before
abbrev pub HasFailed : How → Device → Device → Type 0
HasFailed Works before now = Unit {0}
HasFailed Fails before now = Failed before now
HasFailed Counts before now = Unit {0}

module _ {S : Type 0} where
  -- the row reports and sends this, and leaves this
  pub record Answers (row : Row S) (answer : Answer) (new : S) : Type 0 where
    pub told : row.told ≡ Ok (note_of answer.note)
    pub sends : row.sends ≡ outgoings_of answer.packets
    pub after : new ≡ row.after

  -- the row rejects the call for this fault, sends nothing, and leaves this
  pub record Refuses (row : Row S) (fault : LinkFault) (new : S) : Type 0 where
    pub told : IsFault fault row.told
    pub sends : row.sends ≡ []
    pub after : new ≡ row.after

  -- What allocates: an ask or a part that is kept, a text that is passed on or delivered, a reply or anything else that
  -- is journaled, and packets, if there are any. No error allocates: the leaf knows that records differ before it keeps
  -- anything.
  abbrev pub TakesMemory : (How → Row S) → Result Meaning Fault → Type 0
  TakesMemory row (Ok Queued) = Unit {0}
  TakesMemory row (Ok Idle) = 0 < length (row Works).sends
  TakesMemory row (Ok (Sent request)) = Unit {0}
  TakesMemory row (Ok (Accepted number)) = Unit {0}
  TakesMemory row (Ok (Refused fault)) = (row Fails).told ≡ Err NotKept
  TakesMemory row (Ok (Served count)) = 0 < length (row Works).sends
  TakesMemory row (Ok Old) = ⊥
  TakesMemory row (Ok Repeat) = 0 < length (row Works).sends
  TakesMemory row (Ok Gap) = ⊥
  TakesMemory row (Ok Early) = ⊥
  TakesMemory row (Ok (Applied number)) = Unit {0}
  TakesMemory row (Ok (Kept part)) = Unit {0}
  TakesMemory row (Ok (Installed version)) = Unit {0}
  TakesMemory row (Ok Compacted) = Unit {0}
  TakesMemory row (Ok Relayed) = Unit {0}
  TakesMemory row (Ok (Text from text)) = Unit {0}
  TakesMemory row (Ok Stray) = ⊥
  TakesMemory row (Ok (Restarted version)) = Unit {0}
  TakesMemory row (Err Apart) = ⊥
  TakesMemory row (Err IsDown) = ⊥
  TakesMemory row (Err (BadAsk fault)) = ⊥
  TakesMemory row (Err NoRoom) = ⊥
  TakesMemory row (Err NoNumber) = ⊥
  TakesMemory row (Err NotKept) = ⊥
  TakesMemory row (Err BadText) = ⊥
  TakesMemory row (Err NotRead) = ⊥
  TakesMemory row (Err OtherBot) = ⊥

-- A call that is no restart, by cases on its result. It gives what its row says for working devices; or, if it reports
-- that one failed, what its row says of that, and then one did fail. It runs out of memory only if its row allocates,
-- and leaves the link as it was.
abbrev pub Meets : {S : Type 0} → (How → Row S) → S → Device → Result Answer (Failure LinkFault) → S → Device → Type 0
Meets row old before (Ok answer) new now = Answers (row Works) answer new
Meets row old before (Err (refused_by fault)) new now = Refuses (row (how_of fault)) fault new × HasFailed (how_of fault) before now
Meets row old before (Err NoMemory) new now = TakesMemory row (row Works).told × (new ≡ old)

-- A restart, by cases on its result. It finds that the record in doubt counts, or doesn't; or a device failed; or
-- memory ran out, which leaves what a failed device leaves.
abbrev pub Restarts : {S : Type 0} → (How → Row S) → Device → Result Answer (Failure LinkFault) → S → Device → Type 0
Restarts row before (Ok answer) new now = Answers (row Works) answer new ⊎ Answers (row Counts) answer new
Restarts row before (Err (refused_by fault)) new now = Refuses (row Fails) fault new × Failed before now
Restarts row before (Err NoMemory) new now = new ≡ (row Fails).after
