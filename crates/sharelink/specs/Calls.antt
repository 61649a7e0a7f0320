-- What a call returns, in the words of the protocol.
use Rattle.std.specs.Prelude.{◌≡◌, List, [], ◌∷◌, Result, Err}
use Rattle.sharelink.specs.declared.note.LinkNote.{LinkNote}
use Rattle.sharelink.specs.declared.note.LinkNote.TheVariants as told
use Rattle.sharelink.specs.declared.answer.Outgoing.{Outgoing}
use Rattle.sharelink.specs.declared.error.LinkFault.{LinkFault}
use Rattle.sharelink.specs.declared.error.LinkFault.TheVariants as fault
use Rattle.protocol.specs.Packets.{Outgoing as Sent, from_wire}
use Rattle.protocol.specs.Notes.{Note as Meaning, LinkFault as Fault}
use Rattle.protocol.specs.Notes.Note.{Queued, Idle, Sent as RequestSent, Accepted, Refused, Served, Old, Repeat, Gap, Early, Applied, Kept, Installed, Compacted, Relayed, Text, Stray, Restarted}
use Rattle.protocol.specs.Notes.LinkFault.{Down, BadChange, AsksFull, Diverged, NumbersSpent, JournalFault, BadBotText, DiskFault, OtherLayout}

-- what a note means in the protocol
abbrev pub note_of : LinkNote → Meaning
note_of told.Queued = Queued
note_of told.Idle = Idle
note_of (told.Sent request) = RequestSent request
note_of (told.Accepted number) = Accepted number
note_of (told.Refused fault) = Refused fault
note_of (told.Served count) = Served count
note_of told.Old = Old
note_of told.Repeat = Repeat
note_of told.Gap = Gap
note_of told.Early = Early
note_of (told.Applied number) = Applied number
note_of (told.Kept part) = Kept part
note_of (told.Installed version) = Installed version
note_of told.Compacted = Compacted
note_of told.Relayed = Relayed
note_of (told.Text from text) = Text from text
note_of told.Stray = Stray
note_of (told.Restarted version) = Restarted version

-- a packet and where it goes
abbrev pub outgoing_of : Outgoing → Sent
outgoing_of outgoing = record { to = outgoing.to; packet = from_wire outgoing.packet }

abbrev pub outgoings_of : List Outgoing → List Sent
outgoings_of [] = []
outgoings_of (outgoing ∷ others) = outgoing_of outgoing ∷ outgoings_of others

-- the error is this fault of the protocol; the protocol has none for a step that has sent too many texts
abbrev pub IsFault : LinkFault → Result Meaning Fault → Type 0
IsFault fault.Down said = said ≡ Err Down
IsFault (fault.BadChange of_change) said = said ≡ Err (BadChange of_change)
IsFault fault.AsksFull said = said ≡ Err AsksFull
IsFault fault.Diverged said = said ≡ Err Diverged
IsFault fault.NumbersSpent said = said ≡ Err NumbersSpent
IsFault fault.JournalFault said = said ≡ Err JournalFault
IsFault fault.BadBotText said = said ≡ Err BadBotText
IsFault fault.TextsFull said = ⊥
IsFault fault.DiskFault said = said ≡ Err DiskFault
IsFault fault.OtherLayout said = said ≡ Err OtherLayout
