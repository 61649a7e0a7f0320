-- The outcome of a change that was asked for, from what the link says.
use Rattle.std.specs.Prelude.{Bool, true, false}
use Rattle.sharelink.specs.declared.note.LinkNote.{LinkNote}
use Rattle.sharelink.specs.declared.error.LinkFault.{LinkFault}
use Rattle.sharelink.specs.declared.error.LinkFault.TheVariants as refuses
use Rattle.sharelink.specs.declared.note.LinkNote.TheVariants as says
use Rattle.administrators.specs.declared.change_outcome.ChangeOutcome.{ChangeOutcome}
use Rattle.administrators.specs.declared.change_outcome.ChangeOutcome.TheVariants.{Nothing, Accepted, Refused, Barred}

-- the userfile accepts or rejects a change; no other note of the link ends a change
abbrev pub of_note : LinkNote → ChangeOutcome
of_note says.Queued = Nothing
of_note says.Idle = Nothing
of_note (says.Sent request) = Nothing
of_note (says.Accepted n) = Accepted n
of_note (says.Refused fault) = Refused fault
of_note (says.Served count) = Nothing
of_note says.Old = Nothing
of_note says.Repeat = Nothing
of_note says.Gap = Nothing
of_note says.Early = Nothing
of_note (says.Applied n) = Nothing
of_note (says.Kept part) = Nothing
of_note (says.Installed version) = Nothing
of_note says.Compacted = Nothing
of_note says.Relayed = Nothing
of_note (says.Text from text) = Nothing
of_note says.Stray = Nothing
of_note (says.Restarted version) = Nothing

-- the link refuses the change; a hello of another layout is no change
abbrev pub of_fault : LinkFault → ChangeOutcome
of_fault refuses.Down = Barred refuses.Down
of_fault (refuses.BadChange fault) = Barred (refuses.BadChange fault)
of_fault refuses.AsksFull = Barred refuses.AsksFull
of_fault refuses.OtherLayout = Nothing
of_fault refuses.Diverged = Barred refuses.Diverged
of_fault refuses.NumbersSpent = Barred refuses.NumbersSpent
of_fault refuses.JournalFault = Barred refuses.JournalFault
of_fault refuses.BadBotText = Barred refuses.BadBotText
of_fault refuses.TextsFull = Barred refuses.TextsFull
of_fault refuses.DiskFault = Barred refuses.DiskFault

abbrev pub is_told : ChangeOutcome → Bool
is_told Nothing = false
is_told (Accepted n) = true
is_told (Refused fault) = true
is_told (Barred fault) = true
