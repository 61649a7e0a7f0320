-- Who asked for the changes that wait at a bot or are out, the oldest first: an admin, a person whose words made a
-- proc ask, or nobody who waits for an answer.
use Rattle.std.specs.Prelude.{ℕ, Bool, true, false, ◌-◌, ◌^◌, ◌==◌, min, List, [], ◌∷◌, ◌++◌, Option, None, Some}
use Rattle.std.specs.Prelude.{drop, count_by, replicate, if◌then◌else◌}
use Rattle.procs.specs.declared.action.Action.{Action}
use Rattle.procs.specs.declared.action.Action.TheVariants.{Ask, Timer, Utimer, KillTimer, SendBot, Put}
use Rattle.procs.specs.declared.call.Call.{Call}
use Rattle.procs.specs.declared.call_kind.CallKind.{CallKind}
use Rattle.procs.specs.declared.call_kind.CallKind.TheVariants.{Raw, Msg, Msgm, Notc, Pub, Pubm, Join, Part, Sign, Kick, Nick, Mode, Topc, Account}
use Rattle.procs.specs.declared.call_kind.CallKind.TheVariants.{Bot, Time, Cron, Timer as timer_kind}
use Rattle.procs.specs.declared.made_call.MadeCall.{MadeCall}
use Rattle.sharewire.specs.declared.packet.Packet.{Packet}
use Rattle.sharewire.specs.declared.packet.Packet.TheVariants as wire
use Rattle.sharelink.specs.declared.answer.Outgoing.{Outgoing}
use Rattle.sharelink.specs.declared.error.LinkFault.{LinkFault}
use Rattle.sharelink.specs.declared.error.LinkFault.TheVariants as refuses
use Rattle.sharelink.specs.declared.note.LinkNote.{LinkNote}
use Rattle.sharelink.specs.declared.note.LinkNote.TheVariants as says
use Rattle.administrators.specs.declared.asks.Recipient.{Recipient}
use Rattle.administrators.specs.declared.asks.Recipient.TheVariants.{Nobody, Admin, Person}
use Rattle.administrators.specs.declared.change_outcome.ChangeOutcome.{ChangeOutcome}
use Rattle.administrators.specs.declared.change_outcome.ChangeOutcome.TheVariants.{Nothing, Accepted, Refused, Barred}

-- who asked first
abbrev pub first_asker : List Recipient → Recipient
first_asker [] = Nobody
first_asker (asker ∷ askers) = asker

abbrev pub is_admin : ℕ → Recipient → Bool
is_admin number Nobody = false
is_admin number (Admin other) = other == number
is_admin number (Person nick) = false

-- the admin whose command is being executed, if there is one
abbrev pub admin_if : Option ℕ → Recipient
admin_if None = Nobody
admin_if (Some number) = Admin number

-- ---- what procs ask for

abbrev pub is_ask : Action → Bool
is_ask (Ask change) = true
is_ask (Timer wish) = false
is_ask (Utimer wish) = false
is_ask (KillTimer id) = false
is_ask (SendBot wish) = false
is_ask (Put wish) = false

abbrev pub asks_of : MadeCall → ℕ
asks_of call = count_by is_ask call.reply.actions

-- the link refuses a change, and not a text, with this fault
abbrev pub is_ask_fault : LinkFault → Bool
is_ask_fault refuses.Down = false
is_ask_fault refuses.OtherLayout = false
is_ask_fault refuses.Diverged = false
is_ask_fault (refuses.BadChange fault) = true
is_ask_fault refuses.AsksFull = true
is_ask_fault refuses.NumbersSpent = false
is_ask_fault refuses.JournalFault = false
is_ask_fault refuses.BadBotText = false
is_ask_fault refuses.TextsFull = false
is_ask_fault refuses.DiskFault = false

abbrev pub at_most_usize : ℕ → ℕ
at_most_usize count = min count (2 ^ 64 - 1)

-- the kinds of calls that are made for words that somebody said; that person's nick comes first
abbrev pub is_spoken : CallKind → Bool
is_spoken Msg = true
is_spoken Msgm = true
is_spoken Pub = true
is_spoken Pubm = true
is_spoken Raw = false
is_spoken Notc = false
is_spoken Join = false
is_spoken Part = false
is_spoken Sign = false
is_spoken Kick = false
is_spoken Nick = false
is_spoken Mode = false
is_spoken Topc = false
is_spoken Account = false
is_spoken Bot = false
is_spoken Time = false
is_spoken Cron = false
is_spoken timer_kind = false

-- who waits for the answer to what a call asks for
abbrev pub asker_by : Bool → List (List ℕ) → Recipient
asker_by spoken [] = Nobody
asker_by spoken (nick ∷ args) = if spoken then Person nick else Nobody

abbrev pub asker_in : Call → Recipient
asker_in call = asker_by (is_spoken call.kind) call.args

-- one asker for each change that the call asks for
abbrev pub askers_of : MadeCall → List Recipient
askers_of made = replicate (asks_of made) (asker_in made.call)

-- ---- what a leaf's pump sends

abbrev pub asks_hub : Packet → Bool
asks_hub (wire.Hello layout leaf version) = false
asks_hub (wire.Change number origin request change) = false
asks_hub (wire.Part version part count records) = false
asks_hub (wire.Request leaf request change) = true
asks_hub (wire.Accepted leaf request number) = false
asks_hub (wire.Refused leaf request fault) = false
asks_hub (wire.BotText from to text) = false

abbrev pub is_request : Outgoing → Bool
is_request outgoing = asks_hub outgoing.packet

-- ---- what a step says

-- a change waits that this admin, or nobody, asked for
abbrev pub queued : Option ℕ → LinkNote → List Recipient → List Recipient
queued asker says.Queued askers = askers ++ admin_if asker ∷ []
queued asker says.Idle askers = askers
queued asker (says.Sent request) askers = askers
queued asker (says.Accepted n) askers = askers
queued asker (says.Refused fault) askers = askers
queued asker (says.Served count) askers = askers
queued asker says.Old askers = askers
queued asker says.Repeat askers = askers
queued asker says.Gap askers = askers
queued asker says.Early askers = askers
queued asker (says.Applied n) askers = askers
queued asker (says.Kept part) askers = askers
queued asker (says.Installed version) askers = askers
queued asker says.Compacted askers = askers
queued asker says.Relayed askers = askers
queued asker (says.Text from text) askers = askers
queued asker says.Stray askers = askers
queued asker (says.Restarted version) askers = askers

-- the oldest change is accepted or refused
abbrev pub answered : ChangeOutcome → List Recipient → List Recipient
answered Nothing askers = askers
answered (Accepted n) askers = drop 1 askers
answered (Refused fault) askers = drop 1 askers
answered (Barred fault) askers = askers

-- The askers of procs' changes come first, then that of the command that is being executed. If the step settles what
-- waits, the asker of an answered change is removed.
abbrev pub settled : Bool → ChangeOutcome → List Recipient → List Recipient
settled true outcome askers = answered outcome askers
settled false outcome askers = askers
