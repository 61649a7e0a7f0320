-- A hub's end of the link as contracts see it, and how its calls match the protocol's.
use Rattle.std.specs.Prelude.{◌+◌, ℕ, zero, suc, Bool, true, false, List, [], ◌∷◌, ◌++◌, take, Result, Ok, Err}
use Rattle.bytetext.specs.declared.failure.Failure.{Failure}
use Rattle.userfile.specs.declared.change.Change.{Change}
use Rattle.botjournal.specs.declared.reply.Verdict.TheVariants.{Taken}
use Rattle.protocol.specs.Packets.{Outgoing, AcceptedChange, answer_packet, change_packet, to_each}
use Rattle.protocol.specs.HubRules.{Hub, HubState, HubRecord, Rebase, version_of, accepts, hub_folded, changes_from, all_parts}
use Rattle.protocol.specs.Journals.{hub_meaning}
use Rattle.protocol.specs.Bots.{How, Row}
use Rattle.sharelink.specs.declared.answer.Answer.{Answer}
use Rattle.sharelink.specs.declared.error.LinkFault.{LinkFault}
use Rattle.sharelink.specs.Records.{HubMayWrite}
use Rattle.sharelink.specs.Kept.{Kept, AreOf, Renews}
use Rattle.sharelink.specs.StateEnds.{End, end_of, Calls as EndCalls, CallsRestart as EndRestarts}

abbrev pub HubEnd : Type 0
HubEnd = End Hub

-- bytes of two disks that belong to a hub of `leaves` leaves: they mean what it keeps, or that with the record in doubt
abbrev pub IsOwn : ℕ → Hub → List ℕ → List ℕ → Type 0
IsOwn leaves hub = AreOf (hub_meaning leaves) hub_folded hub.kept hub.doubt

-- what a hub becomes when its journal is rewritten: the journal gets its state alone, and has a next generation
abbrev pub RenewsHub : HubState → HubState → Type 0
RenewsHub = Renews HubMayWrite hub_folded Rebase

-- a hub's call meets its row
abbrev pub Calls : HubEnd → (How → Row Hub) → Result Answer (Failure LinkFault) → HubEnd → Type 0
Calls old row result new = EndCalls (IsOwn old.leaves) old row result new

abbrev pub CallsRestart : HubEnd → (How → Row Hub) → Result Answer (Failure LinkFault) → HubEnd → Type 0
CallsRestart old row result new = EndRestarts (IsOwn old.leaves) old row result new

-- what a hub keeps in its journal
abbrev pub KeptHub : Type 0
KeptHub = Kept HubState HubRecord

-- what is kept, and the waiting asks
abbrev pub hub_end : KeptHub → List Change → HubEnd
hub_end hub waiting = end_of 0 hub.who hub waiting

-- the oldest asks, of which this many stay
abbrev pub with_oldest : HubEnd → ℕ → HubEnd
with_oldest old count = record old { bot = record (old.bot) { loose = take count old.bot.loose } }

-- ---- what is sent

-- what the hub sends a leaf about its accepted request, before the change goes out; the hub's own changes have no asker
abbrev pub told_before : ℕ → ℕ → ℕ → List Outgoing
told_before zero request number = []
told_before (suc place) request number =
    record { to = suc place; packet = answer_packet (suc place) request (Taken number) } ∷ []

-- what goes out when a change is accepted under this number
abbrev pub told_accepted : ℕ → ℕ → AcceptedChange → List Outgoing
told_accepted leaves number entry =
    told_before entry.origin entry.request number ++ to_each 1 leaves (change_packet number entry)

-- the answer to a hello, whether its version is below the floor or not
abbrev pub hello_sends : HubState → ℕ → ℕ → Bool → List Outgoing
hello_sends hub leaf version true = all_parts hub leaf
hello_sends hub leaf version false = changes_from hub leaf version

-- ---- accepting

-- the asks that wait after a call: the remaining ones if the call returns `Ok`, otherwise those from before
abbrev pub left_by : Result Answer (Failure LinkFault) → List Change → List Change → List Change
left_by (Ok answer) before after = after
left_by (Err error) before after = before

-- a change that isn't refused is accepted, whichever asks wait before and after the call
abbrev pub Accepts : KeptHub → AcceptedChange → Result Answer (Failure LinkFault) → KeptHub → Type 0
Accepts old entry result new = (before after : List Change)
    → Calls (hub_end old before) (λ how. accepts old.who how (hub_end old before).bot entry
    (told_before entry.origin entry.request (version_of old.state + 1)) after) result (hub_end new (left_by result before after))
