-- The hub's side of the link, call by call. A call journals at most one record.
use Rattle.std.specs.Prelude.{◌≡◌, ◌≤◌, ℕ, zero, suc, ◌+◌, ◌-◌, ◌==◌, nat_lt, Bool, true, false, not, ◌||◌, List, [], ◌∷◌, ◌++◌, length, take, drop, slice_get, slice_set, if◌then◌else◌, Option, None, Some, Ok}
use Rattle.userfile.specs.Records.{Records}
use Rattle.userfile.specs.Apply.{bad_shape, refusal, changed}
use Rattle.userfile.specs.declared.change.Change.{Change as UserChange}
use Rattle.userfile.specs.declared.error.ChangeFault.{ChangeFault}
use Rattle.sharewire.specs.Texts.{is_bot_text}
use Rattle.botjournal.specs.declared.TheConstants.{LAYOUT}
use Rattle.botjournal.specs.declared.reply.Reply.{Reply}
use Rattle.botjournal.specs.declared.reply.Verdict.{Verdict}
use Rattle.botjournal.specs.declared.reply.Verdict.TheVariants.{Taken, Refused as refused_request}
use Rattle.protocol.specs.Numbers.{last_number, item_at, last_item, Place, Below, Same, Next, Above, place_of}
use Rattle.protocol.specs.Packets.{Packet, Outgoing, AcceptedChange, own, change_packet, answer_packet, to_each, numbered_from}
use Rattle.protocol.specs.Packets.Packet.{Hello, Change, Request, Accepted as accepted_packet, Refused as refused_packet, BotText, Part}
use Rattle.protocol.specs.Notes.Note.{Queued, Idle, Accepted, Refused, Served, Old, Repeat, Gap, Compacted, Relayed, Text, Stray}
use Rattle.protocol.specs.Notes.LinkFault.{BadChange, AsksFull, NumbersSpent, BadBotText, OtherLayout}
use Rattle.protocol.specs.Bots.{How, Row, noted, refused, Bot, unless_down, journals, restarted}
use Rattle.protocol.specs.Snapshots.{part_count, part_of}

-- ---- what a hub is

-- what survives a restart: the floor, which is the version of the journal's base; the changes accepted since; the
-- records at the hub's version; for each leaf, at its place, the last replies to it, at most eight, the oldest first;
-- and the journal's generation
pub record HubState : Type 0 where
  pub floor : ℕ
  pub tail : List AcceptedChange
  pub records : Records
  pub replies : List (List Reply)
  pub generation : ℕ

-- what a hub journals: an accepted change, the rejection of a leaf's next request, or its state alone
pub data HubRecord : Type 0 where
  Accept : AcceptedChange → HubRecord
  Settle : (leaf : ℕ) → ChangeFault → HubRecord
  Rebase : HubRecord

-- a hub, and the waiting asks, which a restart loses
abbrev pub Hub : Type 0
Hub = Bot HubState (List UserChange) HubRecord

-- a hub's version is the number of changes that it ever accepted
abbrev pub version_of : HubState → ℕ
version_of hub = hub.floor + length hub.tail

-- the number of a reply's request: 0 if there is no reply
abbrev pub request_number : Option Reply → ℕ
request_number None = 0
request_number (Some reply) = reply.request

-- the number of the last request that was replied to
abbrev pub last_request : List Reply → ℕ
last_request kept = request_number (last_item kept)

-- the replies that are kept at a leaf's place: none if it has no place
abbrev pub kept_in : Option (List Reply) → List Reply
kept_in None = []
kept_in (Some kept) = kept

-- the number of a leaf's next request
abbrev pub next_number : Option (List Reply) → ℕ
next_number place = last_request (kept_in place) + 1

abbrev pub last_eight : List Reply → List Reply
last_eight kept = drop (length kept - 8) kept

-- replies to requests with numbers from this one on
abbrev pub AreNumbered : ℕ → List Reply → Type 0
AreNumbered number [] = Unit {0}
AreNumbered number (reply ∷ replies) = (reply.request ≡ number) × AreNumbered (number + 1) replies

-- what is kept of a leaf: at most eight replies, to requests with consecutive numbers
pub record AreInTurn (kept : List Reply) : Type 0 where
  pub first : ℕ
  pub numbered : AreNumbered first kept
  pub few : length kept ≤ 8

-- the replies to a leaf after that to its next request is added; only the last eight are kept
abbrev pub with_next : ℕ → Verdict → List Reply → List Reply
with_next leaf answer kept = last_eight (kept ++ record { leaf = leaf; request = last_request kept + 1; answer = answer } ∷ [])

-- the reply to a leaf's next request, put at the leaf's place; the hub's own changes have none
abbrev pub with_reply : List (List Reply) → ℕ → Verdict → List (List Reply)
with_reply replies zero answer = replies
with_reply replies (suc place) answer = slice_set replies place (with_next (suc place) answer (kept_in (slice_get replies place)))

-- a record that is kept: the call, the restart that finds it and the reading of the journal all fold it in by this
-- function
abbrev pub hub_folded : HubState → HubRecord → HubState
hub_folded old (Accept entry) = record old {
  tail = old.tail ++ entry ∷ [];
  records = changed old.records entry.change;
  replies = with_reply old.replies entry.origin (Taken (version_of old + 1));
}
hub_folded old (Settle leaf fault) = record old { replies = with_reply old.replies leaf (refused_request fault) }
hub_folded old Rebase = record old { floor = version_of old; tail = []; generation = old.generation + 1 }

-- ---- what is sent

-- the answer to a hello at the floor or above: the changes that follow, at most 16
abbrev pub changes_from : HubState → ℕ → ℕ → List Outgoing
changes_from hub leaf version = numbered_from leaf version (take 16 (drop (version - hub.floor) hub.tail))

-- this number of parts of the records at the hub's version
abbrev pub parts_from : HubState → ℕ → ℕ → ℕ → List Outgoing
parts_from hub leaf first zero = []
parts_from hub leaf first (suc count) =
    record { to = leaf; packet = Part (version_of hub) first (part_count hub.records) (part_of hub.records first) }
    ∷ parts_from hub leaf (first + 1) count

-- the answer to a hello below the floor: all parts
abbrev pub all_parts : HubState → ℕ → List Outgoing
all_parts hub leaf = parts_from hub leaf 1 (part_count hub.records)

-- ---- the calls

-- the reply to the request of this number, if it is kept
abbrev pub reply_to : ℕ → List Reply → Option Reply
reply_to request [] = None
reply_to request (reply ∷ replies) = if reply.request == request then Some reply else reply_to request replies

-- no such leaf
abbrev pub is_no_leaf : ℕ → ℕ → Bool
is_no_leaf leaves leaf = (leaf == 0) || nat_lt leaves leaf

-- an ask of good shape waits if fewer than 64 wait already
abbrev pub ask_taken : {S : Type 0} → S → S → ℕ → Option ChangeFault → Row S
ask_taken old with_it waiting (Some fault) = refused (BadChange fault) old
ask_taken old with_it waiting None = if nat_lt waiting 64 then noted Queued with_it else refused AsksFull old

abbrev pub hub_asked : Hub → UserChange → Row Hub
hub_asked old change =
    unless_down old (ask_taken old (record old { loose = old.loose ++ change ∷ [] }) (length old.loose) (bad_shape change))

-- no such bot, the sender itself, or a text that no bot may send another
abbrev pub is_bad_text : ℕ → ℕ → ℕ → List ℕ → Bool
is_bad_text leaves number to text = nat_lt leaves to || (to == number) || not (is_bot_text text)

-- a text to another bot, sent to the bot that takes it next
abbrev pub text_told : {S : Type 0} → S → ℕ → ℕ → ℕ → ℕ → List ℕ → Row S
text_told old leaves number next to text =
    if is_bad_text leaves number to text then refused BadBotText old
    else record { told = Ok Relayed; sends = record { to = next; packet = BotText number to text } ∷ []; after = old }

module _ (leaves : ℕ) (how : How) (old : Hub) where
  -- a change is accepted under the next number if there is one: it is journaled, and goes to each leaf, after the
  -- packets that go first
  abbrev pub accepts : AcceptedChange → List Outgoing → List UserChange → Row Hub
  accepts entry first waiting =
      if nat_lt (version_of old.kept) last_number
      then journals hub_folded how old (Accept entry) (Accepted (version_of old.kept + 1))
      (first ++ to_each 1 leaves (change_packet (version_of old.kept + 1) entry)) waiting
      else refused NumbersSpent old

  -- the oldest ask, with those after it: if the records refuse it, it is dropped; otherwise it is accepted
  abbrev pub ask_served : UserChange → List UserChange → Option ChangeFault → Row Hub
  ask_served change rest (Some fault) = noted (Refused fault) (record old { loose = rest })
  ask_served change rest None = accepts (own change) [] rest

  abbrev pub hub_pumped_up : List UserChange → Row Hub
  hub_pumped_up [] = noted Idle old
  hub_pumped_up (change ∷ rest) = ask_served change rest (refusal old.kept.records change)

  -- a pump takes the oldest ask
  abbrev pub hub_pumped : Row Hub
  hub_pumped = unless_down old (hub_pumped_up old.loose)

  -- the hub tells a leaf the outcome of its request
  abbrev pub replied : ℕ → ℕ → Verdict → List Outgoing
  replied leaf request answer = record { to = leaf; packet = answer_packet leaf request answer } ∷ []

  -- a leaf's next request is settled: a rejection is journaled too, before it is sent
  abbrev pub next_request : ℕ → ℕ → UserChange → Option ChangeFault → Row Hub
  next_request leaf request change (Some fault) =
      journals hub_folded how old (Settle leaf fault) (Refused fault) (replied leaf request (refused_request fault)) old.loose
  next_request leaf request change None =
      accepts (record { origin = leaf; request = request; change = change })
      (replied leaf request (Taken (version_of old.kept + 1))) old.loose

  -- the hub answers a request that it has replied to with the same reply, if it still keeps that
  abbrev pub repeats : ℕ → ℕ → Option Reply → Row Hub
  repeats leaf request None = noted Old old
  repeats leaf request (Some reply) = record { told = Ok Repeat; sends = replied leaf request reply.answer; after = old }

  abbrev pub request_placed : ℕ → ℕ → UserChange → List Reply → Place → Row Hub
  request_placed leaf request change kept Below = repeats leaf request (reply_to request kept)
  request_placed leaf request change kept Same = repeats leaf request (reply_to request kept)
  request_placed leaf request change kept Next = next_request leaf request change (refusal old.kept.records change)
  request_placed leaf request change kept Above = noted Gap old

  -- a request of a leaf that has a place among the replies
  abbrev pub request_of : ℕ → ℕ → UserChange → Option (List Reply) → Row Hub
  request_of leaf request change None = noted Stray old
  request_of leaf request change (Some kept) =
      request_placed leaf request change kept (place_of request (last_request kept))

  abbrev pub served_with : List Outgoing → Row Hub
  served_with packets = record { told = Ok (Served (length packets)); sends = packets; after = old }

  -- a hello is answered with changes, or with parts if the hub no longer has the changes
  abbrev pub hello_served : ℕ → ℕ → Bool → Row Hub
  hello_served leaf version true = served_with (all_parts old.kept leaf)
  hello_served leaf version false = served_with (changes_from old.kept leaf version)

  -- a text for the hub, or one that the hub passes on
  abbrev pub text_passed : ℕ → ℕ → List ℕ → Row Hub
  text_passed from zero text = noted (Text from text) old
  text_passed from (suc to) text =
      record { told = Ok Relayed; sends = record { to = suc to; packet = BotText from (suc to) text } ∷ []; after = old }

  -- a hello of a leaf of the net, at a version that the hub has reached
  abbrev pub hello_met : ℕ → ℕ → Row Hub
  hello_met leaf version =
      if is_no_leaf leaves leaf || nat_lt (version_of old.kept) version then noted Stray old
      else hello_served leaf version (nat_lt version old.kept.floor)

  abbrev pub hub_received_up : Packet → Row Hub
  hub_received_up (Hello layout leaf version) = if layout == LAYOUT then hello_met leaf version else refused OtherLayout old
  hub_received_up (Request leaf request change) =
      if request == 0 then noted Stray old else request_of leaf request change (item_at old.kept.replies leaf)
  hub_received_up (BotText from to text) =
      if nat_lt leaves from || nat_lt leaves to then noted Stray old else text_passed from to text
  hub_received_up (Change number origin request change) = noted Stray old
  hub_received_up (accepted_packet leaf request number) = noted Stray old
  hub_received_up (refused_packet leaf request fault) = noted Stray old
  hub_received_up (Part version part count items) = noted Stray old

  abbrev pub hub_received : Packet → Row Hub
  hub_received packet = unless_down old (hub_received_up packet)

  -- the state alone goes into the journal, in the next generation if there is one
  abbrev pub hub_compacted : Row Hub
  hub_compacted = unless_down old (
      if nat_lt old.kept.generation last_number then journals hub_folded how old Rebase Compacted [] old.loose
      else refused NumbersSpent old)

  abbrev pub hub_restarted : Row Hub
  hub_restarted = restarted hub_folded version_of [] how old
