-- A leaf's side of the link, call by call. A call journals at most one record.
use Rattle.std.specs.Prelude.{ℕ, ◌+◌, ◌==◌, nat_lt, nat_le, Bool, true, false, not, ◌||◌, ◌&&◌, List, [], ◌∷◌, ◌++◌, length, if◌then◌else◌, Option, None, Some, Ok}
use Rattle.userfile.specs.Records.{Records}
use Rattle.userfile.specs.Apply.{bad_shape, refusal, changed}
use Rattle.userfile.specs.Together.{records_fault}
use Rattle.userfile.specs.declared.change.Change.{Change as UserChange}
use Rattle.userfile.specs.declared.error.ChangeFault.{ChangeFault}
use Rattle.usercodec.specs.declared.records.Record.{Record}
use Rattle.botjournal.specs.declared.TheConstants.{LAYOUT}
use Rattle.botjournal.specs.declared.request.Request.{Request as OutRequest}
use Rattle.botjournal.specs.declared.reply.Verdict.{Verdict}
use Rattle.botjournal.specs.declared.reply.Verdict.TheVariants.{Taken, Refused as refused_request}
use Rattle.protocol.specs.Numbers.{last_number, last_item, Place, Below, Same, Next, Above, place_of}
use Rattle.protocol.specs.Packets.{Packet, Outgoing}
use Rattle.protocol.specs.Packets.Packet.{Hello, Change, Request, Accepted as accepted_packet, Refused as refused_packet, BotText, Part}
use Rattle.protocol.specs.Notes.{Note}
use Rattle.protocol.specs.Notes.Note.{Idle, Sent, Accepted, Refused, Old, Early, Applied, Kept, Installed, Compacted, Text, Stray}
use Rattle.protocol.specs.Notes.LinkFault.{Diverged, NumbersSpent}
use Rattle.protocol.specs.Bots.{How, Row, noted, refused, Bot, unless_down, journals, restarted}
use Rattle.protocol.specs.Snapshots.{PartSet, records_from, joined, set_for, with_part, is_behind}
use Rattle.protocol.specs.HubRules.{ask_taken}

-- ---- what a leaf is

-- what survives a restart: the version and its records, the last request number, the outstanding requests, by rising
-- number, and the generation of the journal
pub record LeafState : Type 0 where
  pub version : ℕ
  pub records : Records
  pub last : ℕ
  pub out : List OutRequest
  pub generation : ℕ

-- what a restart loses: the waiting asks, and the parts that are kept
pub record LeafLoose : Type 0 where
  pub waiting : List UserChange
  pub parts : Option PartSet

-- no ask waits, and no part is kept
abbrev pub no_loose : LeafLoose
no_loose = record { waiting = []; parts = None }

-- what a leaf journals: it applies the next change; it sends a change under the next request number; the outstanding
-- request of this number got its reply; the records of a version replace its records; or its state alone
pub data LeafRecord : Type 0 where
  Apply : UserChange → LeafRecord
  Out : UserChange → LeafRecord
  Done : (request : ℕ) → LeafRecord
  Install : (version : ℕ) → Records → LeafRecord
  Compact : LeafRecord

abbrev pub Leaf : Type 0
Leaf = Bot LeafState LeafLoose LeafRecord

-- ---- the outstanding requests

-- the request of this number is outstanding
abbrev pub is_out : ℕ → List OutRequest → Bool
is_out number [] = false
is_out number (request ∷ requests) = (request.number == number) || is_out number requests

-- all but the request of this number
abbrev pub without : ℕ → List OutRequest → List OutRequest
without number [] = []
without number (request ∷ requests) = if request.number == number then requests else request ∷ without number requests

-- the number of a request: 0 if there is none
abbrev pub number_of : Option OutRequest → ℕ
number_of None = 0
number_of (Some request) = request.number

-- the highest outstanding number
abbrev pub highest : List OutRequest → ℕ
highest out = number_of (last_item out)

-- the number after the last is less than eight above the lowest outstanding number
abbrev pub has_room : ℕ → List OutRequest → Bool
has_room last [] = true
has_room last (request ∷ requests) = nat_lt (last + 1) (request.number + 8)

-- a next request may go out: it has a number, and there is room for it
abbrev pub may_go_out : ℕ → List OutRequest → Bool
may_go_out last out = nat_lt last last_number && has_room last out

-- the outstanding requests with one more, for this change and under this number
abbrev pub with_request : ℕ → UserChange → List OutRequest → List OutRequest
with_request number change out = out ++ record { number = number; change = change } ∷ []

-- a record that is kept: the call, the restart that finds it and the reading of the journal all fold it in by this
-- function
abbrev pub leaf_folded : LeafState → LeafRecord → LeafState
leaf_folded old (Apply change) = record old { version = old.version + 1; records = changed old.records change }
leaf_folded old (Out change) = record old { last = old.last + 1; out = with_request (old.last + 1) change old.out }
leaf_folded old (Done request) = record old { out = without request old.out }
leaf_folded old (Install version records) = record old { version = version; records = records; generation = old.generation + 1 }
leaf_folded old Compact = record old { generation = old.generation + 1 }

-- ---- the calls

abbrev pub leaf_asked : Leaf → UserChange → Row Leaf
leaf_asked old change =
    unless_down old (ask_taken old
    (record old { loose = record old.loose { waiting = old.loose.waiting ++ change ∷ [] } }) (length old.loose.waiting) (bad_shape change))

module _ (leaves number : ℕ) (how : How) (old : Leaf) where
  -- the leaf's hello to the hub: its layout and its version
  abbrev pub hello : Outgoing
  hello = record { to = 0; packet = Hello LAYOUT number old.kept.version }

  -- the leaf's requests to the hub for these changes
  abbrev pub asking : List OutRequest → List Outgoing
  asking [] = []
  asking (request ∷ requests) = record { to = 0; packet = Request number request.number request.change } ∷ asking requests

  -- after a hello, the leaf sends the outstanding requests again
  abbrev pub sent_again : List OutRequest → Row Leaf
  sent_again [] = record { told = Ok Idle; sends = hello ∷ []; after = old }
  sent_again (request ∷ requests) =
      record { told = Ok (Sent (highest (request ∷ requests))); sends = hello ∷ asking (request ∷ requests); after = old }

  -- the next request has to wait: the leaf sends the outstanding ones again; if there are none, the numbers are used up
  abbrev pub held_back : List OutRequest → Row Leaf
  held_back [] = refused NumbersSpent old
  held_back (request ∷ requests) = sent_again (request ∷ requests)

  -- if it may go out, the oldest ask gets the next request number, is journaled, and goes after the outstanding
  -- requests; a hello goes first
  abbrev pub leaf_pumped_up : List OutRequest → List UserChange → Row Leaf
  leaf_pumped_up out [] = sent_again out
  leaf_pumped_up out (change ∷ rest) =
      if may_go_out old.kept.last out
      then journals leaf_folded how old (Out change) (Sent (old.kept.last + 1))
      (hello ∷ asking (with_request (old.kept.last + 1) change out)) (record old.loose { waiting = rest })
      else held_back out

  abbrev pub leaf_pumped : Row Leaf
  leaf_pumped = unless_down old (leaf_pumped_up old.kept.out old.loose.waiting)

  -- what the hub sent doesn't fit these records; the leaf drops the parts that it kept
  abbrev pub diverged : Row Leaf
  diverged = refused Diverged (record old { loose = record old.loose { parts = None } })

  abbrev pub next_applied : UserChange → Option ChangeFault → Row Leaf
  next_applied change (Some fault) = diverged
  next_applied change None = journals leaf_folded how old (Apply change) (Applied (old.kept.version + 1)) [] old.loose

  -- the leaf applies the change that is numbered one above its version, and no other
  abbrev pub change_placed : UserChange → Place → Row Leaf
  change_placed change Below = noted Old old
  change_placed change Same = noted Old old
  change_placed change Next = next_applied change (refusal old.kept.records change)
  change_placed change Above = noted Early old

  -- the note of a reply
  abbrev pub note_of : Verdict → Note
  note_of (Taken n) = Accepted n
  note_of (refused_request fault) = Refused fault

  -- a reply to an outstanding request ends it
  abbrev pub reply_taken : ℕ → Verdict → Bool → Row Leaf
  reply_taken request answer false = noted Old old
  reply_taken request answer true = journals leaf_folded how old (Done request) (note_of answer) [] old.loose

  abbrev pub reply_received : ℕ → ℕ → Verdict → Row Leaf
  reply_received leaf request answer =
      if not (leaf == number) || (request == 0) then noted Stray old
      else reply_taken request answer (is_out request old.kept.out)

  -- the whole set: its records replace the leaf's if one userfile can hold them together, in the next generation if
  -- there is one
  abbrev pub installed : ℕ → Records → Option ChangeFault → Row Leaf
  installed version records (Some fault) = diverged
  installed version records None =
      if nat_lt old.kept.generation last_number
      then journals leaf_folded how old (Install version records) (Installed version) [] (record old.loose { parts = None })
      else refused NumbersSpent old

  -- a part that leaves the set incomplete is kept
  abbrev pub set_taken : ℕ → PartSet → Option (List Record) → Row Leaf
  set_taken part set None = noted (Kept part) (record old { loose = record old.loose { parts = Some set } })
  set_taken part set (Some items) =
      installed set.version (records_from items) (records_fault (records_from items).users (records_from items).bans)

  abbrev pub part_taken : ℕ → PartSet → Row Leaf
  part_taken part set = set_taken part set (joined set.parts)

  abbrev pub leaf_received_up : Packet → Row Leaf
  leaf_received_up (Change n origin request change) = change_placed change (place_of n old.kept.version)
  leaf_received_up (accepted_packet leaf request n) = reply_received leaf request (Taken n)
  leaf_received_up (refused_packet leaf request fault) = reply_received leaf request (refused_request fault)
  leaf_received_up (Part version part count items) =
      if (part == 0) || nat_lt count part then noted Stray old
      else if nat_le version old.kept.version || is_behind version old.loose.parts then noted Old old
      else part_taken part (with_part (set_for old.loose.parts version count) part items)
  leaf_received_up (BotText from to text) = if nat_lt leaves from || not (to == number) then noted Stray old else noted (Text from text) old
  leaf_received_up (Hello layout leaf version) = noted Stray old
  leaf_received_up (Request leaf request change) = noted Stray old

  abbrev pub leaf_received : Packet → Row Leaf
  leaf_received packet = unless_down old (leaf_received_up packet)

  abbrev pub leaf_compacted : Row Leaf
  leaf_compacted = unless_down old (
      if nat_lt old.kept.generation last_number then journals leaf_folded how old Compact Compacted [] old.loose
      else refused NumbersSpent old)

  abbrev pub leaf_restarted : Row Leaf
  leaf_restarted = restarted leaf_folded (λ (leaf : LeafState). leaf.version) no_loose how old
