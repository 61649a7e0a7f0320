-- What a call of one bot leaves of its end: the hub's places for replies, and the numbers of a leaf's requests.
use Rattle.std.proofs.Common.{◌≡◌, ◌<◌, ℕ, zero, suc, ◌+◌, ◌==◌, nat_le, nat_lt, Bool, true, false, not, ◌||◌, if◌then◌else◌, List, [], ◌∷◌, ◌++◌, length, length-set, Option, None, Some, Ok, refl, sym, subst, ◌∙◌, arith, eqb-true}
use Rattle.userfile.specs.Apply.{bad_shape, refusal}
use Rattle.userfile.specs.Together.{records_fault}
use Rattle.userfile.specs.declared.change.Change.{Change as UserChange}
use Rattle.userfile.specs.declared.error.ChangeFault.{ChangeFault}
use Rattle.botjournal.specs.declared.TheConstants.{LAYOUT}
use Rattle.botjournal.specs.declared.request.Request.{Request as OutRequest}
use Rattle.botjournal.specs.declared.reply.Reply.{Reply}
use Rattle.botjournal.specs.declared.reply.Verdict.{Verdict}
use Rattle.botjournal.specs.declared.reply.Verdict.TheVariants.{Taken, Refused as refused_request}
use Rattle.protocol.specs.Numbers.{last_number, item_at, Place, Below, Same, Next, Above, place_of}
use Rattle.protocol.specs.Packets.{Packet, Outgoing, AcceptedChange, own, change_packet, to_each}
use Rattle.protocol.specs.Packets.Packet.{Hello, Change, Request, Accepted as accepted_packet, Refused as refused_packet, BotText, Part}
use Rattle.protocol.specs.Notes.{Note}
use Rattle.protocol.specs.Notes.Note.{Queued, Sent, Accepted, Old, Installed, Compacted, Relayed, Text, Stray}
use Rattle.protocol.specs.Notes.LinkFault.{AsksFull, Down, NumbersSpent, BadBotText, OtherLayout}
use Rattle.protocol.specs.Bots.{How, Works, Fails, Counts, Row, noted, refused, unless_down, journals, counted}
use Rattle.protocol.specs.Snapshots.{PartSet, records_from, joined, set_for, with_part, is_behind}
use Rattle.protocol.specs.HubRules.{HubState, HubRecord, Accept, Settle, Rebase, Hub, version_of, last_request, with_reply, reply_to, hub_folded, is_no_leaf, ask_taken, hub_asked, is_bad_text, text_told, accepts, ask_served, hub_pumped_up, hub_pumped, replied, next_request, repeats, request_placed, request_of, hello_served, hello_met, text_passed, hub_received_up, hub_received, hub_compacted, hub_restarted}
use Rattle.protocol.specs.LeafRules.{LeafState, LeafRecord, Apply, Out, Done, Install, Compact as compact_record, LeafLoose, Leaf, is_out, without, may_go_out, with_request, leaf_folded, leaf_asked, hello, asking, sent_again, held_back, leaf_pumped_up, leaf_pumped, next_applied, change_placed, reply_taken, reply_received, installed, set_taken, part_taken, leaf_received_up, leaf_received, leaf_compacted, leaf_restarted}
use Rattle.protocol.specs.Network.{Event, Ask, Pump, Tell, Compact, Restart, hub_event, leaf_event}
use Rattle.protocol.specs.Ends.{End as LinkEnd, AtHub, AtLeaf, end_did, end_received}
use Rattle.processes.specs.Standing.{AreAbove, AsksAbove, HoldsAbove}

-- ---- a record that is kept

with_reply-places : (replies : List (List Reply)) (origin : ℕ) (answer : Verdict)
    → length (with_reply replies origin answer) ≡ length replies
with_reply-places replies zero answer = refl
with_reply-places replies (suc place) answer = length-set replies place _

AreAbove-with : (floor number : ℕ) (change : UserChange) (out : List OutRequest) → floor < number → AreAbove floor out
    → AreAbove floor (with_request number change out)
AreAbove-with floor number change [] above all = (above, tt)
AreAbove-with floor number change (one ∷ out) above all = (all.0, AreAbove-with floor number change out above all.1)

AreAbove-without : (floor number : ℕ) (out : List OutRequest) → AreAbove floor out → AreAbove floor (without number out)
AreAbove-without floor number [] all = tt
AreAbove-without floor number (one ∷ out) all = by (one.number == number) (AreAbove-without floor number out all.1)
  where
    by : (b : Bool) → AreAbove floor (without number out) → AreAbove floor (if b then out else one ∷ without number out)
    by true rest = all.1
    by false rest = (all.0, rest)

-- the request of a number that is out is above the floor
pub out_above : (floor number : ℕ) (out : List OutRequest) → AreAbove floor out → is_out number out ≡ true → floor < number
out_above floor number [] all is = cc
out_above floor number (one ∷ out) all is = by (one.number == number) refl (out_above floor number out all.1) is
  where
    by : (b : Bool) → (one.number == number) ≡ b → (is_out number out ≡ true → floor < number) → (b || is_out number out) ≡ true
        → floor < number
    by true e rest is = omega (arith, all.0, eqb-true one.number number e)
    by false e rest is = rest is

module _ (floor count leaves : ℕ) (how : How) where
  abbrev HubHolds : HubState → Type 0
  HubHolds kept = length kept.replies ≡ count

  hub_folds : (kept : HubState) (rec : HubRecord) → HubHolds kept → HubHolds (hub_folded kept rec)
  hub_folds kept (Accept entry) holds = with_reply-places kept.replies entry.origin _ ∙ holds
  hub_folds kept (Settle leaf fault) holds = with_reply-places kept.replies leaf _ ∙ holds
  hub_folds kept Rebase holds = holds

  leaf_folds : (kept : LeafState) (rec : LeafRecord) → AsksAbove floor kept → AsksAbove floor (leaf_folded kept rec)
  leaf_folds kept (Apply change) holds = record { last = holds.last; out = holds.out }
  leaf_folds kept (Out change) holds = record {
    last = omega (arith, holds.last);
    out = AreAbove-with floor (kept.last + 1) change kept.out (omega (arith, holds.last)) holds.out;
  }
  leaf_folds kept (Done request) holds =
      record { last = holds.last; out = AreAbove-without floor request kept.out holds.out }
  leaf_folds kept (Install version records) holds = record { last = holds.last; out = holds.out }
  leaf_folds kept compact_record holds = record { last = holds.last; out = holds.out }

  -- ---- the hub's rows

  module _ (w : Hub) (holds : HubHolds w.kept) where
    abbrev HubKeeps : Row Hub → Type 0
    HubKeeps row = HubHolds row.after.kept

    hub_journals : (how : How) (entry : HubRecord) (note : Note) (sends : List Outgoing) (waiting : List UserChange)
        → HubKeeps (journals hub_folded how w entry note sends waiting)
    hub_journals Works entry note sends waiting = hub_folds w.kept entry holds
    hub_journals Counts entry note sends waiting = hub_folds w.kept entry holds
    hub_journals Fails entry note sends waiting = holds

    hub_accepts : (e : AcceptedChange) (first : List Outgoing) (waiting : List UserChange)
        → HubKeeps (accepts leaves how w e first waiting)
    hub_accepts e first waiting = by (nat_lt (version_of w.kept) last_number)
      where
        by : (b : Bool) → HubKeeps (
            if b then journals hub_folded how w (Accept e) (Accepted (version_of w.kept + 1))
            (first ++ to_each 1 leaves (change_packet (version_of w.kept + 1) e)) waiting
            else refused NumbersSpent w)
        by true = hub_journals how (Accept e) _ _ waiting
        by false = holds

    hub_ups : (row : Row Hub) → HubKeeps row → HubKeeps (unless_down w row)
    hub_ups row keeps = by w.down
      where
        by : (down : Bool) → HubKeeps (if down then refused Down w else row)
        by true = holds
        by false = keeps

    hub_asks : (c : UserChange) → HubKeeps (hub_asked w c)
    hub_asks c = hub_ups _ (by (bad_shape c))
      where
        with_it : Hub
        with_it = record w { loose = w.loose ++ c ∷ [] }

        room : (b : Bool) → HubKeeps (if b then noted Queued with_it else refused AsksFull w)
        room true = holds
        room false = holds

        by : (f : Option ChangeFault) → HubKeeps (ask_taken w with_it (length w.loose) f)
        by (Some fault) = holds
        by None = room (nat_lt (length w.loose) 64)

    hub_tells : (to : ℕ) (text : List ℕ) → HubKeeps (unless_down w (text_told w leaves 0 to to text))
    hub_tells to text = hub_ups _ (by (is_bad_text leaves 0 to text))
      where
        by : (b : Bool) → HubKeeps (
            if b then refused BadBotText w
            else record { told = Ok Relayed; sends = record { to = to; packet = BotText 0 to text } ∷ []; after = w })
        by true = holds
        by false = holds

    hub_pumps : HubKeeps (hub_pumped leaves how w)
    hub_pumps = hub_ups _ (at w.loose)
      where
        serve : (c : UserChange) (rest : List UserChange) (f : Option ChangeFault) → HubKeeps (ask_served leaves how w c rest f)
        serve c rest (Some fault) = holds
        serve c rest None = hub_accepts (own c) [] rest

        at : (waiting : List UserChange) → HubKeeps (hub_pumped_up leaves how w waiting)
        at [] = holds
        at (c ∷ rest) = serve c rest (refusal w.kept.records c)

    hub_compacts : HubKeeps (hub_compacted leaves how w)
    hub_compacts = hub_ups _ (by (nat_lt w.kept.generation last_number))
      where
        by : (b : Bool) → HubKeeps (if b then journals hub_folded how w Rebase Compacted [] w.loose else refused NumbersSpent w)
        by true = hub_journals how Rebase Compacted [] w.loose
        by false = holds

    hub_restarts : HubKeeps (hub_restarted leaves how w)
    hub_restarts = by how
      where
        found : (o : Option HubRecord) → HubHolds (counted hub_folded w.kept o)
        found None = holds
        found (Some entry) = hub_folds w.kept entry holds

        by : (how : How) → HubKeeps (hub_restarted leaves how w)
        by Works = holds
        by Fails = holds
        by Counts = found w.doubt

    hub_requests : (leaf r : ℕ) (c : UserChange) (o : Option (List Reply)) → HubKeeps (request_of leaves how w leaf r c o)
    hub_requests leaf r c None = holds
    hub_requests leaf r c (Some kept) = placed (place_of r (last_request kept))
      where
        next : (f : Option ChangeFault) → HubKeeps (next_request leaves how w leaf r c f)
        next (Some fault) = hub_journals how (Settle leaf fault) _ _ w.loose
        next None =
            hub_accepts (record { origin = leaf; request = r; change = c }) (replied leaves how w leaf r (Taken (version_of w.kept + 1)))
            w.loose

        again : (o : Option Reply) → HubKeeps (repeats leaves how w leaf r o)
        again None = holds
        again (Some reply) = holds

        placed : (p : Place) → HubKeeps (request_placed leaves how w leaf r c kept p)
        placed Below = again (reply_to r kept)
        placed Same = again (reply_to r kept)
        placed Next = next (refusal w.kept.records c)
        placed Above = holds

    hub_receives : (p : Packet) → HubKeeps (hub_received leaves how w p)
    hub_receives p = hub_ups _ (at p)
      where
        served : (leaf v : ℕ) (b : Bool) → HubKeeps (hello_served leaves how w leaf v b)
        served leaf v true = holds
        served leaf v false = holds

        greeted : (leaf v : ℕ) (b : Bool)
            → HubKeeps (if b then noted Stray w else hello_served leaves how w leaf v (nat_lt v w.kept.floor))
        greeted leaf v true = holds
        greeted leaf v false = served leaf v (nat_lt v w.kept.floor)

        met : (leaf v : ℕ) (b : Bool) → HubKeeps (if b then hello_met leaves how w leaf v else refused OtherLayout w)
        met leaf v true = greeted leaf v (is_no_leaf leaves leaf || nat_lt (version_of w.kept) v)
        met leaf v false = holds

        asked : (leaf r : ℕ) (c : UserChange) (b : Bool)
            → HubKeeps (if b then noted Stray w else request_of leaves how w leaf r c (item_at w.kept.replies leaf))
        asked leaf r c true = holds
        asked leaf r c false = hub_requests leaf r c (item_at w.kept.replies leaf)

        passed : (from to : ℕ) (text : List ℕ) → HubKeeps (text_passed leaves how w from to text)
        passed from zero text = holds
        passed from (suc to) text = holds

        texts : (from to : ℕ) (text : List ℕ) (b : Bool)
            → HubKeeps (if b then noted Stray w else text_passed leaves how w from to text)
        texts from to text true = holds
        texts from to text false = passed from to text

        at : (p : Packet) → HubKeeps (hub_received_up leaves how w p)
        at (Hello layout leaf v) = met leaf v (layout == LAYOUT)
        at (Request leaf r c) = asked leaf r c (r == 0)
        at (BotText from to text) = texts from to text (nat_lt leaves from || nat_lt leaves to)
        at (Change n o r c) = holds
        at (accepted_packet leaf r n) = holds
        at (refused_packet leaf r fault) = holds
        at (Part v i k items) = holds

    hub_events : (event : Event) → HubKeeps (hub_event leaves how w event)
    hub_events (Ask c) = hub_asks c
    hub_events Pump = hub_pumps
    hub_events (Tell to text) = hub_tells to text
    hub_events Compact = hub_compacts
    hub_events Restart = hub_restarts

  -- ---- a leaf's rows

  module _ (number : ℕ) (w : Leaf) (holds : AsksAbove floor w.kept) where
    abbrev LeafKeeps : Row Leaf → Type 0
    LeafKeeps row = AsksAbove floor row.after.kept

    leaf_journals : (how : How) (entry : LeafRecord) (note : Note) (sends : List Outgoing) (loose : LeafLoose)
        → LeafKeeps (journals leaf_folded how w entry note sends loose)
    leaf_journals Works entry note sends loose = leaf_folds w.kept entry holds
    leaf_journals Counts entry note sends loose = leaf_folds w.kept entry holds
    leaf_journals Fails entry note sends loose = holds

    leaf_ups : (row : Row Leaf) → LeafKeeps row → LeafKeeps (unless_down w row)
    leaf_ups row keeps = by w.down
      where
        by : (down : Bool) → LeafKeeps (if down then refused Down w else row)
        by true = holds
        by false = keeps

    leaf_asks : (c : UserChange) → LeafKeeps (leaf_asked w c)
    leaf_asks c = leaf_ups _ (by (bad_shape c))
      where
        with_it : Leaf
        with_it = record w { loose = record w.loose { waiting = w.loose.waiting ++ c ∷ [] } }

        room : (b : Bool) → LeafKeeps (if b then noted Queued with_it else refused AsksFull w)
        room true = holds
        room false = holds

        by : (f : Option ChangeFault) → LeafKeeps (ask_taken w with_it (length w.loose.waiting) f)
        by (Some fault) = holds
        by None = room (nat_lt (length w.loose.waiting) 64)

    leaf_tells : (to : ℕ) (text : List ℕ) → LeafKeeps (unless_down w (text_told w leaves number 0 to text))
    leaf_tells to text = leaf_ups _ (by (is_bad_text leaves number to text))
      where
        by : (b : Bool) → LeafKeeps (
            if b then refused BadBotText w
            else record { told = Ok Relayed; sends = record { to = 0; packet = BotText number to text } ∷ []; after = w })
        by true = holds
        by false = holds

    again : (out : List OutRequest) → LeafKeeps (sent_again leaves number how w out)
    again [] = holds
    again (one ∷ out) = holds

    held : (out : List OutRequest) → LeafKeeps (held_back leaves number how w out)
    held [] = holds
    held (one ∷ out) = again (one ∷ out)

    leaf_pumps : LeafKeeps (leaf_pumped leaves number how w)
    leaf_pumps = leaf_ups _ (at w.kept.out w.loose.waiting)
      where
        at : (out : List OutRequest) (waiting : List UserChange) → LeafKeeps (leaf_pumped_up leaves number how w out waiting)
        at out [] = again out
        at out (c ∷ rest) = by (may_go_out w.kept.last out)
          where
            by : (b : Bool) → LeafKeeps (
                if b then journals leaf_folded how w (Out c) (Sent (w.kept.last + 1))
                (hello leaves number how w ∷ asking leaves number how w (with_request (w.kept.last + 1) c out)) (record w.loose { waiting = rest })
                else held_back leaves number how w out)
            by true = leaf_journals how (Out c) _ _ _
            by false = held out

    leaf_compacts : LeafKeeps (leaf_compacted leaves number how w)
    leaf_compacts = leaf_ups _ (by (nat_lt w.kept.generation last_number))
      where
        by : (b : Bool)
            → LeafKeeps (if b then journals leaf_folded how w compact_record Compacted [] w.loose else refused NumbersSpent w)
        by true = leaf_journals how compact_record _ [] w.loose
        by false = holds

    leaf_restarts : LeafKeeps (leaf_restarted leaves number how w)
    leaf_restarts = by how
      where
        found : (o : Option LeafRecord) → AsksAbove floor (counted leaf_folded w.kept o)
        found None = holds
        found (Some entry) = leaf_folds w.kept entry holds

        by : (how : How) → LeafKeeps (leaf_restarted leaves number how w)
        by Works = holds
        by Fails = holds
        by Counts = found w.doubt

    changes : (c : UserChange) (p : Place) → LeafKeeps (change_placed leaves number how w c p)
    changes c Below = holds
    changes c Same = holds
    changes c Above = holds
    changes c Next = by (refusal w.kept.records c)
      where
        by : (f : Option ChangeFault) → LeafKeeps (next_applied leaves number how w c f)
        by (Some fault) = holds
        by None = leaf_journals how (Apply c) _ [] w.loose

    replies : (leaf r : ℕ) (answer : Verdict) → LeafKeeps (reply_received leaves number how w leaf r answer)
    replies leaf r answer = by (not (leaf == number) || (r == 0))
      where
        taken : (b : Bool) → LeafKeeps (reply_taken leaves number how w r answer b)
        taken false = holds
        taken true = leaf_journals how (Done r) _ [] w.loose

        by : (b : Bool) → LeafKeeps (if b then noted Stray w else reply_taken leaves number how w r answer (is_out r w.kept.out))
        by true = holds
        by false = taken (is_out r w.kept.out)

    parts : (j : ℕ) (set : PartSet) → LeafKeeps (part_taken leaves number how w j set)
    parts j set = by (joined set.parts)
      where
        room : (items : _) (b : Bool) → LeafKeeps (
            if b then journals leaf_folded how w (Install set.version (records_from items)) (Installed set.version) []
            (record w.loose { parts = None })
            else refused NumbersSpent w)
        room items true = leaf_journals how (Install set.version (records_from items)) _ [] _
        room items false = holds

        install : (items : _) (f : Option ChangeFault)
            → LeafKeeps (installed leaves number how w set.version (records_from items) f)
        install items (Some fault) = holds
        install items None = room items (nat_lt w.kept.generation last_number)

        by : (o : _) → LeafKeeps (set_taken leaves number how w j set o)
        by None = holds
        by (Some items) = install items (records_fault (records_from items).users (records_from items).bans)

    leaf_receives : (p : Packet) → LeafKeeps (leaf_received leaves number how w p)
    leaf_receives p = leaf_ups _ (at p)
      where
        fresh : (s j k : ℕ) (items : _) (b : Bool)
            → LeafKeeps (if b then noted Old w else part_taken leaves number how w j (with_part (set_for w.loose.parts s k) j items))
        fresh s j k items true = holds
        fresh s j k items false = parts j (with_part (set_for w.loose.parts s k) j items)

        part : (s j k : ℕ) (items : _) (b : Bool) → LeafKeeps (
            if b then noted Stray w
            else if nat_le s w.kept.version || is_behind s w.loose.parts then noted Old w
            else part_taken leaves number how w j (with_part (set_for w.loose.parts s k) j items))
        part s j k items true = holds
        part s j k items false = fresh s j k items (nat_le s w.kept.version || is_behind s w.loose.parts)

        texts : (from : ℕ) (text : List ℕ) (b : Bool) → LeafKeeps (if b then noted Stray w else noted (Text from text) w)
        texts from text true = holds
        texts from text false = holds

        at : (p : Packet) → LeafKeeps (leaf_received_up leaves number how w p)
        at (Hello layout leaf v) = holds
        at (Request leaf r c) = holds
        at (Change n o r c) = changes c (place_of n w.kept.version)
        at (accepted_packet leaf r n) = replies leaf r (Taken n)
        at (refused_packet leaf r fault) = replies leaf r (refused_request fault)
        at (BotText from to text) = texts from text (nat_lt leaves from || not (to == number))
        at (Part s j k items) = part s j k items ((j == 0) || nat_lt k j)

    leaf_events : (event : Event) → LeafKeeps (leaf_event leaves how number w event)
    leaf_events (Ask c) = leaf_asks c
    leaf_events Pump = leaf_pumps
    leaf_events (Tell to text) = leaf_tells to text
    leaf_events Compact = leaf_compacts
    leaf_events Restart = leaf_restarts

-- ---- any end

-- whatever one end holds so, the other does
abbrev pub EndKeeps : LinkEnd → LinkEnd → Type 0
EndKeeps old new = (floor count : ℕ) → HoldsAbove floor count old → HoldsAbove floor count new

-- an end that is the same holds the same
pub same_keeps : (old new : LinkEnd) → new ≡ old → EndKeeps old new
same_keeps old new same floor count holds = subst (HoldsAbove floor count) (sym same) holds

pub EndKeeps-trans : (a b c : LinkEnd) → EndKeeps a b → EndKeeps b c → EndKeeps a c
EndKeeps-trans a b c x y floor count holds = y floor count (x floor count holds)

pub did_keeps : (leaves number : ℕ) (how : How) (e : LinkEnd) (event : Event) → EndKeeps e (end_did leaves number how e event).after
did_keeps leaves number how (AtHub hub) event floor count holds = hub_events floor count leaves how hub holds event
did_keeps leaves number how (AtLeaf leaf) event floor count holds = leaf_events floor count leaves how number leaf holds event

pub received_keeps : (leaves number : ℕ) (how : How) (e : LinkEnd) (p : Packet)
    → EndKeeps e (end_received leaves number how e p).after
received_keeps leaves number how (AtHub hub) p floor count holds = hub_receives floor count leaves how hub holds p
received_keeps leaves number how (AtLeaf leaf) p floor count holds = leaf_receives floor count leaves how number leaf holds p
