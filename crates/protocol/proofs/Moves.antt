-- The hub's version moves where a step tells so, and a call that is done has done what it tells.
use Rattle.std.proofs.Common.{◌≡◌, ◌⊎◌, inl, inr, ℕ, zero, suc, ◌+◌, ◌==◌, nat_lt, Bool, true, false, ◌||◌, if◌then◌else◌, List, [], ◌∷◌, ◌++◌, length, length-append, slice_get, Option, None, Some, Ok, refl, ap, sym, subst, ◌∙◌, arith, eq-eqb}
use Rattle.std.proofs.lemmas.Bool.{ne_eqb, le-ltb}
use Rattle.userfile.specs.Apply.{bad_shape, refusal}
use Rattle.userfile.specs.declared.change.Change.{Change as UserChange}
use Rattle.userfile.specs.declared.error.ChangeFault.{ChangeFault}
use Rattle.botjournal.specs.declared.reply.Reply.{Reply}
use Rattle.botjournal.specs.declared.reply.Verdict.TheVariants.{Taken}
use Rattle.botjournal.specs.declared.TheConstants.{LAYOUT}
use Rattle.protocol.specs.Numbers.{last_number, item_at, Place, Below, Same, Next, Above, place_of}
use Rattle.protocol.specs.Packets.{Packet, Outgoing, Sent, AcceptedChange, own, change_packet, to_each}
use Rattle.protocol.specs.Packets.Packet.{Hello, Change, Request, Accepted as accepted_packet, Refused as refused_packet, BotText, Part}
use Rattle.protocol.specs.Notes.{Note}
use Rattle.protocol.specs.Notes.Note.{Queued, Accepted, Applied, Compacted, Relayed, Stray, Restarted}
use Rattle.protocol.specs.Notes.LinkFault.{AsksFull, Down, NumbersSpent, BadBotText, OtherLayout}
use Rattle.protocol.specs.Bots.{How, Works, Fails, Counts, Row, noted, refused, unless_down, journals, counted, reopened}
use Rattle.protocol.specs.HubRules.{HubRecord, Accept, Settle, Rebase, Hub, version_of, last_request, reply_to, hub_folded, is_no_leaf, ask_taken, hub_asked, is_bad_text, text_told, accepts, ask_served, hub_pumped_up, hub_pumped, replied, next_request, repeats, request_placed, request_of, hello_served, hello_met, text_passed, hub_received_up, hub_received, hub_compacted, hub_restarted}
use Rattle.protocol.specs.LeafRules.{Apply, Leaf, leaf_folded, next_applied, change_placed, leaf_received_up, leaf_received}
use Rattle.protocol.specs.Network.{Net, Event, Ask, Pump, Tell, Compact, Restart, Step, At, Deliver, Report, Course, Makes, LacksMemory, hub_stepped, leaf_met, at_bot, hub_event, leaf_event, delivered, happened, stepped}
use Rattle.protocol.specs.Claims.{MovesAsTold}

-- ---- the hub's rows

-- the version stays, or it is one more and the row tells so
abbrev Moves : Hub → Row Hub → Type 0
Moves w row =
    (version_of row.after.kept ≡ version_of w.kept)
    ⊎ ((version_of row.after.kept ≡ version_of w.kept + 1)
    × ((row.told ≡ Ok (Accepted (version_of w.kept + 1))) ⊎ (row.told ≡ Ok (Restarted (version_of w.kept + 1)))))

pub one_more : (w : Hub) (e : AcceptedChange) → version_of (hub_folded w.kept (Accept e)) ≡ version_of w.kept + 1
one_more w e = omega (arith, length-append w.kept.tail (e ∷ []))

rebased_stays : (w : Hub) → version_of (hub_folded w.kept Rebase) ≡ version_of w.kept
rebased_stays w = omega arith

module _ (leaves : ℕ) (how : How) (w : Hub) where
  -- a record that moves no version
  moves-journals : (how : How) (entry : HubRecord) (note : Note) (sends : List Outgoing) (waiting : List UserChange)
      → version_of (hub_folded w.kept entry) ≡ version_of w.kept → Moves w (journals hub_folded how w entry note sends waiting)
  moves-journals Works entry note sends waiting same = inl same
  moves-journals Counts entry note sends waiting same = inl same
  moves-journals Fails entry note sends waiting same = inl refl

  moves-accepts : (e : AcceptedChange) (first : List Outgoing) (waiting : List UserChange)
      → Moves w (accepts leaves how w e first waiting)
  moves-accepts e first waiting = by (nat_lt (version_of w.kept) last_number)
    where
      to : List Outgoing
      to = first ++ to_each 1 leaves (change_packet (version_of w.kept + 1) e)

      wrote : (how : How) → Moves w (journals hub_folded how w (Accept e) (Accepted (version_of w.kept + 1)) to waiting)
      wrote Works = inr (one_more w e, inl refl)
      wrote Counts = inr (one_more w e, inl refl)
      wrote Fails = inl refl

      by : (b : Bool) → Moves w (
          if b then journals hub_folded how w (Accept e) (Accepted (version_of w.kept + 1)) to waiting
          else refused NumbersSpent w)
      by true = wrote how
      by false = inl refl

  moves-up : (row : Row Hub) → Moves w row → Moves w (unless_down w row)
  moves-up row moves = by w.down
    where
      by : (down : Bool) → Moves w (if down then refused Down w else row)
      by true = inl refl
      by false = moves

  moves-asked : (c : UserChange) → Moves w (hub_asked w c)
  moves-asked c = moves-up _ (by (bad_shape c))
    where
      with_it : Hub
      with_it = record w { loose = w.loose ++ c ∷ [] }

      room : (b : Bool) → Moves w (if b then noted Queued with_it else refused AsksFull w)
      room true = inl refl
      room false = inl refl

      by : (f : Option ChangeFault) → Moves w (ask_taken w with_it (length w.loose) f)
      by (Some fault) = inl refl
      by None = room (nat_lt (length w.loose) 64)

  moves-told : (to : ℕ) (text : List ℕ) → Moves w (unless_down w (text_told w leaves 0 to to text))
  moves-told to text = moves-up _ (by (is_bad_text leaves 0 to text))
    where
      by : (b : Bool) → Moves w (
          if b then refused BadBotText w
          else record { told = Ok Relayed; sends = record { to = to; packet = BotText 0 to text } ∷ []; after = w })
      by true = inl refl
      by false = inl refl

  moves-pumped : Moves w (hub_pumped leaves how w)
  moves-pumped = moves-up _ (at w.loose)
    where
      serve : (c : UserChange) (rest : List UserChange) (f : Option ChangeFault) → Moves w (ask_served leaves how w c rest f)
      serve c rest (Some fault) = inl refl
      serve c rest None = moves-accepts (own c) [] rest

      at : (waiting : List UserChange) → Moves w (hub_pumped_up leaves how w waiting)
      at [] = inl refl
      at (c ∷ rest) = serve c rest (refusal w.kept.records c)

  moves-compacted : Moves w (hub_compacted leaves how w)
  moves-compacted = moves-up _ (by (nat_lt w.kept.generation last_number))
    where
      by : (b : Bool) → Moves w (if b then journals hub_folded how w Rebase Compacted [] w.loose else refused NumbersSpent w)
      by true = moves-journals how Rebase Compacted [] w.loose (rebased_stays w)
      by false = inl refl

  moves-restarted : Moves w (hub_restarted leaves how w)
  moves-restarted = by how
    where
      found : (o : Option HubRecord) → Moves w (reopened version_of [] (counted hub_folded w.kept o))
      found None = inl refl
      found (Some (Accept e)) = inr (one_more w e, inr (ap (λ v. Ok (Restarted v)) (one_more w e)))
      found (Some (Settle leaf fault)) = inl refl
      found (Some Rebase) = inl (rebased_stays w)

      by : (how : How) → Moves w (hub_restarted leaves how w)
      by Works = inl refl
      by Fails = inl refl
      by Counts = found w.doubt

  moves-request : (leaf r : ℕ) (c : UserChange) (o : Option (List Reply)) → Moves w (request_of leaves how w leaf r c o)
  moves-request leaf r c None = inl refl
  moves-request leaf r c (Some kept) = placed (place_of r (last_request kept))
    where
      next : (f : Option ChangeFault) → Moves w (next_request leaves how w leaf r c f)
      next (Some fault) = moves-journals how (Settle leaf fault) _ _ w.loose refl
      next None =
          moves-accepts (record { origin = leaf; request = r; change = c }) (replied leaves how w leaf r (Taken (version_of w.kept + 1)))
          w.loose

      again : (o : Option Reply) → Moves w (repeats leaves how w leaf r o)
      again None = inl refl
      again (Some reply) = inl refl

      placed : (p : Place) → Moves w (request_placed leaves how w leaf r c kept p)
      placed Below = again (reply_to r kept)
      placed Same = again (reply_to r kept)
      placed Next = next (refusal w.kept.records c)
      placed Above = inl refl

  moves-received : (p : Packet) → Moves w (hub_received leaves how w p)
  moves-received p = moves-up _ (at p)
    where
      hello : (leaf v : ℕ) (b : Bool) → Moves w (hello_served leaves how w leaf v b)
      hello leaf v true = inl refl
      hello leaf v false = inl refl

      greeted : (leaf v : ℕ) (b : Bool)
          → Moves w (if b then noted Stray w else hello_served leaves how w leaf v (nat_lt v w.kept.floor))
      greeted leaf v true = inl refl
      greeted leaf v false = hello leaf v (nat_lt v w.kept.floor)

      met : (leaf v : ℕ) (b : Bool) → Moves w (if b then hello_met leaves how w leaf v else refused OtherLayout w)
      met leaf v true = greeted leaf v (is_no_leaf leaves leaf || nat_lt (version_of w.kept) v)
      met leaf v false = inl refl

      asked : (leaf r : ℕ) (c : UserChange) (b : Bool)
          → Moves w (if b then noted Stray w else request_of leaves how w leaf r c (item_at w.kept.replies leaf))
      asked leaf r c true = inl refl
      asked leaf r c false = moves-request leaf r c (item_at w.kept.replies leaf)

      passed : (from to : ℕ) (text : List ℕ) → Moves w (text_passed leaves how w from to text)
      passed from zero text = inl refl
      passed from (suc to) text = inl refl

      texts : (from to : ℕ) (text : List ℕ) (b : Bool)
          → Moves w (if b then noted Stray w else text_passed leaves how w from to text)
      texts from to text true = inl refl
      texts from to text false = passed from to text

      at : (p : Packet) → Moves w (hub_received_up leaves how w p)
      at (Hello layout leaf v) = met leaf v (layout == LAYOUT)
      at (Request leaf r c) = asked leaf r c (r == 0)
      at (BotText from to text) = texts from to text (nat_lt leaves from || nat_lt leaves to)
      at (Change n o r c) = inl refl
      at (accepted_packet leaf r n) = inl refl
      at (refused_packet leaf r fault) = inl refl
      at (Part v i k items) = inl refl

  moves-event : (event : Event) → Moves w (hub_event leaves how w event)
  moves-event (Ask c) = moves-asked c
  moves-event Pump = moves-pumped
  moves-event (Tell to text) = moves-told to text
  moves-event Compact = moves-compacted
  moves-event Restart = moves-restarted

-- ---- the net's steps

hub_moves : (old : Net) (row : Row Hub) → Moves old.hub row → MovesAsTold old (hub_stepped old row)
hub_moves old row (inl same) = inl same
hub_moves old row (inr (more, inl told)) = inr (more, inl (ap (λ t. Report 0 t) told))
hub_moves old row (inr (more, inr told)) = inr (more, inr (ap (λ t. Report 0 t) told))

leaf_moves : (old : Net) (place : ℕ) (row : Leaf → Row Leaf) (o : Option Leaf)
    → version_of (leaf_met old place row o).after.hub.kept ≡ version_of old.hub.kept
leaf_moves old place row None = refl
leaf_moves old place row (Some leaf) = refl

bot_moves : (old : Net) (bot : ℕ) (hub_row : Row Hub) (leaf_row : ℕ → Leaf → Row Leaf) → Moves old.hub hub_row
    → MovesAsTold old (at_bot old bot hub_row leaf_row)
bot_moves old zero hub_row leaf_row moves = hub_moves old hub_row moves
bot_moves old (suc place) hub_row leaf_row moves = inl (leaf_moves old place (leaf_row (suc place)) (slice_get old.leaves place))

delivery_moves : (how : How) (old : Net) (o : Option Sent) → MovesAsTold old (delivered how old o)
delivery_moves how old None = inl refl
delivery_moves how old (Some sent) = bot_moves old sent.to _ _ (moves-received old.count how old.hub sent.packet)

-- a restart for which there was no memory moves nothing
restart_stays : (old : Net) (bot : ℕ) → version_of (happened Fails old (At bot Restart)).after.hub.kept ≡ version_of old.hub.kept
restart_stays old zero = refl
restart_stays old (suc place) =
    leaf_moves old place (λ leaf. leaf_event old.count Fails (suc place) leaf Restart) (slice_get old.leaves place)

pub moves_as_told : (course : Course) (old : Net) (step : Step) → MovesAsTold old (stepped course old step)
moves_as_told (Makes how) old (At bot event) = bot_moves old bot _ _ (moves-event old.count how old.hub event)
moves_as_told (Makes how) old (Deliver n) = delivery_moves how old (item_at old.packets n)
moves_as_told LacksMemory old (At bot (Ask c)) = inl refl
moves_as_told LacksMemory old (At bot Pump) = inl refl
moves_as_told LacksMemory old (At bot (Tell to text)) = inl refl
moves_as_told LacksMemory old (At bot Compact) = inl refl
moves_as_told LacksMemory old (At bot Restart) = inl (restart_stays old bot)
moves_as_told LacksMemory old (Deliver n) = inl refl

-- ---- calls that are done

place_next : (v : ℕ) → place_of (v + 1) v ≡ Next
place_next v = rw (le-ltb (v + 1) v (omega arith), ne_eqb (v + 1) v (λ e. absurd (omega (arith, e))), eq-eqb (v + 1) (v + 1) refl) refl

-- a leaf's next change that is delivered, and done, is applied
pub next_is_applied : (leaves i : ℕ) (how : How) (w : Leaf) (o r : ℕ) (c : UserChange) (note : Note)
    → (leaf_received leaves i how w (Change (w.kept.version + 1) o r c)).told ≡ Ok note
    → (note ≡ Applied (w.kept.version + 1))
    × ((leaf_received leaves i how w (Change (w.kept.version + 1) o r c)).after.kept.version ≡ w.kept.version + 1)
next_is_applied leaves i how w o r c note = by w.down
  where
    Says : Row Leaf → Type 0
    Says row = row.told ≡ Ok note → (note ≡ Applied (w.kept.version + 1)) × (row.after.kept.version ≡ w.kept.version + 1)

    wrote : (how : How) → Says (journals leaf_folded how w (Apply c) (Applied (w.kept.version + 1)) [] w.loose)
    wrote Works h = (let same : Applied (w.kept.version + 1) ≡ note = cc in sym same, refl)
    wrote Counts h = (let same : Applied (w.kept.version + 1) ≡ note = cc in sym same, refl)
    wrote Fails h = cc

    taken : (f : Option ChangeFault) → Says (next_applied leaves i how w c f)
    taken (Some fault) h = cc
    taken None h = wrote how h

    by : (down : Bool)
        → Says (if down then refused Down w else leaf_received_up leaves i how w (Change (w.kept.version + 1) o r c))
    by true h = cc
    by false h = subst (λ p. Says (change_placed leaves i how w c p)) (sym (place_next w.kept.version)) (taken (refusal w.kept.records c)) h

-- an oldest ask that the records take, and that a done pump of the hub takes, is accepted under the next number
pub pump_accepts : (leaves : ℕ) (how : How) (w : Hub) (c : UserChange) (rest : List UserChange) (note : Note) → w.loose ≡ c ∷ rest
    → refusal w.kept.records c ≡ None
    → (hub_pumped leaves how w).told ≡ Ok note → note ≡ Accepted (version_of w.kept + 1)
pump_accepts leaves how w c rest note waits takes = by w.down
  where
    Says : Row Hub → Type 0
    Says row = row.told ≡ Ok note → note ≡ Accepted (version_of w.kept + 1)

    wrote : (how : How) (sends : List Outgoing)
        → Says (journals hub_folded how w (Accept (own c)) (Accepted (version_of w.kept + 1)) sends rest)
    wrote Works sends h = let same : Accepted (version_of w.kept + 1) ≡ note = cc in sym same
    wrote Counts sends h = let same : Accepted (version_of w.kept + 1) ≡ note = cc in sym same
    wrote Fails sends h = cc

    room : (b : Bool) (sends : List Outgoing) → Says (
        if b then journals hub_folded how w (Accept (own c)) (Accepted (version_of w.kept + 1)) sends rest
        else refused NumbersSpent w)
    room true sends h = wrote how sends h
    room false sends h = cc

    by : (down : Bool) → Says (if down then refused Down w else hub_pumped_up leaves how w w.loose)
    by true h = cc
    by false h =
        let row : hub_pumped_up leaves how w w.loose ≡ ask_served leaves how w c rest None = rw (waits, takes) refl in
        room (nat_lt (version_of w.kept) last_number) _ (ap (λ (r : Row Hub). r.told) (sym row) ∙ h)
