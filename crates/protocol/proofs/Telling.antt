-- What the hub tells of its version is so.
use Rattle.std.proofs.Common.{◌≡◌, ℕ, zero, suc, ◌+◌, ◌==◌, nat_lt, Bool, true, false, ◌||◌, if◌then◌else◌, List, [], ◌∷◌, ◌++◌, length, Option, None, Some, Result, Ok, Err, refl}
use Rattle.userfile.specs.Apply.{bad_shape, refusal}
use Rattle.userfile.specs.declared.change.Change.{Change as UserChange}
use Rattle.userfile.specs.declared.error.ChangeFault.{ChangeFault}
use Rattle.botjournal.specs.declared.TheConstants.{LAYOUT}
use Rattle.botjournal.specs.declared.reply.Reply.{Reply}
use Rattle.botjournal.specs.declared.reply.Verdict.TheVariants.{Taken}
use Rattle.protocol.specs.Numbers.{last_number, item_at, Place, Below, Same, Next, Above, place_of}
use Rattle.protocol.specs.Packets.{Packet, Outgoing, AcceptedChange, own, change_packet, to_each}
use Rattle.protocol.specs.Packets.Packet.{Hello, Change, Request, Accepted as accepted_packet, Refused as refused_packet, BotText, Part}
use Rattle.protocol.specs.Notes.{Note, LinkFault}
use Rattle.protocol.specs.Notes.Note.{Queued, Idle, Sent, Accepted, Refused, Served, Old, Repeat, Gap, Early, Applied, Kept, Installed, Compacted, Relayed, Text, Stray, Restarted}
use Rattle.protocol.specs.Notes.LinkFault.{AsksFull, Down, NumbersSpent, BadBotText, OtherLayout}
use Rattle.protocol.specs.Bots.{How, Works, Fails, Counts, Row, noted, refused, unless_down, journals}
use Rattle.protocol.specs.HubRules.{Accept, Settle, Rebase, Hub, version_of, last_request, reply_to, hub_folded, is_no_leaf, ask_taken, hub_asked, is_bad_text, text_told, accepts, ask_served, hub_pumped_up, hub_pumped, replied, next_request, repeats, request_placed, request_of, hello_served, hello_met, text_passed, hub_received_up, hub_received, hub_compacted, hub_restarted}
use Rattle.protocol.specs.Network.{Event, Ask, Pump, Tell, Compact, Restart, hub_event}
use Rattle.protocol.proofs.Moves.{one_more}

-- a step between these two versions reports the truth about them
abbrev pub IsSo : ℕ → ℕ → Result Note LinkFault → Type 0
IsSo before after (Ok Queued) = Unit {0}
IsSo before after (Ok Idle) = Unit {0}
IsSo before after (Ok (Sent request)) = Unit {0}
IsSo before after (Ok (Accepted number)) = (number ≡ before + 1) × (after ≡ number)
IsSo before after (Ok (Refused fault)) = Unit {0}
IsSo before after (Ok (Served count)) = Unit {0}
IsSo before after (Ok Old) = Unit {0}
IsSo before after (Ok Repeat) = Unit {0}
IsSo before after (Ok Gap) = Unit {0}
IsSo before after (Ok Early) = Unit {0}
IsSo before after (Ok (Applied number)) = Unit {0}
IsSo before after (Ok (Kept part)) = Unit {0}
IsSo before after (Ok (Installed version)) = Unit {0}
IsSo before after (Ok Compacted) = Unit {0}
IsSo before after (Ok Relayed) = Unit {0}
IsSo before after (Ok (Text from text)) = Unit {0}
IsSo before after (Ok Stray) = Unit {0}
IsSo before after (Ok (Restarted version)) = after ≡ version
IsSo before after (Err fault) = Unit {0}

abbrev pub Tells : Hub → Row Hub → Type 0
Tells w row = IsSo (version_of w.kept) (version_of row.after.kept) row.told

module _ (leaves : ℕ) (how : How) (w : Hub) where
  tells-accepts : (e : AcceptedChange) (first : List Outgoing) (waiting : List UserChange)
      → Tells w (accepts leaves how w e first waiting)
  tells-accepts e first waiting = by (nat_lt (version_of w.kept) last_number)
    where
      to : List Outgoing
      to = first ++ to_each 1 leaves (change_packet (version_of w.kept + 1) e)

      wrote : (how : How) → Tells w (journals hub_folded how w (Accept e) (Accepted (version_of w.kept + 1)) to waiting)
      wrote Works = (refl, one_more w e)
      wrote Counts = (refl, one_more w e)
      wrote Fails = tt

      by : (b : Bool) → Tells w (
          if b then journals hub_folded how w (Accept e) (Accepted (version_of w.kept + 1)) to waiting
          else refused NumbersSpent w)
      by true = wrote how
      by false = tt

  tells-up : (row : Row Hub) → Tells w row → Tells w (unless_down w row)
  tells-up row so = by w.down
    where
      by : (down : Bool) → Tells w (if down then refused Down w else row)
      by true = tt
      by false = so

  tells-asked : (c : UserChange) → Tells w (hub_asked w c)
  tells-asked c = tells-up _ (by (bad_shape c))
    where
      with_it : Hub
      with_it = record w { loose = w.loose ++ c ∷ [] }

      room : (b : Bool) → Tells w (if b then noted Queued with_it else refused AsksFull w)
      room true = tt
      room false = tt

      by : (f : Option ChangeFault) → Tells w (ask_taken w with_it (length w.loose) f)
      by (Some fault) = tt
      by None = room (nat_lt (length w.loose) 64)

  tells-told : (to : ℕ) (text : List ℕ) → Tells w (unless_down w (text_told w leaves 0 to to text))
  tells-told to text = tells-up _ (by (is_bad_text leaves 0 to text))
    where
      by : (b : Bool) → Tells w (
          if b then refused BadBotText w
          else record { told = Ok Relayed; sends = record { to = to; packet = BotText 0 to text } ∷ []; after = w })
      by true = tt
      by false = tt

  tells-pumped : Tells w (hub_pumped leaves how w)
  tells-pumped = tells-up _ (at w.loose)
    where
      serve : (c : UserChange) (rest : List UserChange) (f : Option ChangeFault) → Tells w (ask_served leaves how w c rest f)
      serve c rest (Some fault) = tt
      serve c rest None = tells-accepts (own c) [] rest

      at : (waiting : List UserChange) → Tells w (hub_pumped_up leaves how w waiting)
      at [] = tt
      at (c ∷ rest) = serve c rest (refusal w.kept.records c)

  tells-compacted : Tells w (hub_compacted leaves how w)
  tells-compacted = tells-up _ (by (nat_lt w.kept.generation last_number))
    where
      wrote : (how : How) → Tells w (journals hub_folded how w Rebase Compacted [] w.loose)
      wrote Works = tt
      wrote Counts = tt
      wrote Fails = tt

      by : (b : Bool) → Tells w (if b then journals hub_folded how w Rebase Compacted [] w.loose else refused NumbersSpent w)
      by true = wrote how
      by false = tt

  tells-restarted : Tells w (hub_restarted leaves how w)
  tells-restarted = by how
    where
      by : (how : How) → Tells w (hub_restarted leaves how w)
      by Works = refl
      by Fails = tt
      by Counts = refl

  tells-request : (leaf r : ℕ) (c : UserChange) (o : Option (List Reply)) → Tells w (request_of leaves how w leaf r c o)
  tells-request leaf r c None = tt
  tells-request leaf r c (Some kept) = placed (place_of r (last_request kept))
    where
      settled : (how : How) (fault : ChangeFault) (sends : List Outgoing)
          → Tells w (journals hub_folded how w (Settle leaf fault) (Refused fault) sends w.loose)
      settled Works fault sends = tt
      settled Counts fault sends = tt
      settled Fails fault sends = tt

      next : (f : Option ChangeFault) → Tells w (next_request leaves how w leaf r c f)
      next (Some fault) = settled how fault _
      next None =
          tells-accepts (record { origin = leaf; request = r; change = c }) (replied leaves how w leaf r (Taken (version_of w.kept + 1)))
          w.loose

      again : (o : Option Reply) → Tells w (repeats leaves how w leaf r o)
      again None = tt
      again (Some reply) = tt

      placed : (p : Place) → Tells w (request_placed leaves how w leaf r c kept p)
      placed Below = again (reply_to r kept)
      placed Same = again (reply_to r kept)
      placed Next = next (refusal w.kept.records c)
      placed Above = tt

  pub received_tells : (p : Packet) → Tells w (hub_received leaves how w p)
  received_tells p = tells-up _ (at p)
    where
      hello : (leaf v : ℕ) (b : Bool) → Tells w (hello_served leaves how w leaf v b)
      hello leaf v true = tt
      hello leaf v false = tt

      greeted : (leaf v : ℕ) (b : Bool)
          → Tells w (if b then noted Stray w else hello_served leaves how w leaf v (nat_lt v w.kept.floor))
      greeted leaf v true = tt
      greeted leaf v false = hello leaf v (nat_lt v w.kept.floor)

      met : (leaf v : ℕ) (b : Bool) → Tells w (if b then hello_met leaves how w leaf v else refused OtherLayout w)
      met leaf v true = greeted leaf v (is_no_leaf leaves leaf || nat_lt (version_of w.kept) v)
      met leaf v false = tt

      asked : (leaf r : ℕ) (c : UserChange) (b : Bool)
          → Tells w (if b then noted Stray w else request_of leaves how w leaf r c (item_at w.kept.replies leaf))
      asked leaf r c true = tt
      asked leaf r c false = tells-request leaf r c (item_at w.kept.replies leaf)

      passed : (from to : ℕ) (text : List ℕ) → Tells w (text_passed leaves how w from to text)
      passed from zero text = tt
      passed from (suc to) text = tt

      texts : (from to : ℕ) (text : List ℕ) (b : Bool)
          → Tells w (if b then noted Stray w else text_passed leaves how w from to text)
      texts from to text true = tt
      texts from to text false = passed from to text

      at : (p : Packet) → Tells w (hub_received_up leaves how w p)
      at (Hello layout leaf v) = met leaf v (layout == LAYOUT)
      at (Request leaf r c) = asked leaf r c (r == 0)
      at (BotText from to text) = texts from to text (nat_lt leaves from || nat_lt leaves to)
      at (Change n o r c) = tt
      at (accepted_packet leaf r n) = tt
      at (refused_packet leaf r fault) = tt
      at (Part v i k items) = tt

  pub event_tells : (event : Event) → Tells w (hub_event leaves how w event)
  event_tells (Ask c) = tells-asked c
  event_tells Pump = tells-pumped
  event_tells (Tell to text) = tells-told to text
  event_tells Compact = tells-compacted
  event_tells Restart = tells-restarted
