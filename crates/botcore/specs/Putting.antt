-- What becomes of lines that a bot queues: each is put last in its queue, once if the bot sends at once, or after the
-- answers to PING, unless it is refused there.
use Rattle.std.specs.Prelude.{◌≡◌, ℕ, Bool, true, false, List, [], ◌∷◌, ◌++◌, Option, Some, None, Result, Ok, Err}
use Rattle.bytetext.specs.declared.failure.Failure.{Failure}
use Rattle.bytetext.specs.declared.failure.Failure.TheVariants.{Refused, NoMemory}
use Rattle.outqueue.specs.declared.fault.QueueFault.{QueueFault}
use Rattle.outqueue.specs.Once.{once_refusal, put_once}
use Rattle.outqueue.specs.Refusals.{refusal, put_last, prompt_refusal, put_prompt}
use Rattle.outqueue.specs.Sending.{Sending, no_room}
use Rattle.procs.specs.declared.action.PutWish.{PutWish}
use Rattle.botcore.specs.declared.fault.StepFault.{StepFault}
use Rattle.botcore.specs.declared.fault.StepFault.TheVariants.{Line as line_fault}
use Rattle.botcore.specs.declared.manner.Manner.{Manner}
use Rattle.botcore.specs.declared.manner.Manner.TheVariants.{InTurn, Once, Prompt}

-- ---- one line

-- how a bot queues a line that is no answer to PING: once if it sends at once
abbrev pub usual : Bool → Manner
usual true = Once
usual false = InTurn

-- why it is refused
abbrev pub refusal_in : Manner → Sending → PutWish → Option QueueFault
refusal_in InTurn queues wish = refusal queues wish.queue wish.line
refusal_in Once queues wish = once_refusal queues wish.queue wish.line
refusal_in Prompt queues wish = prompt_refusal queues wish.line

-- where it waits, if it isn't refused
abbrev pub placed : Manner → Sending → PutWish → Sending
placed InTurn queues wish = put_last queues wish.queue wish.line
placed Once queues wish = put_once queues wish.queue wish.line
placed Prompt queues wish = put_prompt queues wish.line

abbrev pub queued_unless : Option QueueFault → Manner → Sending → PutWish → Sending
queued_unless (Some fault) manner queues wish = queues
queued_unless None manner queues wish = placed manner queues wish

abbrev pub queued : Manner → Sending → PutWish → Sending
queued manner queues wish = queued_unless (refusal_in manner queues wish) manner queues wish

-- the line is queued, or refused, or memory runs out; the queues change only if it is queued
abbrev pub PutsIn : {T : Type 0} → Manner → Sending → PutWish → Result T (Failure QueueFault) → Sending → Type 0
PutsIn manner old wish (Ok _) new = (refusal_in manner old wish ≡ None) × (new ≡ placed manner old wish)
PutsIn manner old wish (Err (Refused fault)) new = (refusal_in manner old wish ≡ Some fault) × (new ≡ old)
PutsIn manner old wish (Err NoMemory) new = (refusal_in manner old wish ≡ None) × (new ≡ old)

-- a refusal, before those of later lines
abbrev pub with_line_fault : Option QueueFault → List StepFault → List StepFault
with_line_fault None later = later
with_line_fault (Some fault) later = line_fault fault ∷ later

-- ---- all lines, in order

abbrev pub put_all : Manner → Sending → List PutWish → Sending
put_all manner queues [] = queues
put_all manner queues (wish ∷ wishes) = put_all manner (queued manner queues wish) wishes

-- the lines that are refused
abbrev pub put_faults : Manner → Sending → List PutWish → List StepFault
put_faults manner queues [] = []
put_faults manner queues (wish ∷ wishes) =
    with_line_fault (refusal_in manner queues wish) (put_faults manner (queued manner queues wish) wishes)

-- ---- what can be taken back

-- these lines follow those
abbrev pub Continues : List (List ℕ) → List (List ℕ) → Type 0
Continues old new = (more : List (List ℕ)) × (new ≡ old ++ more)

-- the queues are unchanged, except for lines after those that waited; if there was no room, there is none
pub record HasMoreLines (old new : Sending) : Type 0 where
  pub prompt : Continues old.prompt new.prompt
  pub mode : Continues old.mode new.mode
  pub server : Continues old.server new.server
  pub help : Continues old.help new.help
  pub timer : new.timer ≡ old.timer
  pub room : old.room ≡ no_room → new.room ≡ no_room
