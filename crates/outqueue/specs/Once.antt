-- What putting a line does where lines of the mode queue stand once, and targets have fair shares of the other queues.
use Rattle.std.specs.Prelude.{◌≡◌, ℕ, nat_le, ◌&&◌, Bool, true, false, List, Option, Some, None, Result, Ok, Err, if◌then◌else◌}
use Rattle.bytetext.specs.declared.failure.Failure.{Failure}
use Rattle.bytetext.specs.declared.failure.Failure.TheVariants.{Refused, NoMemory}
use Rattle.outqueue.specs.declared.limits.TheConstants.{SHARE}
use Rattle.outqueue.specs.declared.fault.QueueFault.{QueueFault}
use Rattle.outqueue.specs.declared.fault.QueueFault.TheVariants.{ShareFull}
use Rattle.outqueue.specs.declared.queue.Queue.{Queue}
use Rattle.outqueue.specs.declared.queue.Queue.TheVariants.{Mode, Server, Help}
use Rattle.outqueue.specs.Refusals.{refusal, put_last}
use Rattle.outqueue.specs.Sending.{Sending}
use Rattle.outqueue.specs.Shares.{stands_in, target_of, waiting_for}

-- whether the line is for the mode queue and waits there already
unfoldable pub stands : Sending → Queue → List ℕ → Bool
stands q Mode line = stands_in q.mode line
stands q Server line = false
stands q Help line = false

-- whether targets have shares of a queue
abbrev pub has_shares : Queue → Bool
has_shares Mode = false
has_shares Server = true
has_shares Help = true

-- whether the target of the line has all of its share; the mode queue has no shares
unfoldable pub is_share_full : Sending → Queue → List ℕ → Bool
is_share_full q queue line = has_shares queue && nat_le SHARE (waiting_for q (target_of line))

-- a refusal, or, if there is none, that of a full share
abbrev pub refused_or_full : Option QueueFault → Bool → Option QueueFault
refused_or_full (Some fault) is_full = Some fault
refused_or_full None true = Some ShareFull
refused_or_full None false = None

-- why a line can't be put once; a line that stands already is not refused
unfoldable pub once_refusal : Sending → Queue → List ℕ → Option QueueFault
once_refusal q queue line =
    if stands q queue line then None else refused_or_full (refusal q queue line) (is_share_full q queue line)

-- the line is last in its queue, unless it stands already
unfoldable pub put_once : Sending → Queue → List ℕ → Sending
put_once q queue line = if stands q queue line then q else put_last q queue line

-- What putting a line once does: it waits, or it is refused, or memory runs out. Memory runs out only if the line neither
-- stands already nor is refused. The queues change only if the line is put.
abbrev pub PutsOnce : {T : Type 0} → Sending → Queue → List ℕ → Result T (Failure QueueFault) → Sending → Type 0
PutsOnce old queue line (Ok _) new = (once_refusal old queue line ≡ None) × (new ≡ put_once old queue line)
PutsOnce old queue line (Err (Refused fault)) new = (once_refusal old queue line ≡ Some fault) × (new ≡ old)
PutsOnce old queue line (Err NoMemory) new =
    (once_refusal old queue line ≡ None) × (stands old queue line ≡ false) × (new ≡ old)
