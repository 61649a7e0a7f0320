-- Which lines are refused, and what putting a line does.
use Rattle.std.specs.Prelude.{◌≡◌, ℕ, ◌==◌, ◌-◌, nat_lt, nat_le, Bool, ◌||◌, if◌then◌else◌}
use Rattle.std.specs.Prelude.{List, [], ◌∷◌, ◌++◌, length, codes, Option, Some, None, Result, Ok, Err}
use Rattle.std.specs.List.{list_any}
use Rattle.bytetext.specs.declared.failure.Failure.{Failure}
use Rattle.bytetext.specs.declared.failure.Failure.TheVariants.{Refused, NoMemory}
use Rattle.outqueue.specs.declared.limits.TheConstants.{MAX_LINES, MAX_BYTES}
use Rattle.outqueue.specs.declared.fault.QueueFault.{QueueFault}
use Rattle.outqueue.specs.declared.fault.QueueFault.TheVariants.{BadLine, QueueFull, ShareFull}
use Rattle.outqueue.specs.declared.queue.Queue.{Queue}
use Rattle.outqueue.specs.declared.queue.Queue.TheVariants.{Mode, Server, Help}
use Rattle.outqueue.specs.declared.queue.QueueSet.TheVariants.{One}
use Rattle.outqueue.specs.Sending.{Sending, lines_in, room_in, with_room}

-- the code that transcripts print
abbrev pub code_of : QueueFault → List ℕ
code_of BadLine = codes "Q2"
code_of QueueFull = codes "Q1"
code_of ShareFull = codes "Q3"

-- NUL, LF or CR
abbrev pub is_break : ℕ → Bool
is_break byte = byte == 0 || byte == 10 || byte == 13

-- not a line of 1 to 510 bytes without NUL, LF and CR
abbrev pub is_bad_line : List ℕ → Bool
is_bad_line line = length line == 0 || nat_lt MAX_BYTES (length line) || list_any is_break line

-- why a line can't be put after so many others
abbrev pub refusal_after : ℕ → List ℕ → Option QueueFault
refusal_after count line = if is_bad_line line then Some BadLine else (if nat_le MAX_LINES count then Some QueueFull else None)

-- why a line can't be put into a queue
unfoldable pub refusal : Sending → Queue → List ℕ → Option QueueFault
refusal q queue line = refusal_after (length (lines_in q (One queue))) line

-- why an answer to PING can't be put after those that wait
unfoldable pub prompt_refusal : Sending → List ℕ → Option QueueFault
prompt_refusal q line = refusal_after (length q.prompt) line

-- the line is last in its queue
abbrev pub with_line : Sending → Queue → List ℕ → Sending
with_line q Mode line = record q { mode = q.mode ++ line ∷ [] }
with_line q Server line = record q { server = q.server ++ line ∷ [] }
with_line q Help line = record q { help = q.help ++ line ∷ [] }

-- the line is last in its queue, and uses one place of the room, if any
abbrev pub put_last : Sending → Queue → List ℕ → Sending
put_last q queue line = with_room (with_line q queue line) queue (room_in q queue - 1)

-- What putting a line does: it is queued, or refused, or memory runs out. Memory runs out only if the line is not
-- refused. The queues change only if it is queued.
abbrev pub Puts : {T : Type 0} → Sending → Queue → List ℕ → Result T (Failure QueueFault) → Sending → Type 0
Puts old queue line (Ok _) new = (refusal old queue line ≡ None) × (new ≡ put_last old queue line)
Puts old queue line (Err (Refused fault)) new = (refusal old queue line ≡ Some fault) × (new ≡ old)
Puts old queue line (Err NoMemory) new = (refusal old queue line ≡ None) × (new ≡ old)

-- the same if there is room, so that nothing is allocated
abbrev pub PutsReserved : {T : Type 0} → Sending → Queue → List ℕ → Result T QueueFault → Sending → Type 0
PutsReserved old queue line (Ok _) new = (refusal old queue line ≡ None) × (new ≡ put_last old queue line)
PutsReserved old queue line (Err fault) new = (refusal old queue line ≡ Some fault) × (new ≡ old)

-- ---- an answer to PING

-- the line is the last answer to PING: it waits for those before it, and for no line of a queue
abbrev pub put_prompt : Sending → List ℕ → Sending
put_prompt q line = record q { prompt = q.prompt ++ line ∷ [] }

-- the same as `Puts`, for an answer to PING
abbrev pub PutsPrompt : {T : Type 0} → Sending → List ℕ → Result T (Failure QueueFault) → Sending → Type 0
PutsPrompt old line (Ok _) new = (prompt_refusal old line ≡ None) × (new ≡ put_prompt old line)
PutsPrompt old line (Err (Refused fault)) new = (prompt_refusal old line ≡ Some fault) × (new ≡ old)
PutsPrompt old line (Err NoMemory) new = (prompt_refusal old line ≡ None) × (new ≡ old)
