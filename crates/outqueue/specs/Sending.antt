-- Lines that wait, and the send timer of RFC 1459 section 8.10.
use Rattle.std.specs.Prelude.{◌≡◌, ℕ, ◌+◌, ◌-◌, ◌*◌, ◌/◌, ◌<◌, ◌≤◌, min, max, nat_lt, if◌then◌else◌}
use Rattle.std.specs.Prelude.{List, [], ◌∷◌, ◌++◌, length, take, drop, Option, None, is_some}
use Rattle.outqueue.specs.declared.limits.TheConstants.{AHEAD, COST}
use Rattle.outqueue.specs.declared.queue.Queue.{Queue}
use Rattle.outqueue.specs.declared.queue.Queue.TheVariants.{Mode, Server, Help}
use Rattle.outqueue.specs.declared.queue.QueueSet.{QueueSet}
use Rattle.outqueue.specs.declared.queue.QueueSet.TheVariants.{One, All}
use Rattle.outqueue.specs.declared.queues.Counts.{Counts}
use Rattle.outqueue.specs.Lanes.{first_of}

-- how many more lines each queue has room for
pub record Room : Type 0 where
  pub mode : ℕ
  pub server : ℕ
  pub help : ℕ

abbrev pub no_room : Room
no_room = record { mode = 0; server = 0; help = 0 }

-- the answers to PING and the lines of the three queues, each from the one that goes first, the send timer, and the room
-- for more lines in the queues
pub record Sending : Type 0 where
  pub prompt : List (List ℕ)
  pub mode : List (List ℕ)
  pub server : List (List ℕ)
  pub help : List (List ℕ)
  pub timer : ℕ
  pub room : Room

-- nothing waits, the timer is not ahead of any moment, and there is no room
abbrev pub idle : Sending
idle = record { prompt = []; mode = []; server = []; help = []; timer = 0; room = no_room }

-- the room in one queue
abbrev pub room_in : Sending → Queue → ℕ
room_in q Mode = q.room.mode
room_in q Server = q.room.server
room_in q Help = q.room.help

-- with room for exactly `count` more lines in that queue
abbrev pub with_room : Sending → Queue → ℕ → Sending
with_room q Mode count = record q { room = record q.room { mode = count } }
with_room q Server count = record q { room = record q.room { server = count } }
with_room q Help count = record q { room = record q.room { help = count } }

-- the lines in the order in which they go: answers to PING wait for no queue, and a lower queue waits for the higher
-- ones
abbrev pub waiting : Sending → List (List ℕ)
waiting q = q.prompt ++ (q.mode ++ (q.server ++ q.help))

-- the lines of one queue, or all lines
abbrev pub lines_in : Sending → QueueSet → List (List ℕ)
lines_in q (One Mode) = q.mode
lines_in q (One Server) = q.server
lines_in q (One Help) = q.help
lines_in q All = waiting q

-- without the lines of one queue, or without all lines; the timer stays
abbrev pub without : Sending → QueueSet → Sending
without q (One Mode) = record q { mode = [] }
without q (One Server) = record q { server = [] }
without q (One Help) = record q { help = [] }
without q All = record q { prompt = []; mode = []; server = []; help = [] }

-- how many answers to PING wait, and how many lines each queue holds
abbrev pub counts_of : Sending → Counts
counts_of q = record { prompt = length q.prompt; mode = length q.mode; server = length q.server; help = length q.help }

-- with only the first answers to PING and the first lines of each queue, as many as `counts` says; the timer stays
abbrev pub with_first : Sending → Counts → Sending
with_first q counts =
    record q {
      prompt = take counts.prompt q.prompt;
      mode = take counts.mode q.mode;
      server = take counts.server q.server;
      help = take counts.help q.help;
    }

-- what stays when the first `n` lines have gone and the timer is set to `timer`
abbrev pub gone : ℕ → Sending → ℕ → Sending
gone n q timer =
    record {
      prompt = drop n q.prompt;
      mode = drop (n - length q.prompt) q.mode;
      server = drop (n - (length q.prompt + length q.mode)) q.server;
      help = drop (n - (length q.prompt + (length q.mode + length q.server))) q.help;
      timer = timer;
      room = q.room;
    }

-- how many lines may go at `now`: the number of k, from 0 on, for which `timer + COST * k` is below `now + AHEAD`
abbrev pub allowed : ℕ → ℕ → ℕ
allowed timer now = (now + AHEAD - timer + (COST - 1)) / COST

-- How many lines go: as many as may, or all that wait if they are fewer. The timer is never earlier than now.
abbrev pub count_at : Sending → ℕ → ℕ
count_at q now = min (length (waiting q)) (allowed (max q.timer now) now)

-- the lines that go at a moment
unfoldable pub sent : Sending → ℕ → List (List ℕ)
sent q now = take (count_at q now) (waiting q)

-- what stays after that: the other lines, and a timer that each sent line has moved by its cost
unfoldable pub after : Sending → ℕ → Sending
after q now = gone (count_at q now) q (max q.timer now + COST * count_at q now)

-- These lines are the first that wait. Each goes at a time that the timer allows, and the next line would not.
pub record IsGreatest (q : Sending) (now : ℕ) (lines : List (List ℕ)) : Type 0 where
  pub first : lines ≡ take (length lines) (waiting q)
  pub in_time : (k : ℕ) → k < length lines → max q.timer now + COST * k < now + AHEAD
  pub no_more : length lines < length (waiting q) → now + AHEAD ≤ max q.timer now + COST * length lines

-- ---- one line

-- the line that may go at a moment
unfoldable pub next_line : Sending → ℕ → Option (List ℕ)
next_line q now = if nat_lt (max q.timer now) (now + AHEAD) then first_of (waiting q) else None

-- what stays after that: the other lines, and a timer that the sent line has moved by its cost
unfoldable pub after_line : Sending → ℕ → Sending
after_line q now =
    if is_some (next_line q now) then gone 1 q (max q.timer now + COST)
    else record q { timer = max q.timer now }

-- ---- many moments

-- the lines that go at some moments, one after another
abbrev pub sent_over : Sending → List ℕ → List (List ℕ)
sent_over q [] = []
sent_over q (now ∷ moments) = sent q now ++ sent_over (after q now) moments

-- what stays after that
abbrev pub after_over : Sending → List ℕ → Sending
after_over q [] = q
after_over q (now ∷ moments) = after_over (after q now) moments

-- no moment is later than this one
abbrev pub AllUpTo : ℕ → List ℕ → Type 0
AllUpTo last [] = Unit {0}
AllUpTo last (now ∷ moments) = (now ≤ last) × AllUpTo last moments
