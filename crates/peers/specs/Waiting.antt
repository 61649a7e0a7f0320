-- Packets that have arrived and wait, in one queue for each stream, and which of them one turn takes.
use Rattle.std.specs.Prelude.{◌≡◌, ℕ, ◌+◌, ◌-◌, min, nat_lt, List, [], ◌∷◌, ◌++◌, length, get_or, set, take, drop, fold, if◌then◌else◌}
use Rattle.sharewire.specs.declared.packet.Packet.{Packet}
use Rattle.peers.specs.declared.queue.TheConstants.{MAX_PACKETS, MAX_OF_STREAM}

-- the queue of each stream, the oldest packet first, and the stream that the next turn asks first
pub record Waiting : Type 0 where
  pub queues : List (List Packet)
  pub first : ℕ

-- the queue of a stream, empty if there is no such stream
abbrev pub queue_of : Waiting → ℕ → List Packet
queue_of waiting stream = get_or waiting.queues stream []

abbrev pub with_queue : ℕ → List Packet → Waiting → Waiting
with_queue stream queue waiting = record waiting { queues = set waiting.queues stream queue }

abbrev pub with_more : ℕ → List Packet → Waiting → Waiting
with_more stream packets waiting = with_queue stream (queue_of waiting stream ++ packets) waiting

-- ---- a turn asks one stream after another

-- the packets that the streams asked so far gave, what stays in each queue, and how many of the streams there was room
-- for
pub record Round : Type 0 where
  pub given : List Packet
  pub left : List (List Packet)
  pub served : ℕ

-- how many packets a stream gives after `given`: all that wait, but at most 64, and at most 256 together with `given`
abbrev pub share : List Packet → List Packet → ℕ
share given queue = min (min MAX_OF_STREAM (length queue)) (MAX_PACKETS - length given)

-- one more stream is asked: it gives its oldest packets
abbrev pub asked : Round → List Packet → Round
asked round queue = record {
  given = round.given ++ take (share round.given queue) queue;
  left = round.left ++ drop (share round.given queue) queue ∷ [];
  served = round.served + min 1 (MAX_PACKETS - length round.given);
}

abbrev pub round_of : List (List Packet) → Round
round_of queues = fold asked (record { given = []; left = []; served = 0 }) queues

-- all streams from the first on, and then those before it
abbrev pub in_turn : ℕ → List (List Packet) → List (List Packet)
in_turn first queues = drop first queues ++ take first queues

-- the stream `served` places after `first`, around a ring of `streams` streams
abbrev pub places_on : ℕ → ℕ → ℕ → ℕ
places_on streams first served = if nat_lt served (streams - first) then first + served else served - (streams - first)

-- A turn takes what the streams give, in the order in which it asks them; what they don't give stays. The next turn
-- begins with the stream for which there was no room.
pub record TakesTurn (old : Waiting) (packets : List Packet) (new : Waiting) : Type 0 where
  pub given : packets ≡ (round_of (in_turn old.first old.queues)).given
  pub left : in_turn old.first new.queues ≡ (round_of (in_turn old.first old.queues)).left
  pub first : new.first ≡ places_on (length old.queues) old.first (round_of (in_turn old.first old.queues)).served
