-- What each call does to a connection, and what was handed on and told over it, compared with what its stream gave and
-- took.
use Rattle.std.specs.Prelude.{◌≡◌, ◌<◌, ◌≤◌, ◌+◌, ◌∷◌, ◌++◌, ◌==◌, ◌&&◌, not, if◌then◌else◌, ℕ, nat_le, nat_lt, Bool, true, false, List, [], length, Result, Ok, Err}
use Rattle.std.specs.List.{list_any}
use Rattle.streams.specs.State.{Source, Sink}
use Rattle.streams.specs.Calls.{Takes, bytes_taken}
use Rattle.streams.specs.Transfers.{ReadsPiece}
use Rattle.streams.specs.declared.stream.Given.{Given}
use Rattle.streams.specs.declared.stream.Given.TheVariants.{Bytes, End, Stall, Fault}
use Rattle.streams.specs.declared.stream.Taken.{Taken}
use Rattle.streams.specs.declared.stream.Taken.TheVariants.{Bytes as takes_bytes, Nothing, Fault as fails_to_take}
use Rattle.streams.specs.declared.stream.Stream.{Ghosts}
use Rattle.net.specs.declared.connection.Connection.{Connection}

-- A connection: its stream, the bytes that were heard and not taken yet, the unsent bytes, whether it is over, and
-- whether its stream may have something to read: false after a read that would block, until the connection is woken.
pub record Talk : Type 0 where
  pub source : Source
  pub sink : Sink
  pub heard : List ℕ
  pub unsent : List ℕ
  pub over : Bool
  pub gives : Bool

-- what is known of a connection
abbrev pub talk_of : {S : Type 0} {sides : Ghosts S} → Connection S sides → Talk
talk_of {sides = sides} connection = record {
  source = sides.source connection.stream;
  sink = sides.sink connection.stream;
  heard = connection.heard.items;
  unsent = connection.unsent.items;
  over = connection.is_over;
  gives = connection.is_ready;
}

-- nothing was heard or told yet
abbrev pub new_talk : Source → Sink → Talk
new_talk source sink = record { source = source; sink = sink; heard = []; unsent = []; over = false; gives = true }

-- an event has named the connection
abbrev pub named : Talk → Talk
named talk = record talk { gives = true }

-- the bytes that were heard are taken
abbrev pub handed : Talk → Talk
handed talk = record talk { heard = [] }

-- ---- what was handed on and told

-- what a stream had given and taken when its connection began, and what was handed on and told since
pub record Ledger : Type 0 where
  pub given : List ℕ
  pub taken : List ℕ
  pub handed : List ℕ
  pub told : List ℕ

abbrev pub begun : Source → Sink → Ledger
begun source sink = record { given = source.past.given; taken = sink.past.taken; handed = []; told = [] }

abbrev pub more_handed : Ledger → List ℕ → Ledger
more_handed ledger bytes = record ledger { handed = ledger.handed ++ bytes }

abbrev pub more_told : Ledger → List ℕ → Ledger
more_told ledger bytes = record ledger { told = ledger.told ++ bytes }

-- Each byte that the stream gave since was handed on or is held as heard, once and in order. Each byte told since was
-- taken by the stream or is held as unsent, once and in order.
pub record Holds (ledger : Ledger) (source : Source) (sink : Sink) (heard unsent : List ℕ) : Type 0 where
  pub hears : source.past.given ≡ ledger.given ++ (ledger.handed ++ heard)
  pub tells : ledger.taken ++ ledger.told ≡ sink.past.taken ++ unsent

-- ---- hearing

-- whether a read asks the stream, where at most this many bytes may be heard: it may have something to read, and there
-- is room
abbrev pub asks : ℕ → Talk → Bool
asks most talk = talk.gives && (not talk.over && nat_lt (length talk.heard) most)

-- whether an answer brings bytes, and whether it says that a read would block
abbrev pub brings : Given → Bool
brings (Bytes n) = true
brings End = false
brings Stall = false
brings Fault = false

abbrev pub stalls : Given → Bool
stalls (Bytes n) = false
stalls End = false
stalls Stall = true
stalls Fault = false

-- an answer after which nothing more is heard
abbrev pub ends_hearing : Given → Bool
ends_hearing (Bytes n) = false
ends_hearing End = true
ends_hearing Stall = false
ends_hearing Fault = true

-- asked once, the stream gave this answer, whose bytes are appended to those that were heard before
pub record Hears (most : ℕ) (old : Talk) (answer : Given) (new : Talk) : Type 0 where
  pub heard : ReadsPiece most old.source old.heard answer new.source new.heard
  pub over : new.over ≡ ends_hearing answer
  pub gives : new.gives ≡ not (stalls answer)
  pub sink : new.sink ≡ old.sink
  pub unsent : new.unsent ≡ old.unsent

-- some reads, one after another, with these answers
abbrev pub HearsAll : ℕ → List Given → Talk → Talk → Type 0
HearsAll most [] old new = new ≡ old
HearsAll most (answer ∷ answers) old new =
    (asks most old ≡ true) × ((mid : Talk) × (Hears most old answer mid × HearsAll most answers mid new))

-- at most this many reads, but at least one if the first asks the stream; and whether bytes came
pub record Reads (pieces most : ℕ) (old : Talk) (came : Bool) (new : Talk) : Type 0 where
  pub answers : List Given
  pub heard : HearsAll most answers old new
  pub few : length answers ≤ pieces
  pub some : asks most old ≡ true → 0 < pieces → 0 < length answers
  pub brought : came ≡ list_any brings answers

-- memory ran out before the last of these reads: those before it were made
pub record ReadsFewer (pieces most : ℕ) (old new : Talk) : Type 0 where
  pub answers : List Given
  pub heard : HearsAll most answers old new
  pub few : length answers < pieces
  pub asks : asks most old ≡ true

-- these bytes, or more after them
abbrev pub Grows : List ℕ → List ℕ → Type 0
Grows before after = (piece : List ℕ) × (after ≡ before ++ piece)

-- ---- telling

-- the bytes that were told: all of these or none
abbrev pub told_bytes : {E : Type 0} → Result Bool E → List ℕ → List ℕ
told_bytes (Ok true) bytes = bytes
told_bytes (Ok false) bytes = []
told_bytes (Err why) bytes = []

-- all bytes are queued if at most this many are unsent then; otherwise none is, and the connection is over
abbrev pub with_bytes : ℕ → List ℕ → Talk → Talk
with_bytes most bytes talk =
    if nat_le (length talk.unsent + length bytes) most then record talk { unsent = talk.unsent ++ bytes } else record talk { over = true }

-- ---- sending

-- an answer after which nothing more can be told
abbrev pub ends_telling : Taken → Bool
ends_telling (takes_bytes n) = false
ends_telling Nothing = false
ends_telling fails_to_take = true

abbrev pub takes_some : Taken → Bool
takes_some (takes_bytes n) = true
takes_some Nothing = false
takes_some fails_to_take = false

-- offered the unsent bytes once, the stream gave this answer; what it took is no longer unsent
pub record Offers (old : Talk) (answer : Taken) (new : Talk) : Type 0 where
  pub sent : Takes old.sink answer old.unsent new.sink
  pub rest : bytes_taken answer old.unsent ++ new.unsent ≡ old.unsent
  pub over : new.over ≡ (if old.over then true else ends_telling answer)
  pub source : new.source ≡ old.source
  pub heard : new.heard ≡ old.heard
  pub gives : new.gives ≡ old.gives

-- one send, by whether nothing is unsent, and whether bytes were taken; if nothing is unsent, nothing is offered
abbrev pub SendsIf : Bool → Talk → Bool → Talk → Type 0
SendsIf true old took new = (took ≡ false) × (new ≡ old)
SendsIf false old took new = (answer : Taken) × Offers old answer new × (took ≡ takes_some answer)

abbrev pub Sends : Talk → Bool → Talk → Type 0
Sends old took new = SendsIf (length old.unsent == 0) old took new

-- whether the stream may take more at once: it took some, and more is unsent
abbrev pub SendsOn : Talk → Bool → Talk → Type 0
SendsOn old more new = (took : Bool) × (Sends old took new × (more ≡ (took && not (length new.unsent == 0))))
