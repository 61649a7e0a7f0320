-- What is read from a connection.
use Rattle.std.specs.Prelude.{ℕ, List, ◌++◌, Result, IfOk}
use Rattle.bytetext.specs.declared.memory.NoMemory.{NoMemory}
use Rattle.sharewire.specs.declared.feed.Feed.{Feed}
use Rattle.sharewire.specs.declared.packet.Packet.{Packet}
use Rattle.sharewire.specs.Streams.{Ending, Tells}

-- some stream was read whole: it contains packets, and ends so
pub record IsRead (ending : Ending) : Type 0 where
  pub stream : List ℕ
  pub packets : List Packet
  pub tells : Tells stream packets ending

-- if a stream contains packets, then that stream and a piece after it contain those packets and then the piece's
abbrev pub TellsOn : List ℕ → Ending → Ending → Result Feed NoMemory → Type 0
TellsOn piece old new result =
    (stream : List ℕ) (packets : List Packet) → Tells stream packets old
    → IfOk result (λ (feed : Feed). Tells (stream ++ piece) (packets ++ feed.packets) new)
