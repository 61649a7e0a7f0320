-- One bot's turn in a live net, given what its sockets gave.
use Rattle.std.specs.Prelude.{◌≡◌, ℕ, Bool, false, List, []}
use Rattle.procs.specs.Promises.{Promised}
use Rattle.sharewire.specs.declared.packet.Packet.{Packet}
use Rattle.botcore.specs.Bots.{Bot}
use Rattle.turns.specs.declared.turn.Heard.{Heard}
use Rattle.turns.specs.declared.turn.Told.{Told}
use Rattle.turns.specs.Turns.{Turns}

-- Its steps are exactly these, in order: a connection if one began, the lines that the server's bytes end, this reading
-- of the clock, these packets, and a pump if one is due. The turn reports what the steps report. It requests no change
-- and compacts nothing.
pub record TakesTurn (promised : Promised) (names : List (List ℕ))
    (old : Bot) (held : List ℕ) (began : Bool) (packets : List Packet) (now : ℕ) (pumps : Bool)
    (told : Told) (new : Bot) (after : List ℕ) : Type 0 where
  pub heard : Heard
  pub connected : heard.connected ≡ began
  pub came : heard.packets.items ≡ packets
  pub asked : heard.changes.items ≡ []
  pub reading : heard.now ≡ now
  pub pumped : heard.pump ≡ pumps
  pub kept : heard.compact ≡ false
  pub turn : Turns promised names old held heard told new after
