-- A turn of a bot, and what it says about changes.
use Rattle.std.specs.Prelude.{◌≡◌, ℕ, zero, suc, Bool, false, not, List, [], Option}
use Rattle.userfile.specs.declared.change.Change.{Change}
use Rattle.sharewire.specs.declared.packet.Packet.{Packet}
use Rattle.procs.specs.Promises.{Promised}
use Rattle.botcore.specs.Bots.{Bot}
use Rattle.turns.specs.declared.turn.Heard.{Heard}
use Rattle.turns.specs.declared.turn.Told.{Told}
use Rattle.turns.specs.declared.turn.TurnEnd.TheVariants.{Done}
use Rattle.turns.specs.Queues.{packets_in}
use Rattle.turns.specs.Turns.{Turns}
use Rattle.administrators.specs.declared.change_outcome.ChangeOutcome.{ChangeOutcome}
use Rattle.peers.specs.declared.links.Links.{Links}
use Rattle.peers.specs.Tells.{TakesPackets, granted}
use Rattle.net.specs.Connections.{Talk}
use Rattle.upkeep.specs.Spaces.{admitted}
use Rattle.botrun.specs.Outcomes.{outcome_of}
use Rattle.botrun.specs.Passing.{told_of}

-- A turn's steps lead from one bot to the other, and say this about changes; only their lines are queued for the
-- server.
pub record TakesTurn (promised : Promised)
    (names : List (List ℕ)) (old : Bot) (held : List ℕ) (heard : Heard) (new : Bot) (after : List ℕ) (outcome : ChangeOutcome)
    (talk new_talk : Option Talk) : Type 0 where
  pub told : Told
  pub turn : Turns promised names old held heard told new after
  pub tells : outcome ≡ outcome_of told.reports
  pub server : new_talk ≡ told_of told.reports talk

-- no server and no other bot is heard in a turn
abbrev pub HearsNothing : Heard → Type 0
HearsNothing heard = (heard.connected ≡ false) × (heard.bytes.items ≡ []) × (heard.packets.items ≡ [])

-- The same for a turn in which nothing is heard and these changes are asked for. It compacts, or else it pumps.
pub record TakesChanges (promised : Promised)
    (names : List (List ℕ)) (old : Bot) (held : List ℕ) (changes : List Change) (compacts : Bool) (new : Bot) (after : List ℕ)
    (outcome : ChangeOutcome) (talk new_talk : Option Talk) : Type 0 where
  pub heard : Heard
  pub quiet : HearsNothing heard
  pub asked : heard.changes.items ≡ changes
  pub compacted : heard.compact ≡ compacts
  pub pumped : heard.pump ≡ not compacts
  pub takes : TakesTurn promised names old held heard new after outcome talk new_talk

-- all steps of a turn are made, and none of them reports anything for the other bots
abbrev pub TellsNothing : Told → Type 0
TellsNothing told = (told.end ≡ Done) × (packets_in told.reports ≡ [])

-- ---- the turns of a bot, one after another

-- a turn in which nothing is heard leads from one bot to the other
pub record TakesQuietTurn (promised : Promised)
    (names : List (List ℕ)) (old : Bot) (held : List ℕ) (new : Bot) (after : List ℕ) : Type 0 where
  pub heard : Heard
  pub told : Told
  pub quiet : HearsNothing heard
  pub turn : Turns promised names old held heard told new after

-- so many such turns
unfoldable pub TakesQuietTurns : ℕ → Promised → List (List ℕ) → Bot → List ℕ → Bot → List ℕ → Type 0
TakesQuietTurns zero promised names old held new after = (new ≡ old) × (after ≡ held)
TakesQuietTurns (suc count) promised names old held new after =
    (mid : Bot) × (between : List ℕ)
    × TakesQuietTurns count promised names old held mid between × TakesQuietTurn promised names mid between new after

-- a bot goes on by turns in which nothing is heard
pub record GoesOn (promised : Promised)
    (names : List (List ℕ)) (old : Bot) (held : List ℕ) (new : Bot) (after : List ℕ) : Type 0 where
  pub count : ℕ
  pub turns : TakesQuietTurns count promised names old held new after

-- A turn takes exactly these bytes from the server, and the packets that are taken from these connections: none of them
-- if there is no room, and no request among them while the hub is being handed over. The bot goes on from that turn by turns in which nothing is heard.
pub record Hears (promised : Promised) (names : List (List ℕ)) (old : Bot) (held bytes : List ℕ)
    (has_room hands_over : Bool) (links : Links) (new : Bot) (after : List ℕ) : Type 0 where
  pub heard : Heard
  pub same : heard.bytes.items ≡ bytes
  pub waiting : List Packet
  pub left : Links
  pub taken : TakesPackets links waiting left
  pub packets : heard.packets.items ≡ admitted has_room (granted hands_over waiting)
  pub told : Told
  pub mid : Bot
  pub between : List ℕ
  pub turn : Turns promised names old held heard told mid between
  pub rest : GoesOn promised names mid between new after
