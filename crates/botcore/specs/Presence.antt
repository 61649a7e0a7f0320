-- The channels that a bot is on, and those of a bot that has just connected.
use Rattle.chanstate.specs.declared.state.ChanState.{ChanState}
use Rattle.chanstate.specs.Views.{connected}
use Rattle.std.specs.Prelude.{List, ℕ}

pub record Presence : Type 0 where
  pub first : ChanState
  pub current : ChanState

-- on no channel, under this nick
abbrev pub absent : List ℕ → Presence
absent nick = record { first = connected nick; current = connected nick }
