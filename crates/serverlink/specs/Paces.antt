-- A server's timer: never before the clock after a line, and two seconds on with each line.
use Rattle.std.specs.Prelude.{ℕ, ◌+◌, ◌-◌, ◌^◌, min, max, nat_lt, Bool}
use Rattle.serverlink.specs.declared.pace.TheConstants.{COST, AHEAD}
use Rattle.serverlink.specs.declared.pace.Pace.{Pace}

-- the largest 64-bit number
abbrev pub most : ℕ
most = 2 ^ 64 - 1

abbrev pub after : Pace → ℕ → Pace
after pace now = record { timer = min (max pace.timer now + COST) most }

abbrev pub may : Pace → ℕ → Bool
may pace now = nat_lt pace.timer (min (now + AHEAD) most)
