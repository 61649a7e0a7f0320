-- Which server is tried, and when.
use Rattle.std.specs.Prelude.{ℕ, suc, ◌-◌, ◌^◌, ◌==◌, Bool, true, false, min, if◌then◌else◌}
use Rattle.net.specs.Waits.{Waits, lost as lost_wait}

pub record Dials : Type 0 where
  pub servers : ℕ  -- how many are in the list
  pub place : ℕ  -- which of them is tried, from 0
  pub round : ℕ  -- how often the whole list was gone through
  pub good : Bool  -- whether the connection was good
  pub waits : Waits  -- when the next try is due

-- the connection was good
abbrev pub good : Dials → Dials
good dials = record dials { good = true }

-- whether the last of the list is tried
abbrev pub is_last : Dials → Bool
is_last dials = suc dials.place == dials.servers

-- the next place of the list; after the last one the first again
abbrev pub next_place : Dials → ℕ
next_place dials = if is_last dials then 0 else suc dials.place

-- a round ends with the last place
abbrev pub next_round : Dials → ℕ
next_round dials = if is_last dials then min (suc dials.round) (2 ^ 64 - 1) else dials.round

-- a try failed at this second, or the connection was lost
abbrev pub lost : Dials → ℕ → Dials
lost dials now = record {
  servers = dials.servers;
  place = next_place dials;
  round = next_round dials;
  good = false;
  waits = lost_wait dials.waits now dials.good;
}
