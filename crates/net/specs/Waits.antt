-- When a connection is tried again.
use Rattle.std.specs.Prelude.{ℕ, ◌+◌, ◌-◌, ◌*◌, ◌/◌, ◌%◌, Bool, min, if◌then◌else◌}
use Rattle.net.specs.declared.redial.TheConstants.{FIRST_WAIT}

-- the bot's number and its longest wait; the second at which the next try is due, and the wait after the next loss
pub record Waits : Type 0 where
  pub number : ℕ
  pub most : ℕ
  pub due : ℕ
  pub wait : ℕ

-- after a good connection the wait is the shortest again
abbrev pub wait_after : Waits → Bool → ℕ
wait_after old was_good = if was_good then FIRST_WAIT else old.wait

-- the wait, which the bot's number shortens by at most half
abbrev pub spread : ℕ → ℕ → ℕ
spread number wait = wait - number % (wait / 2 + 1)

-- the next try is due after this wait, and the next wait is twice as long, but at most the longest
abbrev pub waits : Waits → ℕ → ℕ → Waits
waits old now wait = record old { due = now + spread old.number wait; wait = min (wait * 2) old.most }

abbrev pub lost : Waits → ℕ → Bool → Waits
lost old now was_good = waits old now (wait_after old was_good)
