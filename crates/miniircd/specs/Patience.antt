-- How long the server waits for a client (our own choice). A clock of whole seconds may show 30 when a little more than
-- 29 have passed. So what is due after 30 seconds is due when the clock shows more.
use Rattle.std.specs.Prelude.{ℕ, Bool, ◌-◌, nat_lt, Option, Some, None, if◌then◌else◌}
use Rattle.miniircd.specs.declared.pulse.Pulse.{Pulse}
use Rattle.miniircd.specs.declared.pulse.Due.{Due}
use Rattle.miniircd.specs.declared.pulse.Due.TheVariants as due

-- a client that is silent for two minutes gets a PING, and is disconnected four minutes later if it stays silent
abbrev pub due_to_silent : Option ℕ → ℕ → ℕ → Due
due_to_silent None heard now = if nat_lt 120 (now - heard) then due.Ask else due.Nothing
due_to_silent (Some asked) heard now = if nat_lt 240 (now - asked) then due.Silent else due.Nothing

-- a client that has not registered within 30 seconds is disconnected, whatever it sends
abbrev pub due_of : Bool → Pulse → ℕ → Due
due_of is_registered pulse now =
    if is_registered then due_to_silent pulse.asked pulse.heard now
    else (if nat_lt 30 (now - pulse.came) then due.Nameless else due.Nothing)

abbrev pub pulse_after : Due → ℕ → Pulse → Pulse
pulse_after due.Ask now pulse = record pulse { asked = Some now }
pulse_after due.Nothing now pulse = pulse
pulse_after due.Nameless now pulse = pulse
pulse_after due.Silent now pulse = pulse
