-- When the process pings a silent server, and when it disconnects it.
use Rattle.std.specs.Prelude.{ℕ, ◌-◌, nat_le, Bool, true, false, not, ◌&&◌, if◌then◌else◌}
use Rattle.serverlink.specs.declared.vigil.TheConstants.{QUIET, DEAD, UNWELCOMED, GOOD}
use Rattle.serverlink.specs.declared.vigil.Vigil.{Vigil}
use Rattle.serverlink.specs.declared.vigil.Care.{Care}
use Rattle.serverlink.specs.declared.vigil.Care.TheVariants.{Wait, Ask, LetGo}
use Rattle.serverlink.specs.declared.vigil.Loss.TheVariants.{Silent, Unwelcomed}

abbrev pub begun : ℕ → Vigil
begun now = record { began = now; heard = now; asked = false }

-- a byte ends the silence
abbrev pub heard : Vigil → ℕ → Vigil
heard vigil now = record vigil { heard = now; asked = false }

abbrev pub asked : Vigil → Vigil
asked vigil = record vigil { asked = true }

-- first the silence, then the missing welcome; a silent server is pinged once
abbrev pub care_of : Vigil → ℕ → Bool → Care
care_of vigil now is_welcomed =
    if nat_le DEAD (now - vigil.heard) then LetGo Silent
    else if not is_welcomed && nat_le UNWELCOMED (now - vigil.began) then LetGo Unwelcomed
    else if nat_le QUIET (now - vigil.heard) && not vigil.asked then Ask
    else Wait

-- whether the connection is kept
abbrev pub is_kept : Care → Bool
is_kept Wait = true
is_kept Ask = true
is_kept (LetGo loss) = false

abbrev pub is_good : Vigil → ℕ → Bool
is_good vigil now = nat_le GOOD (now - vigil.began)
