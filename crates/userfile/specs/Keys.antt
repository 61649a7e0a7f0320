-- How the map's keys follow from its users, and the records that the map and the bans are.
use Rattle.std.specs.Prelude.{◌≡◌, ◌≤◌, ℕ, List, [], ◌∷◌, length}
use Rattle.std.specs.Map.{values_of}
use Rattle.std.specs.declared.vec.Vec.{Vec}
use Rattle.std.specs.declared.alloc.Global.{Global}
use Rattle.rfccase.specs.Casemapping.{folded}
use Rattle.userfile.specs.Records.{Records}
use Rattle.userfile.specs.declared.ban.Ban.{Ban}
use Rattle.userfile.specs.declared.limits.TheConstants.{MAX_HANDLE}
use Rattle.userfile.specs.declared.user.User.{User}

-- each user's key is the lower case of the handle, which is short enough to be folded on the stack
abbrev pub IsKeyed : List (Vec ℕ Global × User) → Type 0
IsKeyed [] = Unit {0}
IsKeyed (e ∷ es) = (e.0.items ≡ folded e.1.handle) × (length e.1.handle ≤ MAX_HANDLE) × IsKeyed es

-- the records of the map's users and these bans
abbrev pub records_of : List (Vec ℕ Global × User) → List Ban → Records
records_of entries bans = record { users = values_of entries; bans = bans }
