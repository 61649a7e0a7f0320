-- How many guests are of one home, and which of them is the oldest.
use Rattle.std.specs.Prelude.{ℕ, ◌==◌, Bool, List, Option, position}
use Rattle.std.specs.List.{count_by}
use Rattle.peers.specs.declared.guest.Guest.{Guest}
use Rattle.peers.specs.declared.home.Home.{Home}

abbrev pub is_of : Home → Guest → Bool
is_of home guest = guest.home.bits == home.bits

abbrev pub crowd_of : List Guest → Home → ℕ
crowd_of guests home = count_by (is_of home) guests

abbrev pub oldest_of : List Guest → Home → Option ℕ
oldest_of guests home = position (is_of home) guests
