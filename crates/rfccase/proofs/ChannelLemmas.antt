-- Channel names: for callers.
use Rattle.std.proofs.Common.{◌≡◌, ℕ, ◌≤◌, true, List, length, arith}
use Rattle.std.proofs.lemmas.Bool.Decides.{nat_tests}
use Rattle.rfccase.specs.Channels.{is_channel_name}

pub channel_name_is_short : (name : List ℕ) → is_channel_name name ≡ true → length name ≤ 100
channel_name_is_short name is = grind (arith, nat_tests)
