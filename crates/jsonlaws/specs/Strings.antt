-- What bytes are.
use Rattle.std.specs.Prelude.{ℕ, Bool, nat_lt}

abbrev pub is_byte : ℕ → Bool
is_byte b = nat_lt b 256
