-- A requested bind, as the code passes it on.
use Rattle.std.specs.Prelude.{◌≡◌, ℕ, ◌<◌, Bool, true, false, None, List, length, slice_index_or}
use Rattle.wildmask.specs.Masks.{bind_fault}
use Rattle.flagexpr.specs.Expression.{expression_of}
use Rattle.flagexpr.specs.Faults.{expression_fault}
use Rattle.procs.specs.declared.bind.Bind.{Bind}
use Rattle.procs.specs.declared.wish.Wish.{Wish}
use Rattle.procs.specs.Tables.{Asked, is_bad_cron, is_such}

abbrev pub asked_of : Wish → Asked
asked_of wish = record { kind = wish.kind; flags = wish.flags.now; mask = wish.mask.now; proc = wish.proc.now }

-- its flags parse to its expression, and its mask is a mask of its kind
pub record IsWish (wish : Wish) : Type 0 where
  pub parses : expression_fault wish.flags.now ≡ None
  pub expression : wish.expression ≡ expression_of wish.flags.now
  pub mask : bind_fault wish.mask.now ≡ None
  pub cron : is_bad_cron wish.kind wish.mask.now ≡ false

-- an element of a list passes a test
pub record IsAt {X : Type 0} (t : X → Bool) (xs : List X) (i : ℕ) : Type 0 where
  pub within : i < length xs
  pub passes : (d : X) → t (slice_index_or xs i d) ≡ true

-- the bind at a place is the one of the kind, mask and proc
abbrev pub IsFound : Wish → List Bind → ℕ → Type 0
IsFound wish binds at = IsAt (is_such wish.kind wish.mask.now wish.proc.now) binds at
