-- The bytes of a stream that pass.
use Rattle.std.specs.Prelude.{ℕ, Bool, true, ◌+◌, ◌-◌, ◌&&◌, nat_lt, List, [], ◌∷◌, ◌++◌, length, take, if◌then◌else◌}
use Rattle.ircline.specs.Classes.{is_end}
use Rattle.floods.specs.declared.floods.Verdict.{Verdict}
use Rattle.floods.specs.declared.floods.Verdict.TheVariants.{Passes, Dropped, Ignores, PassesAndIgnores}
use Rattle.floods.specs.declared.sieve.TheConstants.{MAX_LINE}
use Rattle.floods.specs.declared.ignores.Ignore.{Ignore}
use Rattle.floods.specs.Watching.{Watch, after, last_of, verdict}

-- what is watched, and the line that has begun
pub record Sieving : Type 0 where
  pub watch : Watch
  pub line : List ℕ

-- One byte more of a line that has not ended. A line of more than 510 bytes reads as too long whatever it holds, so no
-- more than 511 of its bytes are kept.
abbrev pub longer : List ℕ → ℕ → List ℕ
longer line b = if nat_lt (length line) MAX_LINE then line ++ b ∷ [] else line

-- bytes that end no line go on with the line that has begun
abbrev pub held : Sieving → List ℕ → Sieving
held sieve run = record { watch = sieve.watch; line = sieve.line ++ take (MAX_LINE - length sieve.line) run }

-- ---- what one byte does

-- the CR or LF that ends a line lets it pass as a whole, or drops it
abbrev pub passed : Verdict → List ℕ → List ℕ
passed Passes line = line
passed Dropped line = []
passed Ignores line = []
passed PassesAndIgnores line = line

abbrev pub drops : Verdict → ℕ
drops Passes = 0
drops Dropped = 1
drops Ignores = 1
drops PassesAndIgnores = 0

abbrev pub begins : Verdict → ℕ
begins Passes = 0
begins Dropped = 0
begins Ignores = 1
begins PassesAndIgnores = 1

abbrev pub at_byte : (List ℕ → Bool) → ℕ → Sieving → ℕ → Sieving
at_byte trusted now sieve b =
    if is_end b then record { watch = after trusted now sieve.watch sieve.line; line = [] }
    else record { watch = sieve.watch; line = longer sieve.line b }

abbrev pub given : (List ℕ → Bool) → ℕ → Sieving → ℕ → List ℕ
given trusted now sieve b =
    if is_end b then passed (verdict trusted now sieve.watch sieve.line) (sieve.line ++ b ∷ []) else []

abbrev pub drop_of : (List ℕ → Bool) → ℕ → Sieving → ℕ → ℕ
drop_of trusted now sieve b = if is_end b then drops (verdict trusted now sieve.watch sieve.line) else 0

abbrev pub begin_of : (List ℕ → Bool) → ℕ → Sieving → ℕ → ℕ
begin_of trusted now sieve b = if is_end b then begins (verdict trusted now sieve.watch sieve.line) else 0

-- ---- what the bytes of a stream do, one after another

-- those that pass
abbrev pub sifted : (List ℕ → Bool) → ℕ → Sieving → List ℕ → List ℕ
sifted trusted now sieve [] = []
sifted trusted now sieve (b ∷ bs) = given trusted now sieve b ++ sifted trusted now (at_byte trusted now sieve b) bs

-- what is watched after them, and the line that has begun
abbrev pub after_bytes : (List ℕ → Bool) → ℕ → Sieving → List ℕ → Sieving
after_bytes trusted now sieve [] = sieve
after_bytes trusted now sieve (b ∷ bs) = after_bytes trusted now (at_byte trusted now sieve b) bs

-- how many lines do not pass
abbrev pub dropped : (List ℕ → Bool) → ℕ → Sieving → List ℕ → ℕ
dropped trusted now sieve [] = 0
dropped trusted now sieve (b ∷ bs) = drop_of trusted now sieve b + dropped trusted now (at_byte trusted now sieve b) bs

-- how many ignores begin
abbrev pub begun : (List ℕ → Bool) → ℕ → Sieving → List ℕ → ℕ
begun trusted now sieve [] = 0
begun trusted now sieve (b ∷ bs) = begin_of trusted now sieve b + begun trusted now (at_byte trusted now sieve b) bs

-- the ignores that begin, of more than 100 the last 100
abbrev pub begun_ignores : (List ℕ → Bool) → ℕ → Sieving → List ℕ → List Ignore
begun_ignores trusted now sieve bytes =
    last_of (begun trusted now sieve bytes) (after_bytes trusted now sieve bytes).watch.ignores

-- each line of a stream that goes on with a begun line has at most MAX_LINE bytes
abbrev pub are_short : List ℕ → List ℕ → Bool
are_short line [] = true
are_short line (b ∷ bs) =
    if is_end b then are_short [] bs else nat_lt (length line) MAX_LINE && are_short (line ++ b ∷ []) bs
