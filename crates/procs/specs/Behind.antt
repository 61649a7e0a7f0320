-- The binds behind entries.
use Rattle.std.specs.Prelude.{◌≡◌, ℕ, ◌==◌, List, [], ◌∷◌, find, Option, Some, None}
use Rattle.std.specs.List.{cons_option}
use Rattle.wildmask.specs.WideSignatures.{WidePairs}
use Rattle.procs.specs.declared.bind.Bind.{Bind}
use Rattle.procs.specs.declared.index.IndexEntry.{IndexEntry}
use Rattle.procs.specs.Masks.{needs_of}
use Rattle.procs.specs.Sound.{AreRising}

-- the bind with a number
abbrev pub bind_of : ℕ → List Bind → Option Bind
bind_of number binds = find (λ b. b.number == number) binds

-- the binds behind entries, in their order
abbrev pub behind : List Bind → List IndexEntry → List Bind
behind binds [] = []
behind binds (e ∷ entries) = cons_option (bind_of e.number binds) (behind binds entries)

-- what an entry says of its bind is true
abbrev pub Tells : WidePairs → Option Bind → Type 0
Tells needs (Some b) = needs ≡ needs_of b
Tells needs None = Unit {0}

abbrev pub AreKnown : List Bind → List IndexEntry → Type 0
AreKnown binds [] = Unit {0}
AreKnown binds (e ∷ entries) = Tells e.needs (bind_of e.number binds) × AreKnown binds entries

-- the numbers of binds rise
abbrev pub HaveRisen : List Bind → Type 0
HaveRisen binds = (last : ℕ) × AreRising 0 binds last
