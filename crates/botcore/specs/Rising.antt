-- The seconds that timers were given, and those that they may be given next.
use Rattle.std.specs.Prelude.{ℕ, ◌<◌, ◌≤◌, Option, Some, None, List, [], ◌∷◌}
use Rattle.bytetext.specs.declared.moment.TheConstants.{MOMENTS_END}
use Rattle.bottimers.specs.Held.{IsAbove}

-- the last second that timers were given is not above that of the clock
abbrev pub IsReached : Option ℕ → Option ℕ → Type 0
IsReached None clock = Unit {0}
IsReached (Some last) None = ⊥
IsReached (Some last) (Some t) = last ≤ t

-- moments, each above the last one
abbrev pub Rise : Option ℕ → List ℕ → Type 0
Rise last [] = Unit {0}
Rise last (t ∷ ts) = IsAbove last t × (t < MOMENTS_END) × Rise (Some t) ts
