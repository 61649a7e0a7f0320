-- How a countdown jumps over the units that pass from one second to a later one.
use Rattle.std.proofs.Common.{◌≡◌, ◌↔◌, ℕ, ◌+◌, ◌-◌, ◌*◌, ◌/◌, ◌%◌, ◌<◌, ◌≤◌, cond, ltb, arith, ap, ◌∙◌, refl}
use Rattle.std.proofs.lemmas.Nat.{div-add-mod', div-mul-add, mod_below}
use Rattle.std.proofs.lemmas.Bool.Decides.{nat_tests}
use Rattle.bottimers.specs.declared.timer.TimerKind.{TimerKind}
use Rattle.bottimers.specs.declared.timer.TimerKind.TheVariants.{Minutes, Seconds}
use Rattle.bottimers.specs.declared.timer.Timer.{Timer}
use Rattle.bottimers.specs.Occurrences.{unit_of, start_of, used, units_left}

-- a unit is not before an earlier one
pub unit_of-mono : (k : TimerKind) (a b : ℕ) → a ≤ b → unit_of k a ≤ unit_of k b
unit_of-mono Minutes a b h = omega arith
unit_of-mono Seconds a b h = h

-- a unit begins at a second only where that second is the first of its own unit
pub start_of-is : (k : TimerKind) (x t : ℕ) → (start_of k x ≡ t) ↔ ((x ≡ unit_of k t) × (start_of k (unit_of k t) ≡ t))
start_of-is Minutes x t = (λ e. (omega arith, omega arith), λ e. omega (arith, e.0, e.1))
start_of-is Seconds x t = (λ e. (e, refl), λ e. e.0)

-- the next one, with s the unit of the making, u the unit reached, and i the interval
abbrev pub next_in : ℕ → ℕ → ℕ → ℕ
next_in s u i = s + i * ((u - s) / i + 1) - u

module _ (s u v i : ℕ) (made : s ≤ u) (later : u ≤ v) (counts : 0 < i) where
  pub next_in_is : next_in s u i + (u - s) % i ≡ i
  next_in_is = omega (arith, div-add-mod' (u - s) i, mod_below (u - s) i counts)

  pub next_in_positive : 0 < next_in s u i
  next_in_positive = omega (arith, next_in_is, mod_below (u - s) i counts)

  -- not as far as the next one
  div_short : v - u < next_in s u i → (v - s) / i ≡ (u - s) / i
  div_short short =
      let is = next_in_is in
      let e : v - s ≡ (u - s) / i * i + ((u - s) % i + (v - u)) = omega (arith, div-add-mod' (u - s) i) in
      ap (λ x. x / i) e ∙ div-mul-add ((u - s) / i) i ((u - s) % i + (v - u)) (omega arith)

  -- as far as the next one, or further
  div_far : next_in s u i ≤ v - u → (v - s) / i ≡ (v - u - next_in s u i) / i + 1 + (u - s) / i
  div_far far =
      let is = next_in_is in
      let x = v - u - next_in s u i in
      let e : v - s ≡ (x / i + 1 + (u - s) / i) * i + x % i = omega (arith, div-add-mod' (u - s) i, div-add-mod' x i) in
      ap (λ y. y / i) e ∙ div-mul-add (x / i + 1 + (u - s) / i) i (x % i) (mod_below x i counts)

  pub fallen_jump : cond (ltb (v - u) (next_in s u i)) 0 ((v - u - next_in s u i) / i + 1) + (u - s) / i ≡ (v - s) / i
  fallen_jump = grind (arith, nat_tests, div_short, div_far)

  left_short : v - u < next_in s u i → next_in s u i - (v - u) ≡ next_in s v i
  left_short short = let d = div_short short in let is = next_in_is in rw d (omega arith)

  left_far : next_in s u i ≤ v - u → i - (v - u - next_in s u i) % i ≡ next_in s v i
  left_far far =
      let d = div_far far in
      let is = next_in_is in
      let x = v - u - next_in s u i in
      rw d (omega (arith, div-add-mod' (u - s) i, div-add-mod' x i, mod_below x i counts))

  pub left_jump : cond (ltb (v - u) (next_in s u i)) (next_in s u i - (v - u)) (i - (v - u - next_in s u i) % i) ≡ next_in s v i
  left_jump = grind (arith, nat_tests, left_short, left_far)

-- the same of a timer
module _ (m : Timer) (from to : ℕ) (made : m.made ≤ from) (later : from ≤ to) (counts : 0 < m.interval) where
  pub units_left-positive : 0 < units_left m from
  units_left-positive = next_in_positive _ _ _ _ (unit_of-mono m.kind m.made from made) (unit_of-mono m.kind from to later) counts

  pub used_jump : cond (ltb (unit_of m.kind to - unit_of m.kind from) (units_left m from)) 0
      ((unit_of m.kind to - unit_of m.kind from - units_left m from) / m.interval + 1) + used m from ≡ used m to
  used_jump = fallen_jump _ _ _ _ (unit_of-mono m.kind m.made from made) (unit_of-mono m.kind from to later) counts

  pub units_left_jump : cond (ltb (unit_of m.kind to - unit_of m.kind from) (units_left m from))
      (units_left m from - (unit_of m.kind to - unit_of m.kind from))
      (m.interval - (unit_of m.kind to - unit_of m.kind from - units_left m from) % m.interval) ≡ units_left m to
  units_left_jump = left_jump _ _ _ _ (unit_of-mono m.kind m.made from made) (unit_of-mono m.kind from to later) counts
