-- What an `or` of two tests says of each.
use Rattle.std.proofs.Common.{◌≡◌, Bool, true, false, ◌||◌, not, refl}

pub or-parts : (a b : Bool) → (a || b) ≡ false → (a ≡ false) × (b ≡ false)
or-parts true b is = cc
or-parts false b is = (refl, is)

pub or-left : (a b : Bool) → a ≡ true → (a || b) ≡ true
or-left true b is = refl
or-left false b is = cc

pub or-right : (a b : Bool) → b ≡ true → (a || b) ≡ true
or-right true b is = refl
or-right false b is = is

pub not-false : (b : Bool) → not b ≡ false → b ≡ true
not-false true is = refl
not-false false is = cc
