-- Whether a packet is a leaf's own, by who says it.
use Rattle.std.proofs.Common.{◌≡◌, ◌↔◌, ℕ, Bool, true, false, Option, Some, None, refl, arith}
use Rattle.std.proofs.lemmas.Bool.Decides.{nat_tests}
use Rattle.peers.specs.Speakers.{is_leaf}

pub own_said : (leaf : ℕ) (speaker : Option ℕ) (said : Bool)
    → (said ≡ true) ↔ (speaker ≡ Some leaf) → said ≡ is_leaf leaf speaker
own_said leaf None true both = let some : None ≡ Some leaf = both.0 refl in absurd cc
own_said leaf None false both = refl
own_said leaf (Some n) true both = let same : Some n ≡ Some leaf = both.0 refl in grind (arith, nat_tests)
own_said leaf (Some n) false both = grind (arith, nat_tests, both.1)
