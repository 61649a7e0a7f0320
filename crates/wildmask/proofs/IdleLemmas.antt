-- A byte that left the places among a mask's items as they were does so again.
use Rattle.std.proofs.Common.{◌≡◌, ◌↔◌, ℕ, List, ◌∷◌, Option, None, Some, subst, sym}
use Rattle.std.specs.Prelude.{MatchOption}
use Rattle.wildmask.specs.declared.items.Item.{Item}
use Rattle.wildmask.specs.Walks.{MatchesFrom, IsIdle}
use Rattle.rfccase.specs.declared.casemappings.Casemapping.{Casemapping}

pub idle_after : (mapping : Casemapping) (items : List Item) (before after byte : ℕ) (idle : Option ℕ) → MatchOption idle (Unit {0}) (λ known. (known ≡ byte) × (before ≡ after))
    → ((text : List ℕ) → MatchesFrom mapping 0 items before (byte ∷ text) ↔ MatchesFrom mapping 0 items after text) → IsIdle mapping items after idle
idle_after mapping items before after byte None is moved = tt
idle_after mapping items before after byte (Some known) is moved = λ text.
    subst (λ (b : ℕ). MatchesFrom mapping 0 items after (b ∷ text) ↔ MatchesFrom mapping 0 items after text) (sym is.0)
    (subst (λ (p : ℕ). MatchesFrom mapping 0 items p (byte ∷ text) ↔ MatchesFrom mapping 0 items after text) is.1 (moved text))
