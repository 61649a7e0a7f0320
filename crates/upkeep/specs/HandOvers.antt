-- When a hub is not handed over, and how a hand-over stands.
use Rattle.std.specs.Prelude.{ℕ, nat_le, Bool, true, false, not, if◌then◌else◌, Option, None, Some}
use Rattle.upkeep.specs.declared.hand_over.HandOverState.{HandOverState}
use Rattle.upkeep.specs.declared.hand_over.HandOverState.TheVariants.{Waits, HandedOver, TooLate}
use Rattle.upkeep.specs.declared.hand_over.NoHandOver.{NoHandOver}
use Rattle.upkeep.specs.declared.hand_over.NoHandOver.TheVariants.{NoHub, NoLeaf, InDoubt, NotLinked}

-- the first reason that applies: this is a hub with leaves, the leaf is one of them, the hub may be an older copy of
-- itself, the leaf is linked
abbrev pub refusal_of : Bool → Bool → Bool → Bool → Option NoHandOver
refusal_of is_hub is_leaf in_doubt is_linked =
    if not is_hub then Some NoHub
    else (if not is_leaf then Some NoLeaf else (if in_doubt then Some InDoubt else (if not is_linked then Some NotLinked else None)))

-- a leaf that has all changes has the hub's place, also at the second at which the hub gives up
abbrev pub state_at : Bool → ℕ → ℕ → HandOverState
state_at true until now = HandedOver
state_at false until now = if nat_le until now then TooLate else Waits
