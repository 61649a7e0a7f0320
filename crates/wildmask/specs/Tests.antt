-- Whether items match a text, as a test that computes. The clauses of `Mask::matches` say that it agrees with the
-- relation.
use Rattle.std.specs.Prelude.{ℕ, zero, suc, Bool, true, not, ◌==◌, ◌&&◌, ◌||◌, nat_lt, List, [], ◌∷◌, length, take, drop}
use Rattle.std.specs.List.{list_all}
use Rattle.rfccase.specs.Casemapping.{is_same_by}
use Rattle.rfccase.specs.declared.casemappings.Casemapping.{Casemapping}
use Rattle.wildmask.specs.declared.items.Item.{Item}
use Rattle.wildmask.specs.declared.items.Item.TheVariants.{Literal, AnyByte, AnyText, NoSpace, Spaces}

-- whether an item takes a text
abbrev pub takes : Casemapping → Item → List ℕ → Bool
takes mapping (Literal b) text = is_same_by mapping text (b ∷ [])
takes mapping AnyByte text = length text == 1
takes mapping AnyText text = true
takes mapping NoSpace text = list_all (λ c. not (c == 32)) text
takes mapping Spaces text = nat_lt 0 (length text) && list_all (λ c. c == 32) text

-- whether a test passes for any number up to this one
abbrev pub some_upto : (ℕ → Bool) → ℕ → Bool
some_upto test zero = test 0
some_upto test (suc n) = test (suc n) || some_upto test n

-- whether items match a text: for some cut the first takes what is before it, and the others match the rest
abbrev pub items_match : Casemapping → List Item → List ℕ → Bool
items_match mapping [] text = length text == 0
items_match mapping (item ∷ others) text = some_upto (λ cut. takes mapping item (take cut text) && items_match mapping others (drop cut text)) (length text)
