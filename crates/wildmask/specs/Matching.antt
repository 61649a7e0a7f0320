-- Which texts a mask matches.
use Rattle.std.specs.Prelude.{◌≡◌, ◌≢◌, ℕ, ◌<◌, ◌≤◌, List, [], ◌∷◌, length, take, drop, All}
use Rattle.rfccase.specs.Casemapping.{IsSameBy}
use Rattle.rfccase.specs.declared.casemappings.Casemapping.{Casemapping}
use Rattle.wildmask.specs.declared.items.Item.{Item}
use Rattle.wildmask.specs.declared.items.Item.TheVariants.{Literal, AnyByte, AnyText, NoSpace, Spaces}

-- the texts that an item takes, in the order of the items below: one byte that is the same by casemapping, any one
-- byte, any text, any text without a space, one or more spaces
abbrev pub Takes : Casemapping → Item → List ℕ → Type 0
Takes mapping (Literal b) text = IsSameBy mapping text (b ∷ [])
Takes mapping AnyByte text = length text ≡ 1
Takes mapping AnyText text = Unit {0}
Takes mapping NoSpace text = All (λ c. c ≢ 32) text
Takes mapping Spaces text = (0 < length text) × All (λ c. c ≡ 32) text

-- an empty list of items matches only the empty text; an item before others matches a text if, for some cut, the item
-- takes what is before the cut and the others match what is after it
abbrev pub Matches : Casemapping → List Item → List ℕ → Type 0
Matches mapping [] text = text ≡ []
Matches mapping (item ∷ others) text =
    (cut : ℕ) × ((cut ≤ length text) × Takes mapping item (take cut text) × Matches mapping others (drop cut text))
