-- Which pairs of adjacent bytes a text has, and which a mask needs, as sets of 128 places (our own choice).
use Rattle.std.specs.Prelude.{ℕ, ◌+◌, ◌-◌, ◌*◌, ◌%◌, ◌^◌, Bool, true, ◌==◌, ◌&&◌, nat_lt, if◌then◌else◌, Option, Some, None, List, [], ◌∷◌, bit_and, bit_or}
use Rattle.rfccase.specs.Casemapping.{low, folded}
use Rattle.wildmask.specs.declared.items.Item.{Item}
use Rattle.wildmask.specs.declared.items.Item.TheVariants.{Literal, AnyByte, AnyText, NoSpace, Spaces}

-- a set of places: those below 64 as the bits of one number, and the others, less 64, as the bits of another
pub record Pairs : Type 0 where
  pub first : ℕ
  pub second : ℕ

abbrev pub no_pairs : Pairs
no_pairs = record { first = 0; second = 0 }

-- the union of two sets
abbrev pub either : Pairs → Pairs → Pairs
either a b = record { first = bit_or a.first b.first; second = bit_or a.second b.second }

-- the place of a pair of lower cases; several pairs share one
abbrev pub place_of : ℕ → ℕ → ℕ
place_of a b = (a + b * 23) % 128

abbrev pub pair : ℕ → ℕ → Pairs
pair a b = record {
  first = if nat_lt (place_of a b) 64 then 2 ^ place_of a b else 0;
  second = if nat_lt (place_of a b) 64 then 0 else 2 ^ (place_of a b - 64);
}

-- which pairs a set is to have, by the sum that gives a pair its place
abbrev pub Sums : Type 0
Sums = ℕ → Bool

abbrev pub every : Sums
every sum = true

-- a pair, if the set is to have it
abbrev pub pair_if : Sums → ℕ → ℕ → Pairs
pair_if sums a b = if sums (a + b * 23) then pair a b else no_pairs

-- the places of the pairs of adjacent bytes
abbrev pub pairs_of : Sums → List ℕ → Pairs
pairs_of sums [] = no_pairs
pairs_of sums (a ∷ []) = no_pairs
pairs_of sums (a ∷ b ∷ text) = either (pair_if sums a b) (pairs_of sums (b ∷ text))

-- the pairs that a text has, in lower case
abbrev pub text_signature : List ℕ → Pairs
text_signature text = pairs_of every (folded text)

-- the lower case of a literal
abbrev pub lower_literal : Item → Option ℕ
lower_literal (Literal b) = Some (low b)
lower_literal AnyByte = None
lower_literal AnyText = None
lower_literal NoSpace = None
lower_literal Spaces = None

-- the pair of two lower cases; without one of them, none
abbrev pub pair_of : Sums → Option ℕ → Option ℕ → Pairs
pair_of sums (Some a) (Some b) = pair_if sums a b
pair_of sums (Some a) None = no_pairs
pair_of sums None b = no_pairs

-- the pair that two adjacent items need: that of two literals; with a special item, none
abbrev pub needed : Sums → Item → Item → Pairs
needed sums a b = pair_of sums (lower_literal a) (lower_literal b)

-- the pairs that a mask with these items needs
abbrev pub pairs_needed : Sums → List Item → Pairs
pairs_needed sums [] = no_pairs
pairs_needed sums (a ∷ []) = no_pairs
pairs_needed sums (a ∷ b ∷ items) = either (needed sums a b) (pairs_needed sums (b ∷ items))

abbrev pub items_signature : List Item → Pairs
items_signature items = pairs_needed every items

-- whether the second set has each place of the first
abbrev pub is_within : Pairs → Pairs → Bool
is_within needs has = (bit_and needs.first has.first == needs.first) && (bit_and needs.second has.second == needs.second)

-- whether two sets are equal
abbrev pub same_pairs : Pairs → Pairs → Bool
same_pairs a b = (a.first == b.first) && (a.second == b.second)
