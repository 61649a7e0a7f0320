-- A set of places among the items of a mask, moved over a text one byte at a time.
use Rattle.std.specs.Prelude.{◌≡◌, ◌↔◌, ◌⊎◌, ℕ, ◌+◌, ◌≤◌, ◌<◌, Bool, true, false, not, ◌==◌, List, [], ◌∷◌, length, drop, get_or, Option, None, Some}
use Rattle.std.specs.Int.{bit_at}
use Rattle.wildmask.specs.declared.items.Item.{Item}
use Rattle.wildmask.specs.declared.items.Item.TheVariants.{Literal, AnyByte, AnyText, NoSpace, Spaces}
use Rattle.wildmask.specs.Codes.{lower}
use Rattle.wildmask.specs.Matching.{Matches}
use Rattle.rfccase.specs.declared.casemappings.Casemapping.{Casemapping}

-- the set has a place, at least `from`, from which on the items match the text
abbrev pub MatchesFrom : Casemapping → ℕ → List Item → ℕ → List ℕ → Type 0
MatchesFrom mapping from items places text =
    (p : ℕ) × ((from ≤ p) × (p ≤ length items) × (bit_at places p ≡ 1) × Matches mapping (drop p items) text)

-- a byte that is known to leave the places as they are, if there is one
abbrev pub IsIdle : Casemapping → List Item → ℕ → Option ℕ → Type 0
IsIdle mapping items places None = Unit {0}
IsIdle mapping items places (Some byte) = (text : List ℕ) → MatchesFrom mapping 0 items places (byte ∷ text) ↔ MatchesFrom mapping 0 items places text

-- whether an item can take the empty text
abbrev pub may_be_empty : Item → Bool
may_be_empty (Literal b) = false
may_be_empty AnyByte = false
may_be_empty AnyText = true
may_be_empty NoSpace = true
may_be_empty Spaces = false

-- whether an item takes exactly one byte
abbrev pub takes_one : Item → Bool
takes_one (Literal b) = true
takes_one AnyByte = true
takes_one AnyText = false
takes_one NoSpace = false
takes_one Spaces = false

-- whether a piece that an item takes may begin with a byte whose lower case is `lower`
abbrev pub takes_byte : Item → ℕ → Bool
takes_byte (Literal b) lower = b == lower
takes_byte AnyByte lower = true
takes_byte AnyText lower = true
takes_byte NoSpace lower = not (lower == 32)
takes_byte Spaces lower = lower == 32

-- what is left to match after an item took a byte: the item may take more, be done, or either
abbrev pub MatchesAfter : Casemapping → Item → List Item → List ℕ → Type 0
MatchesAfter mapping (Literal b) others text = Matches mapping others text
MatchesAfter mapping AnyByte others text = Matches mapping others text
MatchesAfter mapping AnyText others text = Matches mapping (AnyText ∷ others) text
MatchesAfter mapping NoSpace others text = Matches mapping (NoSpace ∷ others) text
MatchesAfter mapping Spaces others text = Matches mapping (Spaces ∷ others) text ⊎ Matches mapping others text

-- if the item at a place of the set can take the empty text, the next place is in the set too
abbrev pub IsClosed : List Item → ℕ → Type 0
IsClosed items places =
    (p : ℕ) → p < length items → bit_at places p ≡ 1 → may_be_empty (get_or items p AnyByte) ≡ true → bit_at places (p + 1) ≡ 1

-- each literal among the items is in lower case
abbrev pub AllLower : Casemapping → List Item → Type 0
AllLower mapping [] = Unit {0}
AllLower mapping (item ∷ items) = (lower mapping item ≡ item) × AllLower mapping items

-- each item takes exactly one byte
abbrev pub AllOne : List Item → Type 0
AllOne [] = Unit {0}
AllOne (item ∷ items) = (takes_one item ≡ true) × AllOne items
