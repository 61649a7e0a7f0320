-- Numbers that go from 1: the items of lists by their numbers, and how one number compares with another.
use Rattle.std.specs.Prelude.{ℕ, zero, suc, ◌+◌, ◌-◌, ◌==◌, nat_lt, List, length, slice_get, if◌then◌else◌, Option, None}

-- the last version, request number and generation
abbrev pub last_number : ℕ
last_number = 4294967295

-- the item of this number, the first of which is 1
abbrev pub item_at : {X : Type 0} → List X → ℕ → Option X
item_at xs zero = None
item_at xs (suc place) = slice_get xs place

-- the last item, if there is one
abbrev pub last_item : {X : Type 0} → List X → Option X
last_item xs = slice_get xs (length xs - 1)

-- a function with one value replaced
abbrev pub set_at : {X : Type 0} → (ℕ → X) → ℕ → X → ℕ → X
set_at f i x j = if j == i then x else f j

-- how a number compares with the last one
pub data Place : Type 0 where
  Below : Place
  Same : Place
  Next : Place
  Above : Place

abbrev pub place_of : ℕ → ℕ → Place
place_of number last =
    if nat_lt number last then Below
    else if number == last then Same
    else if number == (last + 1) then Next
    else Above
