-- Lists of names, as servers write them: a byte stands between two items, and a value may follow a name after '=' (61).
use Rattle.std.specs.Prelude.{ℕ, ◌==◌, ◌&&◌, ◌||◌, Bool, true, List, [], ◌∷◌, length, take, drop, Option, Some, None, is_some, if◌then◌else◌}
use Rattle.std.specs.Str.{bytes_eq}

-- whether an item's name ends here
abbrev pub ends_item : ℕ → List ℕ → Bool
ends_item between [] = true
ends_item between (b ∷ bs) = b == between || b == 61

-- whether a list begins with an item of this name
abbrev pub begins_item : ℕ → List ℕ → List ℕ → Bool
begins_item between name list = bytes_eq (take (length name) list) name && ends_item between (drop (length name) list)

-- what follows the name of the first such item that stands after the byte
abbrev pub tail_after : ℕ → List ℕ → List ℕ → Option (List ℕ)
tail_after between name [] = None
tail_after between name (b ∷ bs) =
    if b == between && begins_item between name bs then Some (drop (length name) bs) else tail_after between name bs

-- what follows the name of the first such item
abbrev pub item_tail : ℕ → List ℕ → List ℕ → Option (List ℕ)
item_tail between name list =
    if begins_item between name list then Some (drop (length name) list) else tail_after between name list

abbrev pub has_item : ℕ → List ℕ → List ℕ → Bool
has_item between name list = is_some (item_tail between name list)
