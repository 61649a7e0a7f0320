-- The items of a mask's text (Eggdrop's Tcl commands document, "Bind"; the escape is this repository's own).
use Rattle.std.specs.Prelude.{ℕ, Bool, true, false, ◌==◌, ◌&&◌, ◌||◌, if◌then◌else◌, List, [], ◌∷◌, count_by}
use Rattle.wildmask.specs.declared.items.MaskKind.{MaskKind}
use Rattle.wildmask.specs.declared.items.MaskKind.TheVariants.{Bind, Host}
use Rattle.wildmask.specs.declared.items.Item.{Item}
use Rattle.wildmask.specs.declared.items.Item.TheVariants.{Literal, AnyByte, AnyText, NoSpace, Spaces}

abbrev pub is_bind : MaskKind → Bool
is_bind Bind = true
is_bind Host = false

-- the bytes that a backslash makes literal: ? * % ~ and the backslash, in both kinds of mask
abbrev pub is_special : ℕ → Bool
is_special b = b == 63 || b == 42 || b == 37 || b == 126 || b == 92

-- the item of a byte without a backslash: ? and * are special in both kinds, % and ~ only in bind masks
abbrev pub item_of : MaskKind → ℕ → Item
item_of mask_kind b =
    if b == 63 then AnyByte else
    (if b == 42 then AnyText else
    (if b == 37 && is_bind mask_kind then NoSpace else
    (if b == 126 && is_bind mask_kind then Spaces else Literal b)))

-- the items of a mask's text: a backslash before a special byte makes it a literal, and any other backslash is a
-- literal
abbrev pub items_of : MaskKind → List ℕ → List Item
items_of mask_kind [] = []
items_of mask_kind (b ∷ []) = item_of mask_kind b ∷ []
items_of mask_kind (b ∷ c ∷ text) =
    if b == 92 && is_special c then Literal c ∷ items_of mask_kind text else item_of mask_kind b ∷ items_of mask_kind (c ∷ text)

abbrev pub is_literal : Item → Bool
is_literal (Literal b) = true
is_literal AnyByte = false
is_literal AnyText = false
is_literal NoSpace = false
is_literal Spaces = false

-- the number of literal items: of two masks that match, the one with more says more about the text
abbrev pub literals_of : MaskKind → List ℕ → ℕ
literals_of mask_kind text = count_by is_literal (items_of mask_kind text)
