-- The literals at the end of a mask, and the ends of texts, as keys: a mask is looked up by its tail.
use Rattle.std.specs.Prelude.{ℕ, ◌-◌, Bool, ◌&&◌, not, nat_le, min, List, [], ◌∷◌, ◌++◌, length, drop, replicate}
use Rattle.std.specs.List.{list_any, suffix_len}
use Rattle.rfccase.specs.Casemapping.{folded}
use Rattle.wildmask.specs.declared.items.Item.{Item}
use Rattle.wildmask.specs.declared.items.Item.TheVariants.{Literal, AnyByte, AnyText, NoSpace, Spaces}
use Rattle.wildmask.specs.Items.{is_literal, is_special}

-- the last `n` bytes of a text; all, if it has fewer
abbrev pub last : ℕ → List ℕ → List ℕ
last n text = drop (length text - n) text

-- a short text, padded with zeros to 16 bytes
abbrev pub padded : List ℕ → List ℕ
padded xs = xs ++ replicate (16 - length xs) 0

-- the bytes of the literals among items
abbrev pub bytes_of : List Item → List ℕ
bytes_of [] = []
bytes_of (Literal b ∷ items) = b ∷ bytes_of items
bytes_of (AnyByte ∷ items) = bytes_of items
bytes_of (AnyText ∷ items) = bytes_of items
bytes_of (NoSpace ∷ items) = bytes_of items
bytes_of (Spaces ∷ items) = bytes_of items

-- the key of a text's last `n` bytes, 16 at most: their lower cases
abbrev pub end_key : ℕ → List ℕ → List ℕ
end_key n text = folded (last (min n 16) text)

-- the number of items up to the last special one
abbrev pub front_len : List Item → ℕ
front_len items = length items - suffix_len is_literal items

-- a mask's text ends with 16 bytes that are literals, whatever comes before them
abbrev pub ends_plainly : List ℕ → Bool
ends_plainly text = nat_le 16 (length text) && not (list_any is_special (last 16 text))

-- the tail of items: the lower cases of the literals after the last special item, the last 16 at most
abbrev pub tail_of : List Item → List ℕ
tail_of items = end_key 16 (bytes_of (drop (front_len items) items))
