-- Names of hosts, and how a query spells them (RFC 1035 sections 2.3.4 and 3.1; RFC 1123 section 2.1).
-- The bytes: 45 is '-', 46 is '.', 95 is '_'.
use Rattle.std.specs.Prelude.{ℕ, suc, ◌+◌, ◌-◌, ◌==◌, ◌&&◌, ◌||◌, not, nat_le, nat_lt, Bool, List, [], ◌∷◌, ◌++◌, length, take, drop, slice_index, if◌then◌else◌}
use Rattle.std.specs.List.{prefix_len}
use Rattle.std.specs.Char.{is_ascii_alphanumeric}

-- a dot at the end of a name says that it is whole; it is no part of the name
abbrev pub bare : List ℕ → List ℕ
bare name = if slice_index name (length name - 1) == 46 then take (length name - 1) name else name

-- letters, digits, '-', and '_' too, which some names have
abbrev pub is_label_byte : ℕ → Bool
is_label_byte b = is_ascii_alphanumeric b || (b == 45 || b == 95)

abbrev pub fits_label : ℕ → Bool
fits_label run = nat_lt 0 run && nat_le run 63

-- labels with dots between them; `run` bytes of the first one stand before this text
abbrev pub are_labels : ℕ → List ℕ → Bool
are_labels run [] = fits_label run
are_labels run (b ∷ bs) =
    if b == 46 then fits_label run && are_labels 0 bs else is_label_byte b && are_labels (suc run) bs

abbrev pub is_name : List ℕ → Bool
is_name name = nat_le (length name) 253 && are_labels 0 name

-- how many bytes the first label has
abbrev pub label_len : List ℕ → ℕ
label_len name = prefix_len (λ b. not (b == 46)) name

-- each label has its length before it: a dot becomes the length of the label after it
abbrev pub lengths_in : List ℕ → List ℕ
lengths_in [] = []
lengths_in (b ∷ bs) = (if b == 46 then label_len bs else b) ∷ lengths_in bs

-- the first label's length too, and the root's, which is 0, at the end
abbrev pub spelled : List ℕ → List ℕ
spelled name = label_len name ∷ (lengths_in name ++ 0 ∷ [])

-- the byte of `lengths_in` at a place
abbrev pub octet_at : ℕ → List ℕ → ℕ
octet_at place name = if slice_index name place == 46 then label_len (drop (place + 1) name) else slice_index name place
