-- Which messages a line can carry, as a test of their parts.
use Rattle.std.specs.Prelude.{ℕ, Bool, true, List, [], ◌∷◌, ◌&&◌, ◌||◌, ◌==◌, nat_le, length}
use Rattle.std.specs.List.{list_all}
use Rattle.ircline.specs.declared.message.Message.{Message}
use Rattle.ircline.specs.Classes.{filled, digit, middle, trailing, names}
use Rattle.ircline.specs.Printing.{canonical}

-- a letter in upper case
abbrev pub capital : ℕ → Bool
capital b = nat_le 65 b && nat_le b 90

-- a command as messages keep it: 1*capital / 3digit
abbrev pub kept_command : List ℕ → Bool
kept_command text = (filled text && list_all capital text) || (length text == 3 && list_all digit text)

-- a prefix, or none
abbrev pub carries_prefix : List ℕ → Bool
carries_prefix [] = true
carries_prefix (b ∷ bs) = names (b ∷ bs)

-- parameters, each a middle one except the last
abbrev pub carries_params : List (List ℕ) → Bool
carries_params [] = true
carries_params (param ∷ []) = trailing param
carries_params (param ∷ next ∷ params) = middle param && carries_params (next ∷ params)

-- a line can carry each of the parts, and the canonical line isn't too long
abbrev pub carries : Message → Bool
carries message =
    kept_command message.command && (carries_prefix message.prefix && (nat_le (length message.params) 15
    && (carries_params message.params && nat_le (length (canonical message)) 510)))
