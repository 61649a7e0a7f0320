-- The spelling of a name, one byte after another.
use Rattle.std.proofs.Common.{◌≡◌, ◌∙◌, ℕ, ◌+◌, ◌<◌, List, [], ◌∷◌, ◌++◌, length, drop, ap, sym}
use Rattle.std.proofs.lemmas.List.{drop_more, append_assoc}
use Rattle.resolver.specs.Names.{lengths_in, octet_at}

-- the next byte, and those after it
lengths_in-next : (name : List ℕ) (i : ℕ) → i < length name
    → lengths_in (drop i name) ≡ octet_at i name ∷ lengths_in (drop (i + 1) name)
lengths_in-next name i within = ap lengths_in (drop_more name i 0 within)

-- one byte more is spelled
pub lengths_in-more : (old new name : List ℕ) (i octet : ℕ) (whole : List ℕ) → i < length name → octet ≡ octet_at i name
    → new ≡ old ++ octet ∷ [] → old ++ lengths_in (drop i name) ≡ whole → new ++ lengths_in (drop (i + 1) name) ≡ whole
lengths_in-more old new name i octet whole within is grown so_far =
    ap (λ items. items ++ lengths_in (drop (i + 1) name)) grown
    ∙ append_assoc old (octet ∷ []) (lengths_in (drop (i + 1) name))
    ∙ ap (λ b. old ++ b ∷ lengths_in (drop (i + 1) name)) is
    ∙ sym (ap (λ rest. old ++ rest) (lengths_in-next name i within))
    ∙ so_far
