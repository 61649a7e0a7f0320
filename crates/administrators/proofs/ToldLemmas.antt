-- The lines of changes, one after another.
use Rattle.std.proofs.Common.{◌≡◌, ◌∙◌, ℕ, ◌+◌, ◌<◌, ◌≤◌, ◌++◌, List, [], ◌∷◌, length, drop, get_or, ap, arith, refl, subst, sym}
use Rattle.std.proofs.lemmas.List.{append_assoc, append-nil, drop_all, drop_more}
use Rattle.protocol.specs.Packets.{AcceptedChange}
use Rattle.userfile.specs.declared.change.Change.{Change}
use Rattle.administrators.specs.ToldChanges.{AreLines, IsLine, acceptance, change_line, edit_words, name_words}

-- the line of the next change
pub one_line_more : (first i : ℕ) (told : List AcceptedChange) (accepted : AcceptedChange) (so_far line new : List ℕ)
    → i < length told → accepted ≡ get_or told i accepted → IsLine (first + i) accepted line → new ≡ so_far ++ line
    → ((rest : List ℕ) → AreLines (first + i) (drop i told) rest → AreLines first told (so_far ++ rest))
    → (rest : List ℕ) → AreLines (first + (i + 1)) (drop (i + 1) told) rest → AreLines first told (new ++ rest)
unfolding AreLines
one_line_more first i told accepted so_far line new within here is grown before rest later =
    let those : accepted ∷ drop (i + 1) told ≡ drop i told =
    ap (λ it. it ∷ drop (i + 1) told) here ∙ sym (drop_more told i accepted within) in
    let next : first + (i + 1) ≡ first + i + 1 = omega arith in
    let whole : so_far ++ (line ++ rest) ≡ new ++ rest =
    sym (append_assoc so_far line rest) ∙ ap (λ text. text ++ rest) (sym grown) in
    subst (λ text. AreLines first told text) whole
    (before (line ++ rest)
    (subst (λ changes. AreLines (first + i) changes (line ++ rest)) those
    (line, rest, refl, is, subst (λ number. AreLines number (drop (i + 1) told) rest) next later)))

-- no change is left
pub all_lines : (first i : ℕ) (told : List AcceptedChange) (lines : List ℕ) → length told ≤ i
    → ((rest : List ℕ) → AreLines (first + i) (drop i told) rest → AreLines first told (lines ++ rest)) → AreLines first told lines
unfolding AreLines
all_lines first i told lines all before =
    subst (λ text. AreLines first told text) (append-nil lines)
    (before [] (subst (λ changes. AreLines (first + i) changes []) (sym (drop_all i told all)) refl))

-- the parts of a line
pub whole_line : (number bot : ℕ) (accepted : AcceptedChange) (change other : Change) (person words front named line : List ℕ)
    → bot ≡ accepted.origin → change ≡ accepted.change → other ≡ accepted.change
    → front ≡ acceptance number bot → named ≡ front ++ name_words change.by person → line ≡ named ++ edit_words other.edit words
    → line ≡ change_line number accepted person words
whole_line number bot accepted change other person words front named line bot_is change_is other_is front_is named_is line_is =
    line_is
    ∙ ap (λ text. text ++ edit_words other.edit words) (named_is ∙ ap (λ text. text ++ name_words change.by person) front_is)
    ∙ append_assoc (acceptance number bot) (name_words change.by person) (edit_words other.edit words)
    ∙ ap (λ it. acceptance number it ++ (name_words change.by person ++ edit_words other.edit words)) bot_is
    ∙ ap (λ (it : Change). acceptance number accepted.origin ++ (name_words it.by person ++ edit_words other.edit words)) change_is
    ∙ ap (λ (it : Change). acceptance number accepted.origin ++ (name_words accepted.change.by person ++ edit_words it.edit words)) other_is
