-- The last parameter of a line that is passed on, and the line as the canonical one of a message.
use Rattle.std.proofs.Common.{◌≡◌, ℕ, ◌+◌, ◌-◌, ◌<◌, ◌≤◌, Bool, true, false, ◌&&◌, cond, nat_le, List, [], ◌∷◌, ◌++◌, length, take, refl, sym, ◌∙◌, ap, subst, append_assoc, inl, inr, arith}
use Rattle.std.specs.List.{flat_map}
use Rattle.std.proofs.lemmas.Bool.{cases_eq, leb-true}
use Rattle.std.proofs.lemmas.Bool.Decides.{nat_tests}
use Rattle.std.proofs.lemmas.List.{append-nil, length-take}
use Rattle.ircline.specs.Classes.{filled}
use Rattle.ircline.specs.Printing.{wants_colon, last_text, params_text, canonical}
use Rattle.miniircd.specs.Lines.{cut, head, relayed, IsLongest}

-- ---- the length of a last parameter with its space

with_colon : (param : List ℕ) → wants_colon param ≡ true → length (last_text param) ≡ 2 + length param
with_colon param is = ap (λ b. length (32 ∷ cond b (58 ∷ param) param)) is ∙ omega arith

without_colon : (param : List ℕ) → wants_colon param ≡ false → length (last_text param) ≡ 1 + length param
without_colon param is = ap (λ b. length (32 ∷ cond b (58 ∷ param) param)) is ∙ omega arith

at_least_by : (param : List ℕ) (b : Bool) → wants_colon param ≡ b → 1 + length param ≤ length (last_text param)
at_least_by param true is = omega (arith, with_colon param is)
at_least_by param false is = omega (arith, without_colon param is)

at_most_by : (param : List ℕ) (b : Bool) → wants_colon param ≡ b → length (last_text param) ≤ 2 + length param
at_most_by param true is = omega (arith, with_colon param is)
at_most_by param false is = omega (arith, without_colon param is)

-- ---- the longest front

-- what fits is no longer than its room
fits : (room k : ℕ) (last : List ℕ) → k ≤ length last → length (last_text (take k last)) ≤ room + 1 → k ≤ room
fits room k last less fit =
    omega (arith, at_least_by (take k last) (wants_colon (take k last)) refl, length-take k last)

shorter : (room : ℕ) (last : List ℕ) → 1 ≤ room → wants_colon (take room last) ≡ true → room ≤ length last
    → IsLongest room last (take (room - 1) last)
shorter room last some colon long =
    let front = take (room - 1) last in (
      omega (arith, at_most_by front (wants_colon front) refl, length-take (room - 1) last),
      λ k less fit. elim (cases_eq k room) [
        | inl same ↦
            let there = subst (λ j. length (last_text (take j last)) ≤ room + 1) same fit in
            absurd (omega (arith, there, with_colon (take room last) colon, length-take room last))
        | inr differs ↦ omega (arith, fits room k last less fit, length-take (room - 1) last, differs)
      ],
    )

whole : (room : ℕ) (last : List ℕ) → length (last_text (take room last)) ≤ room + 1 → IsLongest room last (take room last)
whole room last fit = (fit, λ k less there. omega (arith, fits room k last less there, length-take room last))

cut_by : (room : ℕ) (last : List ℕ) (b c : Bool) → 1 ≤ room → wants_colon (take room last) ≡ b → nat_le room (length last) ≡ c
    → IsLongest room last (cond (b && c) (take (room - 1) last) (take room last))
cut_by room last true true some colon long = shorter room last some colon (leb-true room (length last) long)
cut_by room last true false some colon long =
    let less : length last < room = grind (arith, nat_tests) in
    whole room last (omega (arith, less, at_most_by (take room last) true colon, length-take room last))
cut_by room last false c some colon long =
    whole room last (omega (arith, without_colon (take room last) colon, length-take room last))

pub cut_longest : (room : ℕ) (last : List ℕ) → 1 ≤ room → IsLongest room last (cut room last)
cut_longest room last some = cut_by room last (wants_colon (take room last)) (nat_le room (length last)) some refl refl

-- ---- the canonical line

params_text-last : (middles : List (List ℕ)) (last : List ℕ)
    → params_text (middles ++ last ∷ []) ≡ flat_map (λ word. 32 ∷ word) middles ++ last_text last
params_text-last [] last = refl
params_text-last (word ∷ []) last = ap (λ front. (32 ∷ front) ++ last_text last) (sym (append-nil word))
params_text-last (word ∷ next ∷ middles) last =
    ap (λ text. 32 ∷ (word ++ text)) (params_text-last (next ∷ middles) last)
    ∙ sym (append_assoc (32 ∷ word) (flat_map (λ w. 32 ∷ w) (next ∷ middles)) (last_text last))

pub relayed_canonical : (source command last : List ℕ) (middles : List (List ℕ)) → filled source ≡ true
    → let words = flat_map (λ word. 32 ∷ word) middles in
    relayed source command words last
    ≡ canonical (record { prefix = source; command = command; params = middles ++ cut (509 - length (head source command words)) last ∷ []; rest = [] })
relayed_canonical [] command last middles there = cc
relayed_canonical (b ∷ bs) command last middles there =
    let words = flat_map (λ word. 32 ∷ word) middles in
    let front = 58 ∷ ((b ∷ bs) ++ 32 ∷ []) in
    let short = cut (509 - length (head (b ∷ bs) command words)) last in
    append_assoc (front ++ command) words (last_text short) ∙ append_assoc front command (words ++ last_text short)
    ∙ ap (λ text. front ++ (command ++ text)) (sym (params_text-last middles short))
