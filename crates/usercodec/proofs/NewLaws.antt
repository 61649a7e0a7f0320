-- Lists whose items are each unlike those before them: nothing is there twice.
use Rattle.std.proofs.Common.{◌≡◌, Bool, true, false, ◌&&◌, List, [], ◌∷◌, ◌++◌, refl, sym, ap, ◌∙◌}
use Rattle.std.specs.Prelude.{not}
use Rattle.std.specs.List.{list_any, list_all}
use Rattle.std.proofs.lemmas.List.{append-nil}
use Rattle.userfile.specs.Together.{repeats}
use Rattle.userfile.proofs.RepeatLemmas.{or_false, or_both, and_true, and_both, repeats-push}
use Rattle.usercodec.proofs.ItemLaws.{AllGood, moved}

-- an item that passes its test and is unlike those that are held
abbrev pub IsNew : {A : Type 0} → (A → Bool) → (A → A → Bool) → List A → A → Type 0
IsNew test same held x = (test x ≡ true) × (not (list_any (same x) held) ≡ true)

pub not_true : (b : Bool) → not b ≡ true → b ≡ false
not_true true e = cc
not_true false e = refl

pub not_false : (b : Bool) → b ≡ false → not b ≡ true
not_false true e = cc
not_false false e = refl

none_at : {A : Type 0} (q : A → Bool) (before : List A) (x : A) (after : List A) → list_any q (before ++ x ∷ after) ≡ false → q x ≡ false
none_at q [] x after e = (or_false e).0
none_at q (y ∷ before) x after e = none_at q before x after (or_false e).1

none_before : {A : Type 0} (same : A → A → Bool) → ((x y : A) → same x y ≡ same y x) → (before : List A) (x : A) (after : List A)
    → repeats same (before ++ x ∷ after) ≡ false → list_any (same x) before ≡ false
none_before same symmetric [] x after e = refl
none_before same symmetric (y ∷ before) x after e =
    or_both (symmetric x y ∙ none_at (same y) before x after (or_false e).0) (none_before same symmetric before x after (or_false e).1)

pub all_new : {A : Type 0} (test : A → Bool) (same : A → A → Bool) → ((x y : A) → same x y ≡ same y x) → (held xs : List A)
    → AllGood (IsNew test same) held xs → repeats same held ≡ false → (list_all test xs ≡ true) × (repeats same (held ++ xs) ≡ false)
all_new test same symmetric held [] good once = (refl, ap (repeats same) (append-nil held) ∙ once)
all_new test same symmetric held (x ∷ xs) good once =
    let unlike = not_true (list_any (same x) held) good.0.1 in
    let rest = all_new test same symmetric (held ++ x ∷ []) xs good.1 (repeats-push same symmetric held x once unlike) in
    (and_both good.0.0 rest.0, ap (repeats same) (sym (moved held x xs)) ∙ rest.1)

pub were_new : {A : Type 0} (test : A → Bool) (same : A → A → Bool) → ((x y : A) → same x y ≡ same y x) → (held xs : List A)
    → list_all test xs ≡ true → repeats same (held ++ xs) ≡ false → AllGood (IsNew test same) held xs
were_new test same symmetric held [] pass once = tt
were_new test same symmetric held (x ∷ xs) pass once =
    let unlike = none_before same symmetric held x xs once in (
      ((and_true pass).0, not_false (list_any (same x) held) unlike),
      were_new test same symmetric (held ++ x ∷ []) xs (and_true pass).1 (ap (repeats same) (moved held x xs) ∙ once),
    )

-- ---- two tests at once

pub both_all : {A : Type 0} (p q : A → Bool) (xs : List A) → list_all (λ x. p x && q x) xs ≡ true → (list_all p xs ≡ true) × (list_all q xs ≡ true)
both_all p q [] e = (refl, refl)
both_all p q (x ∷ xs) e =
    let here = and_true (and_true e).0 in
    let rest = both_all p q xs (and_true e).1 in
    (and_both here.0 rest.0, and_both here.1 rest.1)

pub all_both : {A : Type 0} (p q : A → Bool) (xs : List A) → list_all p xs ≡ true → list_all q xs ≡ true → list_all (λ x. p x && q x) xs ≡ true
all_both p q [] e f = refl
all_both p q (x ∷ xs) e f =
    let first : (p x ≡ true) × (list_all p xs ≡ true) = and_true e in
    let second : (q x ≡ true) × (list_all q xs ≡ true) = and_true f in
    and_both (and_both first.0 second.0) (all_both p q xs first.1 second.1)
