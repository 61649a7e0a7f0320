-- Lists of entries, and the lists of their timers.
use Rattle.std.proofs.Common.{◌≡◌, ℕ, suc, zero, ◌<◌, ◌≤◌, Bool, true, false, cond, ltb, eqb, ◌||◌, List, [], ◌∷◌, map, filter}
use Rattle.std.proofs.Common.{length, take, drop, get_or, ◌++◌, Option, Some, None, unwrap_or, All, arith, ap, ◌∙◌, sym, refl, inl, inr}
use Rattle.std.specs.List.{list_any}
use Rattle.std.proofs.lemmas.Bool.{cases_Bool}
use Rattle.std.proofs.lemmas.Bool.Decides.{nat_tests}
use Rattle.std.proofs.lemmas.List.{length-map, take-append-le, take_all}
use Rattle.std.proofs.lemmas.List.Elements.{All-filter, All-map, filter_agree, filter_passes}
use Rattle.bottimers.specs.declared.timer.Timer.{Timer}
use Rattle.bottimers.specs.declared.timer.TimerKind.{TimerKind}
use Rattle.bottimers.specs.declared.entry.Entry.{Entry}
use Rattle.bottimers.specs.Occurrences.{is_due_of, is_kept, repeats_left}
use Rattle.bottimers.specs.Held.{call_of, IsAbove, IsNotBelow}
use Rattle.bottimers.specs.Countdown.{IsRunning, IsRunningAt, counted, due_calls}

pub map-cond : {A B : Type 0} (f : A → B) (b : Bool) (xs ys : List A) → map f (cond b xs ys) ≡ cond b (map f xs) (map f ys)
map-cond f true xs ys = refl
map-cond f false xs ys = refl

-- a filter of what f gives
pub filter-map : {A B : Type 0} (q : B → Bool) (f : A → B) (xs : List A) → filter q (map f xs) ≡ map f (filter (λ x. q (f x)) xs)
filter-map q f [] = refl
filter-map q f (x ∷ xs) =
    ap (λ ys. cond (q (f x)) (f x ∷ ys) ys) (filter-map q f xs) ∙ sym (map-cond f (q (f x)) (x ∷ filter (λ x. q (f x)) xs) (filter (λ x. q (f x)) xs))

pub list_any-map : {A B : Type 0} (q : B → Bool) (f : A → B) (xs : List A) → list_any q (map f xs) ≡ list_any (λ x. q (f x)) xs
list_any-map q f [] = refl
list_any-map q f (x ∷ xs) = ap (λ b. q (f x) || b) (list_any-map q f xs)

pub map-map : {A B C : Type 0} (g : B → C) (f : A → B) (xs : List A) → map g (map f xs) ≡ map (λ x. g (f x)) xs
map-map g f [] = refl
map-map g f (x ∷ xs) = ap (λ ys. g (f x) ∷ ys) (map-map g f xs)

-- what has counted down to its last occurrence has none to come
kept_same : (t : ℕ) (m : Timer) → (eqb m.count 0 || ltb 0 (repeats_left m t)) ≡ is_kept t m
kept_same t m = grind (arith, nat_tests)

pub kept_counted : (t : ℕ) (xs : List Entry) → filter (λ e. eqb e.timer.count 0 || ltb 0 e.repeats) (map (counted t) xs)
    ≡ map (counted t) (filter (λ e. is_kept t e.timer) xs)
kept_counted t xs =
    filter-map (λ e. eqb e.timer.count 0 || ltb 0 e.repeats) (counted t) xs
    ∙ ap (map (counted t)) (filter_agree (λ e. eqb e.timer.count 0 || ltb 0 (repeats_left e.timer t)) (λ e. is_kept t e.timer) (λ e. kept_same t e.timer) xs)

-- the timers that are left
pub timers_kept : (t : ℕ) (xs : List Entry) → map (λ e. e.timer) (map (counted t) (filter (λ e. is_kept t e.timer) xs))
    ≡ filter (is_kept t) (map (λ e. e.timer) xs)
timers_kept t xs =
    map-map (λ e. e.timer) (counted t) (filter (λ e. is_kept t e.timer) xs) ∙ sym (filter-map (is_kept t) (λ e. e.timer) xs)

-- what is left runs
pub running_kept : (from t : ℕ) (xs : List Entry) → All (λ e. IsRunning from e × (from ≤ t)) xs
    → All (IsRunning t) (map (counted t) (filter (λ e. is_kept t e.timer) xs))
running_kept from t xs all =
    let some = All-filter (λ e. is_kept t e.timer) (λ e. IsRunning from e × (from ≤ t)) xs all in
    let kept = filter_passes (λ (e : Entry). is_kept t e.timer) xs in
    All-map (IsRunning t) (counted t) (filter (λ e. is_kept t e.timer) xs)
    (λ k d l.
    let r = some k d l in
    record {
      counts = r.0.counts;
      made = omega (arith, r.0.made, r.1);
      left = refl;
      repeats = refl;
      kept = kept k d l;
    })

-- each runs at the last second given, and what comes next is later
pub running_above : (last : Option ℕ) (t : ℕ) (xs : List Entry) → IsAbove last t → All (IsRunningAt last) xs
    → All (λ e. IsRunning (unwrap_or last 0) e × (unwrap_or last 0 < t)) xs
running_above None t xs above all = λ k d l. absurd (all k d l)
running_above (Some last) t xs above all = λ k d l. (all k d l, above)

pub running_not_below : (last : Option ℕ) (t : ℕ) (xs : List Entry) → IsNotBelow last (Some t) → All (IsRunningAt last) xs
    → All (λ e. IsRunning (unwrap_or last 0) e × (unwrap_or last 0 ≤ t)) xs
running_not_below None t xs above all = λ k d l. absurd (all k d l)
running_not_below (Some last) t xs above all = λ k d l. (all k d l, above)

pub running_since : (last : Option ℕ) (xs : List Entry) → All (IsRunningAt last) xs → All (IsRunning (unwrap_or last 0)) xs
running_since None xs all = λ k d l. absurd (all k d l)
running_since (Some last) xs all = all

-- a slice of a whole `Vec`, written back
pub take-written : {A : Type 0} (n : ℕ) (xs ys : List A) → n ≡ length xs → length ys ≡ length xs → take n (ys ++ drop (length ys) xs) ≡ ys
take-written n xs ys whole same =
    let fits : n ≤ length ys = omega arith in
    take-append-le n ys (drop (length ys) xs) fits ∙ take_all n ys (omega arith)

pub running_to : (last : Option ℕ) (t : ℕ) (xs : List Entry) → IsAbove last t → All (IsRunningAt last) xs
    → All (λ e. IsRunning (unwrap_or last 0) e × (unwrap_or last 0 ≤ t)) xs
running_to last t xs above all = λ k d l.
    let r = running_above last t xs above all k d l in
    (r.0, omega (arith, r.1))

-- the calls of one kind that are due, seen from outside
pub due_calls-is : (kind : TimerKind) (t : ℕ) (xs : List Entry)
    → due_calls kind t xs ≡ map call_of (filter (is_due_of kind t) (map (λ e. e.timer) xs))
due_calls-is kind t xs =
    sym (map-map call_of (λ e. e.timer) (filter (λ e. is_due_of kind t e.timer) xs))
    ∙ ap (map call_of) (sym (filter-map (is_due_of kind t) (λ (e : Entry). e.timer) xs))

-- two lists that are nothing together
pub nothing_in_both : {A : Type 0} (xs ys : List A) → xs ++ ys ≡ [] → (xs ≡ []) × (ys ≡ [])
nothing_in_both [] ys none = (refl, none)
nothing_in_both (x ∷ xs) ys none = cc

-- what passes the test is among what is kept
pub some_kept : {A B : Type 0} (p : A → Bool) (f : A → B) (xs : List A) (i : ℕ) (d : A)
    → i < length xs → p (get_or xs i d) ≡ true → map f (filter p xs) ≡ [] → ⊥
some_kept p f [] i d within passes none = omega arith
some_kept p f (x ∷ xs) zero d within passes none =
    let first = ap (λ b. map f (cond b (x ∷ filter p xs) (filter p xs))) (sym passes) ∙ none in
    cc
some_kept p f (x ∷ xs) (suc i) d within passes none =
    elim (cases_Bool (p x)) [
      | inl passes_first ↦ let first = ap (λ b. map f (cond b (x ∷ filter p xs) (filter p xs))) (sym passes_first) ∙ none in cc
      | inr fails_first ↦
          some_kept p f xs i d (omega arith) passes
          (ap (λ b. map f (cond b (x ∷ filter p xs) (filter p xs))) (sym fails_first) ∙ none)
    ]

pub length-kept : (t : ℕ) (xs : List Entry) → length (filter (λ e. is_kept t e.timer) xs) ≡ length (filter (is_kept t) (map (λ e. e.timer) xs))
length-kept t xs =
    sym (length-map (filter (λ e. is_kept t e.timer) xs) (λ e. e.timer))
    ∙ ap length (sym (filter-map (is_kept t) (λ (e : Entry). e.timer) xs))
