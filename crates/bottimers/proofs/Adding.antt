-- What a new timer is refused for, and what it leaves.
use Rattle.std.proofs.Common.{◌≡◌, ◌⊎◌, ℕ, ◌+◌, ◌-◌, ◌<◌, ◌≤◌, true, false, leb, eqb, ltb, ◌||◌, List, [], ◌∷◌, ◌++◌, map, filter, length}
use Rattle.std.proofs.Common.{Some, None, ap, ◌∙◌, sym, subst, ⊎_elim}
use Rattle.std.proofs.lemmas.Bool.{or_from, or_left, or_right, ne_eqb, eq-eqb, le-ltb, le-leb, lt-leb, cond-true, cond-false}
use Rattle.std.proofs.lemmas.List.{map-append}
use Rattle.bottimers.specs.declared.limits.TheConstants.{MAX_INTERVAL, MAX_TIMERS, MAX_ID}
use Rattle.bottimers.specs.declared.fault.ClockFault.TheVariants.{Full}
use Rattle.bottimers.specs.declared.timer.Timer.{Timer}
use Rattle.bottimers.specs.declared.entry.Entry.{Entry}
use Rattle.bottimers.specs.declared.timers.Timers.TheInside.{Inside}
use Rattle.bottimers.specs.Occurrences.{is_kept}
use Rattle.bottimers.specs.Held.{Held, add_fault, timers_at, with_timer}
use Rattle.bottimers.specs.Countdown.{counted, held, held_of}
use Rattle.bottimers.proofs.EntryLists.{length-kept, timers_kept}

-- ---- the refusal, where the interval is good

module _ (inside : Inside) (h : Held) (view : held inside ≡ h) (i t n : ℕ) (count : n
    ≡ length (filter (λ e. is_kept t e.timer) inside.entries.items)) (some : i ≡ 0 → ⊥) (short : i ≤ MAX_INTERVAL) where
  count_is : n ≡ length (timers_at t h)
  count_is = subst (λ g. n ≡ length (timers_at t g)) view (count ∙ length-kept t inside.entries.items)

  spent_is : inside.spent ≡ h.spent
  spent_is = ap (λ (g : Held). g.spent) view

  fits : (eqb i 0 || ltb MAX_INTERVAL i) ≡ false
  fits = or_from _ _ (ne_eqb i 0 some) (le-ltb MAX_INTERVAL i short)

  pub add_full : (MAX_TIMERS ≤ n) ⊎ (inside.spent ≡ MAX_ID) → add_fault h i (Some t) ≡ Some Full
  add_full full =
      let bool : (leb MAX_TIMERS (length (timers_at t h)) || eqb h.spent MAX_ID) ≡ true =
      ⊎_elim (λ l. or_left _ _ (le-leb _ _ (subst (λ x. MAX_TIMERS ≤ x) count_is l))) (λ e. or_right _ _ (eq-eqb _ _ (sym spent_is ∙ e))) full in
      cond-false _ _ _ fits ∙ cond-true _ _ _ bool

  pub add_free : n < MAX_TIMERS → (inside.spent ≡ MAX_ID → ⊥) → add_fault h i (Some t) ≡ None
  add_free few left =
      let bool : (leb MAX_TIMERS (length (timers_at t h)) || eqb h.spent MAX_ID) ≡ false =
      or_from _ _ (lt-leb _ _ (subst (λ x. x < MAX_TIMERS) count_is few)) (ne_eqb _ _ (λ e. left (spent_is ∙ e))) in
      cond-false _ _ _ fits ∙ cond-false _ _ _ bool

-- ---- the new timer

module _ (inside : Inside) (h : Held) (view : held inside ≡ h) (m : Timer) (ys zs : List Entry) (e : Entry) (same : e.timer ≡ m) (kept : ys
    ≡ map (counted m.made) (filter (λ e. is_kept m.made e.timer) inside.entries.items)) (pushed : zs ≡ ys ++ e ∷ []) where
  -- what is kept, and the new one after it
  timers_are : map (λ (e : Entry). e.timer) zs ≡ filter (is_kept m.made) (map (λ e. e.timer) inside.entries.items) ++ m ∷ []
  timers_are =
      ap (map (λ (e : Entry). e.timer)) pushed
      ∙ map-append (λ (e : Entry). e.timer) ys (e ∷ [])
      ∙ ap (λ (ts : List Timer). ts ++ e.timer ∷ [])
      (ap (map (λ (e : Entry). e.timer)) kept ∙ timers_kept m.made inside.entries.items)
      ∙ ap (λ (x : Timer). filter (is_kept m.made) (map (λ e. e.timer) inside.entries.items) ++ x ∷ []) same

  pub with_timer_is : m.id ≡ inside.spent + 1
      → held_of (map (λ e. e.timer) zs) (Some m.made) (inside.spent + 1) (inside.room - 1) ≡ with_timer h m
  with_timer_is id =
      subst (λ g. held_of (map (λ e. e.timer) zs) (Some m.made) (inside.spent + 1) (inside.room - 1) ≡ with_timer g m) view
      (ap (λ (ts : List Timer). held_of ts (Some m.made) (inside.spent + 1) (inside.room - 1)) timers_are
      ∙ ap (λ k. held_of (filter (is_kept m.made) (map (λ e. e.timer) inside.entries.items) ++ m ∷ []) (Some m.made) k (inside.room - 1)) (sym id))
