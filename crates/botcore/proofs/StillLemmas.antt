-- Seconds at which nothing is due and no minute begins: they bring nothing.
use Rattle.std.proofs.Common.{◌≡◌, ◌∙◌, ℕ, suc, ◌+◌, ◌-◌, ◌<◌, ◌≤◌, ◌%◌, ◌==◌, Bool, true, false, not, ◌&&◌, ◌||◌, cond, if◌then◌else◌, List, [], ◌∷◌, ◌++◌, map, filter, Option, Some, None, arith, refl, ap, sym, subst}
use Rattle.std.proofs.lemmas.Bool.Decides.{nat_tests}
use Rattle.std.specs.Prelude.{IfSome}
use Rattle.std.specs.List.{list_all, list_any, range_with_len}
use Rattle.bottimers.specs.declared.call.TimerCall.{TimerCall}
use Rattle.bottimers.specs.declared.timer.Timer.{Timer}
use Rattle.bottimers.specs.declared.timer.TimerKind.{TimerKind}
use Rattle.bottimers.specs.declared.timer.TimerKind.TheVariants.{Minutes, Seconds}
use Rattle.bottimers.specs.Held.{Held, IsAbove, call_of, calls_at, passed}
use Rattle.bottimers.specs.Occurrences.{is_due, is_due_of, is_same_kind, is_kept}
use Rattle.bottimers.specs.Seconds.{seconds_between}
use Rattle.bottimers.specs.Zones.{TzText, minute_at}
use Rattle.botcore.specs.Happenings.{Happening, minute_of, second_of, seconds_of, passed_all}
use Rattle.botcore.specs.Happenings.Happening.{Due, Time, Cron}
use Rattle.botcore.specs.Quiet.{is_still}
use Rattle.botcore.specs.Rising.{IsReached}
use Rattle.botcore.specs.Steps.{is_past}

-- ---- lists of seconds

-- the first second, and then the rest
pub between_more : (first last : ℕ) → first ≤ last → seconds_between first last ≡ first ∷ seconds_between (first + 1) last
between_more first last within =
    let more : last + 1 - first ≡ suc (last + 1 - (first + 1)) = omega (arith, within) in ap (range_with_len first) more

pub between_none : (first last : ℕ) → last < first → seconds_between first last ≡ []
between_none first last beyond = let none : last + 1 - first ≡ 0 = omega (arith, beyond) in ap (range_with_len first) none

-- ---- tests

left_true : (a b : Bool) → (a && b) ≡ true → a ≡ true
left_true true b e = refl
left_true false b e = cc

right_true : (a b : Bool) → (a && b) ≡ true → b ≡ true
right_true true b e = e
right_true false b e = cc

left_false : (a b : Bool) → (a || b) ≡ false → a ≡ false
left_false true b e = cc
left_false false b e = refl

right_false : (a b : Bool) → (a || b) ≡ false → b ≡ false
right_false true b e = cc
right_false false b e = e

is_not : (b : Bool) → not b ≡ true → b ≡ false
is_not true e = cc
is_not false e = refl

not_both : (a : Bool) → (a && false) ≡ false
not_both true = refl
not_both false = refl

-- ---- timers

-- none of a kind is due
none_of_kind : (kind : TimerKind) (t : ℕ) (timers : List Timer) → list_any (is_due t) timers ≡ false → filter (is_due_of kind t) timers ≡ []
none_of_kind kind t [] none = refl
none_of_kind kind t (m ∷ timers) none =
    let here : is_due_of kind t m ≡ false =
    ap (λ b. is_same_kind m.kind kind && b) (left_false (is_due t m) (list_any (is_due t) timers) none) ∙ not_both (is_same_kind m.kind kind) in
    ap (λ b. cond b (m ∷ filter (is_due_of kind t) timers) (filter (is_due_of kind t) timers)) here
    ∙ none_of_kind kind t timers (right_false (is_due t m) (list_any (is_due t) timers) none)

calls_none : (t : ℕ) (timers : Held) → list_any (is_due t) timers.timers ≡ false → calls_at t timers ≡ []
calls_none t timers none =
    ap (λ (ms : List Timer). map call_of ms ++ map call_of (filter (is_due_of Minutes t) timers.timers)) (none_of_kind Seconds t timers.timers none)
    ∙ ap (λ (ms : List Timer). map call_of ms) (none_of_kind Minutes t timers.timers none)

-- nor is any of those that are left
left_or_gone : (p : Timer → Bool) (b : Bool) (m : Timer) (rest : List Timer) → p m ≡ false → list_any p rest ≡ false
    → list_any p (cond b (m ∷ rest) rest) ≡ false
left_or_gone p true m rest here later = ap (λ b. b || list_any p rest) here ∙ later
left_or_gone p false m rest here later = later

none_left : (p q : Timer → Bool) (timers : List Timer) → list_any p timers ≡ false → list_any p (filter q timers) ≡ false
none_left p q [] none = refl
none_left p q (m ∷ timers) none =
    left_or_gone p (q m) m (filter q timers) (left_false (p m) (list_any p timers) none)
    (none_left p q timers (right_false (p m) (list_any p timers) none))

-- ---- seconds

module _ (timers : List Timer) (t : ℕ) (still : is_still timers t ≡ true) where
  no_minute : (t % 60 == 0) ≡ false
  no_minute = is_not (t % 60 == 0) (left_true (not (t % 60 == 0)) (not (list_any (is_due t) timers)) still)

  none_due : list_any (is_due t) timers ≡ false
  none_due = is_not (list_any (is_due t) timers) (right_true (not (t % 60 == 0)) (not (list_any (is_due t) timers)) still)

-- a second stays so where timers are gone
still_left : (q : Timer → Bool) (timers : List Timer) (t : ℕ) → is_still timers t ≡ true → is_still (filter q timers) t ≡ true
still_left q timers t still =
    ap (λ b. not b && not (list_any (is_due t) (filter q timers))) (no_minute timers t still)
    ∙ ap not (none_left (is_due t) q timers (none_due timers t still))

all_left : (q : Timer → Bool) (timers : List Timer) (ts : List ℕ) → list_all (is_still timers) ts ≡ true → list_all (is_still (filter q timers)) ts ≡ true
all_left q timers [] all = refl
all_left q timers (t ∷ ts) all =
    ap (λ b. b && list_all (is_still (filter q timers)) ts) (still_left q timers t (left_true (is_still timers t) (list_all (is_still timers) ts) all))
    ∙ all_left q timers ts (right_true (is_still timers t) (list_all (is_still timers) ts) all)

second_none : (zone : TzText) (t : ℕ) (timers : Held) → is_still timers.timers t ≡ true → second_of zone t timers ≡ []
second_none zone t timers still =
    ap (λ (cs : List TimerCall). map (λ c. Due c.proc c.text) cs ++ minute_of zone t) (calls_none t timers (none_due timers.timers t still))
    ∙ ap (λ b. if b then Time (minute_at zone t) ∷ Cron (minute_at zone t) ∷ [] else []) (no_minute timers.timers t still)

pub seconds_none : (zone : TzText) (timers : Held) (ts : List ℕ) → list_all (is_still timers.timers) ts ≡ true → seconds_of zone timers ts ≡ []
seconds_none zone timers [] all = refl
seconds_none zone timers (t ∷ ts) all =
    let here = left_true (is_still timers.timers t) (list_all (is_still timers.timers) ts) all in
    let later = right_true (is_still timers.timers t) (list_all (is_still timers.timers) ts) all in
    ap (λ (hs : List Happening). hs ++ seconds_of zone (passed t timers) ts) (second_none zone t timers here)
    ∙ seconds_none zone (passed t timers) ts (all_left (is_kept t) timers.timers ts later)

-- ---- one second after another

-- a later second may be given as well
pub above_later : (held : Option ℕ) (first second : ℕ) → IsAbove held first → first ≤ second → IsAbove held second
above_later None first second above after = tt
above_later (Some t) first second above after = omega (arith, above, after)

-- a reading that is not past is at the last one or above it
pub above_fresh : (last now : ℕ) → is_past (Some last) now ≡ false → last ≤ now
above_fresh last now fresh = grind (arith, nat_tests, fresh)

-- the first second that a reading runs may be given
pub above_first : (held clock : Option ℕ) (first : ℕ) → IsReached held clock → IfSome clock (λ last. last < first) → IsAbove held first
above_first None clock first reached after = tt
above_first (Some t) None first reached after = absurd reached
above_first (Some t) (Some last) first reached after = omega (arith, reached, after)

module _ (timers : List Timer) (first last : ℕ) where
  pub still_more : first ≤ last → is_still timers first ≡ true
      → list_all (is_still timers) (seconds_between (first + 1) last) ≡ list_all (is_still timers) (seconds_between first last)
  still_more within still =
      sym (ap (list_all (is_still timers)) (between_more first last within)
      ∙ ap (λ b. b && list_all (is_still timers) (seconds_between (first + 1) last)) still)

  pub still_stop : first ≤ last → is_still timers first ≡ false → list_all (is_still timers) (seconds_between first last) ≡ false
  still_stop within still =
      ap (list_all (is_still timers)) (between_more first last within)
      ∙ ap (λ b. b && list_all (is_still timers) (seconds_between (first + 1) last)) still

  pub still_end : last < first → list_all (is_still timers) (seconds_between first last) ≡ true
  still_end beyond = ap (list_all (is_still timers)) (between_none first last beyond)

module _ (timers : Held) (first last : ℕ) where
  pub passed_more : (new : Held) → first ≤ last → new ≡ passed first timers
      → passed_all new (seconds_between (first + 1) last) ≡ passed_all timers (seconds_between first last)
  passed_more new within passes =
      ap (λ (h : Held). passed_all h (seconds_between (first + 1) last)) passes
      ∙ sym (ap (passed_all timers) (between_more first last within))

  pub above_more : (new : Held) → new ≡ passed first timers → IsAbove new.last (first + 1)
  above_more new passes = subst (λ (h : Held). IsAbove h.last (first + 1)) (sym passes) (omega arith)

  pub passed_end : last < first → passed_all timers (seconds_between first last) ≡ timers
  passed_end beyond = ap (passed_all timers) (between_none first last beyond)
