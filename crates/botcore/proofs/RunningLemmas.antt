-- What the seconds of a reading bring, one after another.
use Rattle.std.proofs.Common.{◌≡◌, ◌∙◌, ℕ, zero, suc, ◌+◌, ◌-◌, ◌<◌, ◌≤◌, max, false, List, [], ◌∷◌, ◌++◌, map, Option, Some, None, arith, refl, ap, sym, subst}
use Rattle.std.proofs.Common.{append_assoc}
use Rattle.std.proofs.Math.Nat.{le-max_left, max-le, max-eq_right}
use Rattle.std.proofs.lemmas.Bool.Decides.{nat_tests}
use Rattle.std.specs.List.{range_with_len}
use Rattle.bytetext.specs.declared.moment.TheConstants.{MOMENTS_END}
use Rattle.bottimers.specs.declared.call.TimerCall.{TimerCall}
use Rattle.bottimers.specs.Held.{Held, IsAbove, passed}
use Rattle.bottimers.specs.Seconds.{seconds_run, last_after}
use Rattle.bottimers.specs.Zones.{TzText}
use Rattle.procs.specs.declared.trigger.Trigger.{Trigger}
use Rattle.procs.specs.declared.trigger.Trigger.TheVariants.{Due as due_occasion}
use Rattle.botcore.specs.Happenings.{Happening, second_of, seconds_of, passed_all}
use Rattle.botcore.specs.Happenings.Happening.{Due}
use Rattle.botcore.specs.Rising.{IsReached, Rise}
use Rattle.botcore.specs.Shown.{AreOccasions, AreFirst}
use Rattle.botcore.specs.Steps.{is_past}

-- ---- occasions

-- those of one list and then of another
pub AreOccasions-append : (hs gs : List Happening) (os ps : List Trigger) → AreOccasions hs os → AreOccasions gs ps
    → AreOccasions (hs ++ gs) (os ++ ps)
AreOccasions-append [] gs [] ps first next = next
AreOccasions-append [] gs (o ∷ os) ps first next = absurd first
AreOccasions-append (h ∷ hs) gs [] ps first next = absurd first
AreOccasions-append (h ∷ hs) gs (o ∷ os) ps first next = (first.0, AreOccasions-append hs gs os ps first.1 next)

-- all are the first of all
pub AreFirst-all : (hs : List Happening) (os : List Trigger) → AreOccasions hs os → AreFirst hs os
AreFirst-all [] [] all = tt
AreFirst-all [] (o ∷ os) all = absurd all
AreFirst-all (h ∷ hs) [] all = absurd all
AreFirst-all (h ∷ hs) (o ∷ os) all = (all.0, AreFirst-all hs os all.1)

-- due timers
pub due_occasions : (calls : List TimerCall) → AreOccasions (map (λ c. Due c.proc c.text) calls) (map (λ c. due_occasion c.proc c.text) calls)
due_occasions [] = tt
due_occasions (c ∷ cs) = ((refl, refl), due_occasions cs)

-- ---- seconds

-- some seconds have run, from first timers on, and the rest are left
pub record IsRunning (zone : TzText) (first : Held) (all : List ℕ) (timers : Held) (rest : List ℕ) (occasions : List Trigger) : Type 0 where
  pub done : List Happening
  pub shown : AreOccasions done occasions
  pub brings : done ++ seconds_of zone timers rest ≡ seconds_of zone first all
  pub passes : passed_all timers rest ≡ passed_all first all
  pub rises : Rise timers.last rest

-- one more runs
pub IsRunning-next : (zone : TzText) (first : Held) (all : List ℕ) (timers new : Held) (rest behind : List ℕ) (t : ℕ) (occasions more after : List Trigger)
    → IsRunning zone first all timers rest occasions → rest ≡ t ∷ behind → new ≡ passed t timers
    → AreOccasions (second_of zone t timers) more → after ≡ occasions ++ more → IsRunning zone first all new behind after
IsRunning-next zone first all timers new rest behind t occasions more after is next passes shown appended =
    let rises : Rise timers.last (t ∷ behind) = subst (Rise timers.last) next is.rises in record {
      done = is.done ++ second_of zone t timers;
      shown = subst (AreOccasions (is.done ++ second_of zone t timers)) (sym appended)
          (AreOccasions-append is.done (second_of zone t timers) occasions more is.shown shown);
      brings = append_assoc is.done (second_of zone t timers) (seconds_of zone new behind)
          ∙ ap (λ (h : Held). is.done ++ (second_of zone t timers ++ seconds_of zone h behind)) passes
          ∙ ap (λ (ts : List ℕ). is.done ++ seconds_of zone timers ts) (sym next) ∙ is.brings;
      passes = ap (λ (h : Held). passed_all h behind) passes ∙ ap (passed_all timers) (sym next) ∙ is.passes;
      rises = subst (λ (h : Held). Rise h.last behind) (sym passes) rises.2;
    }

-- ---- the seconds that a reading runs

rise_range : (a n : ℕ) (last : Option ℕ) → IsAbove last a → a + n ≤ MOMENTS_END → Rise last (range_with_len a n)
rise_range a zero last above within = tt
rise_range a (suc n) last above within = (above, omega (arith, within), rise_range (a + 1) n (Some a) (omega arith) (omega (arith, within)))

above_all : (held : Option ℕ) (last first : ℕ) → IsReached held (Some last) → last + 1 ≤ first → IsAbove held first
above_all None last first reached after = tt
above_all (Some t) last first reached after = omega (arith, reached, after)

pub rise_run : (clock held : Option ℕ) (now : ℕ) → IsReached held clock → now < MOMENTS_END → is_past clock now ≡ false
    → Rise held (seconds_run clock now)
rise_run None held now reached moment fresh = tt
rise_run (Some last) held now reached moment fresh =
    let first = max (last + 1) (now - 599) in
    let after : last + 1 ≤ first = le-max_left (last + 1) (now - 599) in
    let above : last ≤ now = grind (arith, nat_tests, fresh) in
    let within : first ≤ now + 1 = max-le (omega (arith, above)) (omega (arith, above)) in
    rise_range first (now + 1 - first) held (above_all held last first reached after) (omega (arith, within, moment))

-- the clock is at the reading
pub last_after_reading : (clock : Option ℕ) (now : ℕ) → is_past clock now ≡ false → last_after clock now ≡ now
last_after_reading None now fresh = refl
last_after_reading (Some last) now fresh = let above : last ≤ now = grind (arith, nat_tests, fresh) in max-eq_right (omega (arith, above))

-- and no timer is above it
passed_range : (timers : Held) (a n now : ℕ) → IsReached timers.last (Some now) → a + n ≤ now + 1
    → IsReached (passed_all timers (range_with_len a n)).last (Some now)
passed_range timers a zero now reached within = reached
passed_range timers a (suc n) now reached within = passed_range (passed a timers) (a + 1) n now (omega (arith, within)) (omega (arith, within))

raised : (held : Option ℕ) (last now : ℕ) → IsReached held (Some last) → last ≤ now → IsReached held (Some now)
raised None last now reached le = tt
raised (Some t) last now reached le = omega (arith, reached, le)

first_raised : (held : Option ℕ) (now : ℕ) → IsReached held None → IsReached held (Some now)
first_raised None now reached = tt
first_raised (Some t) now reached = absurd reached

pub passed_run : (clock : Option ℕ) (timers : Held) (now : ℕ) → IsReached timers.last clock → is_past clock now ≡ false
    → IsReached (passed_all timers (seconds_run clock now)).last (Some now)
passed_run None timers now reached fresh = first_raised timers.last now reached
passed_run (Some last) timers now reached fresh =
    let first = max (last + 1) (now - 599) in
    let above : last ≤ now = grind (arith, nat_tests, fresh) in
    let within : first ≤ now + 1 = max-le (omega (arith, above)) (omega (arith, above)) in
    passed_range timers first (now + 1 - first) now (raised timers.last last now reached (omega (arith, above))) (omega (arith, within))
