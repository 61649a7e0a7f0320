-- A minute of a number is one: what happens has one list of occasions.
use Rattle.std.proofs.Common.{◌≡◌, ◌∙◌, ℕ, ◌+◌, ◌*◌, ◌%◌, ◌<◌, ℤ, pos, ◌+ℤ◌, ◌*ℤ◌, List, [], ◌∷◌, arith, refl, ap, sym}
use Rattle.jiff.specs.Words.{epoch_day}
use Rattle.jiff_core.specs.Calendar.{weekday_number}
use Rattle.jiff_core.proofs.DateLemmas.{epoch_day_injective}
use Rattle.jiff.proofs.SpanFacts.{signed_arith}
use Rattle.chanstate.specs.declared.event.IrcEvent.{IrcEvent as MessageEvent}
use Rattle.bottimers.specs.declared.calendar.CivilMinute.{CivilMinute}
use Rattle.bottimers.specs.Civil.{IsCalendarMinute}
use Rattle.procs.specs.declared.trigger.Trigger.{Trigger}
use Rattle.procs.specs.declared.trigger.Trigger.TheVariants.{Heard, Due, Time, Cron, Said}
use Rattle.botcore.specs.Happenings.{Happening}
use Rattle.botcore.specs.Happenings.Happening.{Heard as heard_event, Due as due_proc, Time as time_minute, Cron as cron_minute, Said as said_text}
use Rattle.botcore.specs.Shown.{IsShown, AreOccasions}

-- a minute by its parts
of_parts : (a b : CivilMinute) → a.year ≡ b.year → a.month ≡ b.month → a.day ≡ b.day → a.hour ≡ b.hour → a.minute ≡ b.minute → a.weekday ≡ b.weekday → a ≡ b
of_parts a b year month day hour minute weekday =
    ap (λ (y : ℤ). record { year = y; month = a.month; day = a.day; hour = a.hour; minute = a.minute; weekday = a.weekday }) year
    ∙ ap (λ (m : ℕ). record { year = b.year; month = m; day = a.day; hour = a.hour; minute = a.minute; weekday = a.weekday }) month
    ∙ ap (λ (d : ℕ). record { year = b.year; month = b.month; day = d; hour = a.hour; minute = a.minute; weekday = a.weekday }) day
    ∙ ap (λ (h : ℕ). record { year = b.year; month = b.month; day = b.day; hour = h; minute = a.minute; weekday = a.weekday }) hour
    ∙ ap (λ (m : ℕ). record { year = b.year; month = b.month; day = b.day; hour = b.hour; minute = m; weekday = a.weekday }) minute
    ∙ ap (λ (w : ℕ). record { year = b.year; month = b.month; day = b.day; hour = b.hour; minute = b.minute; weekday = w }) weekday

pos_same : (m n : ℕ) → pos m ≡ pos n → m ≡ n
pos_same m n e = cc

-- a number is of one day and one minute of it
same_day : (d e n : ℤ) (h m i j : ℕ) → h < 24 → m < 60 → i < 24 → j < 60
    → d *ℤ pos 1440 +ℤ pos (h * 60 + m) ≡ n → e *ℤ pos 1440 +ℤ pos (i * 60 + j) ≡ n → (d ≡ e) × (h ≡ i) × (m ≡ j)
same_day d e n h m i j hour minute hour_too minute_too one other = (
  omega (arith, signed_arith, hour, minute, hour_too, minute_too, one, other),
  omega (arith, signed_arith, hour, minute, hour_too, minute_too, one, other),
  omega (arith, signed_arith, hour, minute, hour_too, minute_too, one, other),
)

same_minute : (n : ℤ) (a b : CivilMinute) → IsCalendarMinute n a → IsCalendarMinute n b → a ≡ b
same_minute n a b one other =
    let same = same_day (epoch_day one.date) (epoch_day other.date) n a.hour a.minute b.hour b.minute one.hour one.minute other.hour other.minute
    one.away other.away in
    let date = epoch_day_injective one.date other.date same.0 in
    of_parts a b
    (sym one.shown.0 ∙ date.0 ∙ other.shown.0)
    (pos_same a.month b.month (sym one.shown.1 ∙ ap (λ (m : ℕ). pos m) date.1 ∙ other.shown.1))
    (pos_same a.day b.day (sym one.shown.2 ∙ ap (λ (d : ℕ). pos d) date.2 ∙ other.shown.2))
    same.1 same.2
    (one.weekday ∙ ap (λ (d : ℤ). (weekday_number d + 1) % 7) same.0 ∙ sym other.weekday)

-- ---- what each that happens is shown as

heard_as : (event : MessageEvent) (o : Trigger) → IsShown (heard_event event) o → o ≡ Heard event
heard_as event (Heard e) is = ap (λ (x : MessageEvent). Heard x) is
heard_as event (Due p t) is = absurd is
heard_as event (Time m) is = absurd is
heard_as event (Cron m) is = absurd is
heard_as event (Said f t) is = absurd is

due_as : (proc text : List ℕ) (o : Trigger) → IsShown (due_proc proc text) o → o ≡ Due proc text
due_as proc text (Heard e) is = absurd is
due_as proc text (Due p t) is = ap (λ (x : List ℕ). Due x t) is.0 ∙ ap (λ (x : List ℕ). Due proc x) is.1
due_as proc text (Time m) is = absurd is
due_as proc text (Cron m) is = absurd is
due_as proc text (Said f t) is = absurd is

time_as : (n : ℤ) (o : Trigger) → IsShown (time_minute n) o → (m : CivilMinute) × (o ≡ Time m) × IsCalendarMinute n m
time_as n (Heard e) is = absurd is
time_as n (Due p t) is = absurd is
time_as n (Time m) is = (m, refl, is)
time_as n (Cron m) is = absurd is
time_as n (Said f t) is = absurd is

cron_as : (n : ℤ) (o : Trigger) → IsShown (cron_minute n) o → (m : CivilMinute) × (o ≡ Cron m) × IsCalendarMinute n m
cron_as n (Heard e) is = absurd is
cron_as n (Due p t) is = absurd is
cron_as n (Time m) is = absurd is
cron_as n (Cron m) is = (m, refl, is)
cron_as n (Said f t) is = absurd is

said_as : (from : ℕ) (text : List ℕ) (o : Trigger) → IsShown (said_text from text) o → o ≡ Said from text
said_as from text (Heard e) is = absurd is
said_as from text (Due p t) is = absurd is
said_as from text (Time m) is = absurd is
said_as from text (Cron m) is = absurd is
said_as from text (Said f t) is = ap (λ (x : ℕ). Said x t) is.0 ∙ ap (λ (x : List ℕ). Said from x) is.1

same_shown : (h : Happening) (x y : Trigger) → IsShown h x → IsShown h y → x ≡ y
same_shown (heard_event event) x y one other = heard_as event x one ∙ sym (heard_as event y other)
same_shown (due_proc proc text) x y one other = due_as proc text x one ∙ sym (due_as proc text y other)
same_shown (time_minute n) x y one other =
    let a = time_as n x one in let b = time_as n y other in
    a.1 ∙ ap (λ (m : CivilMinute). Time m) (same_minute n a.0 b.0 a.2 b.2) ∙ sym b.1
same_shown (cron_minute n) x y one other =
    let a = cron_as n x one in let b = cron_as n y other in
    a.1 ∙ ap (λ (m : CivilMinute). Cron m) (same_minute n a.0 b.0 a.2 b.2) ∙ sym b.1
same_shown (said_text from text) x y one other = said_as from text x one ∙ sym (said_as from text y other)

-- the same that happens has the same occasions
pub same_occasions : (happenings : List Happening) (xs ys : List Trigger) → AreOccasions happenings xs → AreOccasions happenings ys → xs ≡ ys
same_occasions [] [] [] one other = refl
same_occasions [] [] (y ∷ ys) one other = absurd other
same_occasions [] (x ∷ xs) ys one other = absurd one
same_occasions (h ∷ hs) [] ys one other = absurd one
same_occasions (h ∷ hs) (x ∷ xs) [] one other = absurd other
same_occasions (h ∷ hs) (x ∷ xs) (y ∷ ys) one other =
    ap (λ (o : Trigger). o ∷ xs) (same_shown h x y one.0 other.0) ∙ ap (λ (os : List Trigger). y ∷ os) (same_occasions hs xs ys one.1 other.1)
