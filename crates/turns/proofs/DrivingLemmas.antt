-- Steps of a bot, one after another, and what they are told.
use Rattle.std.proofs.Common.{◌≡◌, ◌≢◌, ◌∙◌, ◌++◌, ℕ, ◌+◌, ◌<◌, length, take, drop, get_or, take-append-drop, List, [], ◌∷◌, Result, Ok, Err, OnOk, OnErr, refl, sym, ap, subst, append_assoc, append-nil}
use Rattle.std.proofs.lemmas.List.{take_more, map-append}
use Rattle.ircline.specs.declared.line.Line.{Line as ReadLine}
use Rattle.ircline.specs.Stream.{lines_of, held_of}
use Rattle.procs.specs.Promises.{Promised}
use Rattle.sharelink.specs.declared.answer.Outgoing.{Outgoing}
use Rattle.botcore.specs.declared.event.BotEvent.{BotEvent}
use Rattle.botcore.specs.declared.event.BotEvent.TheVariants.{Line}
use Rattle.botcore.specs.declared.report.End.TheVariants.{NoMemory}
use Rattle.botcore.specs.declared.report.Report.{Report}
use Rattle.turns.specs.declared.outcome.DriveOutcome.{DriveOutcome}
use Rattle.turns.specs.Driving.{Course, Makes, MakesFirst, MakesStep, Ends, Hears, HearsFirst, line_events, text_of, unless_silent, outcome_of}
use Rattle.botcore.specs.Steps.{TakesStep}

-- ---- steps

pub Makes-none : (promised : Promised) (names : List (List ℕ)) (old : Course)
    → Makes promised names old [] old
unfolding Makes
Makes-none promised names old = refl

pub Makes-one : (promised : Promised) (names : List (List ℕ)) (old new : Course)
    (event : BotEvent) → MakesStep promised names old event new → Makes promised names old (event ∷ []) new
unfolding Makes
Makes-one promised names old new event step = (new, step, refl)

-- where a call that keeps a report succeeds, its step is made
pub Makes-if : {E : Type 0} (promised : Promised) (names : List (List ℕ))
    (old new : Course) (event : BotEvent) (report : Report) (kept : Result Unit E) (packets : List Outgoing) (text : List ℕ) (outcomes : List DriveOutcome)
    → packets ≡ old.packets → text ≡ old.text → outcomes ≡ old.outcomes → TakesStep promised names old.bot event report new.bot
    → OnOk kept (report.end ≢ NoMemory) → OnOk kept (new.packets ≡ packets ++ report.packets)
    → OnOk kept (new.text ≡ text ++ text_of report.lines) → OnOk kept (new.outcomes ≡ outcomes ++ unless_silent (outcome_of report))
    → OnOk kept (Makes promised names old (event ∷ []) new)
Makes-if promised names old new event report (Err e) packets text outcomes p t o takes made more_packets more_text more_outcomes = tt
Makes-if promised names old new event report (Ok x) packets text outcomes p t o takes made more_packets more_text more_outcomes =
    Makes-one promised names old new event (record {
      report = report;
      takes = takes;
      made = made;
      packets = more_packets ∙ ap (λ front. front ++ report.packets) p;
      text = more_text ∙ ap (λ front. front ++ text_of report.lines) t;
      outcomes = more_outcomes ∙ ap (λ front. front ++ unless_silent (outcome_of report)) o;
    })

pub Makes-then : (promised : Promised) (names : List (List ℕ)) (old mid new : Course)
    (first second : List BotEvent) → Makes promised names old first mid → Makes promised names mid second new
    → Makes promised names old (first ++ second) new
unfolding Makes
Makes-then promised names old mid new [] second p q = subst (λ x. Makes promised names x second new) p q
Makes-then promised names old mid new (event ∷ first) second (next, step, p) q =
    (next, step, Makes-then promised names next mid new first second p q)

-- where all are made and then the first of more, the first of both are
pub MakesFirst-then : (promised : Promised) (names : List (List ℕ)) (old mid new : Course)
    (first second : List BotEvent) → Makes promised names old first mid → MakesFirst promised names mid second new
    → MakesFirst promised names old (first ++ second) new
MakesFirst-then promised names old mid new first second p q = record {
  first = first ++ q.first;
  rest = q.rest;
  all = append_assoc first q.first q.rest ∙ ap (λ events. first ++ events) q.all;
  makes = Makes-then promised names old mid new first q.first p q.makes;
}

-- the first of some events are the first where others come after
pub MakesFirst-more : (promised : Promised) (names : List (List ℕ)) (old new : Course)
    (events more : List BotEvent) → MakesFirst promised names old events new → MakesFirst promised names old (events ++ more) new
MakesFirst-more promised names old new events more p = record {
  first = p.first;
  rest = p.rest ++ more;
  all = sym (append_assoc p.first p.rest more) ∙ ap (λ all. all ++ more) p.all;
  makes = p.makes;
}

-- no event is made
pub MakesFirst-none : (promised : Promised) (names : List (List ℕ)) (old : Course)
    (events : List BotEvent) → MakesFirst promised names old events old
MakesFirst-none promised names old events = record { first = []; rest = events; all = refl; makes = Makes-none promised names old }

-- ---- lines of a stream

pub line_events-then : (first second : List ReadLine) → line_events (first ++ second) ≡ line_events first ++ line_events second
line_events-then first second = map-append (λ line. Line line) first second

-- one line more is stepped
pub Makes-next : (promised : Promised) (names : List (List ℕ)) (old mid new : Course)
    (lines : List ReadLine) (i : ℕ) (line : ReadLine) → i < length lines → line ≡ get_or lines i line
    → Makes promised names old (line_events (take i lines)) mid → Makes promised names mid (Line line ∷ []) new
    → Makes promised names old (line_events (take (i + 1) lines)) new
Makes-next promised names old mid new lines i line within is p q =
    let more : take (i + 1) lines ≡ take i lines ++ line ∷ [] =
    take_more lines i line within ∙ ap (λ x. take i lines ++ x ∷ []) (sym is) in
    subst (λ events. Makes promised names old events new)
    (sym (ap line_events more ∙ line_events-then (take i lines) (line ∷ [])))
    (Makes-then promised names old mid new (line_events (take i lines)) (Line line ∷ []) p q)

-- so many are stepped, and the next is not
pub MakesFirst-at : (promised : Promised) (names : List (List ℕ)) (old mid new : Course)
    (lines : List ReadLine) (i : ℕ) → Makes promised names old (line_events (take i lines)) mid → new ≡ mid
    → MakesFirst promised names old (line_events lines) new
MakesFirst-at promised names old mid new lines i p same = record {
  first = line_events (take i lines);
  rest = line_events (drop i lines);
  all = sym (line_events-then (take i lines) (drop i lines)) ∙ ap line_events (take-append-drop i lines);
  makes = subst (λ x. Makes promised names old (line_events (take i lines)) x) (sym same) p;
}

pub Ends-none : (held : List ℕ) → Ends held [] [] held
Ends-none held = record {
  goes_on = λ stream h. ap lines_of (append-nil stream) ∙ sym (append-nil (lines_of stream));
  holds = λ stream h. h ∙ ap held_of (sym (append-nil stream));
}

pub Ends-then : (held mid after bytes more : List ℕ) (first second : List ReadLine)
    → Ends held bytes first mid → Ends mid more second after → Ends held (bytes ++ more) (first ++ second) after
Ends-then held mid after bytes more first second p q = record {
  goes_on = λ stream h. ap lines_of (sym (append_assoc stream bytes more)) ∙ q.goes_on (stream ++ bytes) (p.holds stream h)
      ∙ ap (λ lines. lines ++ second) (p.goes_on stream h) ∙ append_assoc (lines_of stream) first second;
  holds = λ stream h. q.holds (stream ++ bytes) (p.holds stream h) ∙ ap held_of (append_assoc stream bytes more);
}

-- ---- bytes that are taken in

pub Hears-none : (promised : Promised) (names : List (List ℕ)) (old : Course) (held : List ℕ)
    → Hears promised names old held [] old held
Hears-none promised names old held = record { lines = []; ends = Ends-none held; makes = Makes-none promised names old }

pub Hears-then : (promised : Promised) (names : List (List ℕ)) (old mid new : Course)
    (held between after bytes more : List ℕ) → Hears promised names old held bytes mid between
    → Hears promised names mid between more new after → Hears promised names old held (bytes ++ more) new after
Hears-then promised names old mid new held between after bytes more p q = record {
  lines = p.lines ++ q.lines;
  ends = Ends-then held between after bytes more p.lines q.lines p.ends q.ends;
  makes = subst (λ events. Makes promised names old events new) (sym (line_events-then p.lines q.lines))
      (Makes-then promised names old mid new (line_events p.lines) (line_events q.lines) p.makes q.makes);
}

pub HearsFirst-then : (promised : Promised) (names : List (List ℕ)) (old mid new : Course)
    (held between bytes more : List ℕ) → Hears promised names old held bytes mid between
    → HearsFirst promised names mid between more new → HearsFirst promised names old held (bytes ++ more) new
HearsFirst-then promised names old mid new held between bytes more p q = record {
  front = bytes ++ q.front;
  lost = q.lost;
  lines = p.lines ++ q.lines;
  after = q.after;
  all = append_assoc bytes q.front q.lost ∙ ap (λ rest. bytes ++ rest) q.all;
  ends = Ends-then held between q.after bytes q.front p.lines q.lines p.ends q.ends;
  makes = subst (λ events. MakesFirst promised names old events new) (sym (line_events-then p.lines q.lines))
      (MakesFirst-then promised names old mid new (line_events p.lines) (line_events q.lines) p.makes q.makes);
}

-- no byte of them is taken in
pub HearsFirst-none : (promised : Promised) (names : List (List ℕ)) (old : Course)
    (held bytes : List ℕ) → HearsFirst promised names old held bytes old
HearsFirst-none promised names old held bytes = record {
  front = [];
  lost = bytes;
  lines = [];
  after = held;
  all = refl;
  ends = Ends-none held;
  makes = MakesFirst-none promised names old [];
}

-- all of them are taken in, and the first of their lines are stepped
pub HearsFirst-if : {E : Type 0} (promised : Promised) (names : List (List ℕ))
    (old new : Course) (held bytes after : List ℕ) (lines : List ReadLine) (made : Result Unit E) → Ends held bytes lines after
    → OnErr made (MakesFirst promised names old (line_events lines) new) → OnErr made (HearsFirst promised names old held bytes new)
HearsFirst-if promised names old new held bytes after lines (Ok x) ends first = tt
HearsFirst-if promised names old new held bytes after lines (Err e) ends first = record {
  front = bytes;
  lost = [];
  lines = lines;
  after = after;
  all = append-nil bytes;
  ends = ends;
  makes = first;
}
