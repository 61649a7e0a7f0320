-- What a drive has to send has records of good shape: lines and readings send nothing but texts.
use Rattle.std.proofs.Common.{◌≡◌, ◌++◌, ℕ, List, [], ◌∷◌, refl, sym, ap, subst, ◌∙◌}
use Rattle.ircline.specs.declared.line.Line.{Line as ReadLine}
use Rattle.procs.specs.Promises.{Promised}
use Rattle.sharelink.specs.declared.answer.Outgoing.{Outgoing}
use Rattle.sharelink.specs.Shapes.{AreGood}
use Rattle.botcore.specs.declared.event.BotEvent.{BotEvent}
use Rattle.botcore.specs.declared.event.BotEvent.TheVariants.{Line, Clock}
use Rattle.botcore.specs.declared.report.Report.{Report}
use Rattle.botcore.specs.Bots.{Bot}
use Rattle.botcore.specs.Steps.{TakesStep}
use Rattle.botcore.proofs.GoodLemmas.{AreGood-append, line_good, clock_good}
use Rattle.turns.specs.declared.driving.DriveEnd.{DriveEnd}
use Rattle.turns.specs.declared.driving.DriveEnd.TheVariants.{Done, Read, Write, NoMemory}
use Rattle.turns.specs.declared.outcome.DriveOutcome.{DriveOutcome}
use Rattle.turns.specs.Driving.{Course, Connection, Makes, DrivesTo, line_events, all_events}

module _ (promised : Promised) (names : List (List ℕ)) where
  -- nothing but lines and readings
  abbrev AreHeard : List BotEvent → Type 0
  AreHeard events = (old new : Bot) (report : Report) (before : List BotEvent) (event : BotEvent) (after : List BotEvent) → events ≡ before ++ event ∷ after
      → TakesStep promised names old event report new → AreGood report.packets

  lines_heard : (lines : List ReadLine) → AreHeard (line_events lines)
  lines_heard [] old new report [] event after e takes = cc
  lines_heard [] old new report (b ∷ before) event after e takes = cc
  lines_heard (line ∷ lines) old new report [] event after e takes =
      let same : event ≡ Line line = cc in
      line_good promised names old line report new (subst (λ x. TakesStep promised names old x report new) same takes)
  lines_heard (line ∷ lines) old new report (b ∷ before) event after e takes = lines_heard lines old new report before event after (cc) takes

  all_heard : (lines : List ReadLine) (now : ℕ) → AreHeard (all_events lines now)
  all_heard [] now old new report [] event after e takes =
      let same : event ≡ Clock now = cc in
      clock_good promised names old now report new (subst (λ x. TakesStep promised names old x report new) same takes)
  all_heard [] now old new report (b ∷ []) event after e takes = cc
  all_heard [] now old new report (b ∷ c ∷ before) event after e takes = cc
  all_heard (line ∷ lines) now old new report [] event after e takes =
      let same : event ≡ Line line = cc in
      line_good promised names old line report new (subst (λ x. TakesStep promised names old x report new) same takes)
  all_heard (line ∷ lines) now old new report (b ∷ before) event after e takes = all_heard lines now old new report before event after (cc) takes

  -- the same of what comes after the first event, and of a front
  rest_heard : (event : BotEvent) (events : List BotEvent) → AreHeard (event ∷ events) → AreHeard events
  rest_heard event events heard = λ old new report before e after is. heard old new report (event ∷ before) e after (ap (λ (l : List BotEvent). event ∷ l) is)

  front_heard : (first rest events : List BotEvent) → first ++ rest ≡ events → AreHeard events → AreHeard first
  front_heard first rest events all heard = λ old new report before event after is.
      heard old new report before event (after ++ rest) (front_at first rest events before after event all is)
    where
      append_front : (xs ys zs : List BotEvent) (e : BotEvent) → (xs ++ e ∷ ys) ++ zs ≡ xs ++ e ∷ (ys ++ zs)
      append_front [] ys zs e = refl
      append_front (x ∷ xs) ys zs e = ap (λ (l : List BotEvent). x ∷ l) (append_front xs ys zs e)

      front_at : (first rest events before after : List BotEvent) (event : BotEvent) → first ++ rest ≡ events → first ≡ before ++ event ∷ after
          → events ≡ before ++ event ∷ (after ++ rest)
      front_at first rest events before after event all is =
          sym all ∙ ap (λ (l : List BotEvent). l ++ rest) is ∙ append_front before after rest event

  steps_good : (events : List BotEvent) (old new : Course) → AreHeard events → Makes promised names old events new → AreGood old.packets
      → AreGood new.packets
  unfolding Makes
  steps_good [] old new heard made good = subst (λ (c : Course). AreGood c.packets) (sym made) good
  steps_good (event ∷ events) old new heard (mid, step, made) good =
      let more = heard old.bot mid.bot step.report [] event events refl step.takes in
      steps_good events mid new (rest_heard event events heard) made
      (subst AreGood (sym step.packets) (AreGood-append old.packets step.report.packets good more))

-- ---- a whole drive

pub DrivesTo_good : (end : DriveEnd) (promised : Promised)
    (names : List (List ℕ)) (now : ℕ) (old : Connection) (packets : List Outgoing) (outcomes : List DriveOutcome) (new : Connection)
    → DrivesTo end promised names now old packets outcomes new → AreGood packets
DrivesTo_good Done promised names now old packets outcomes new d =
    steps_good promised names (all_events d.lines now) _ _ (all_heard promised names d.lines now) d.makes tt
DrivesTo_good Read promised names now old packets outcomes new d =
    steps_good promised names (line_events d.lines) _ _ (lines_heard promised names d.lines) d.makes tt
DrivesTo_good Write promised names now old packets outcomes new d =
    steps_good promised names (all_events d.lines now) _ _ (all_heard promised names d.lines now) d.makes tt
DrivesTo_good NoMemory promised names now old packets outcomes new d =
    steps_good promised names d.makes.first _ _
    (front_heard promised names d.makes.first d.makes.rest _ d.makes.all (all_heard promised names d.lines now)) d.makes.makes tt
