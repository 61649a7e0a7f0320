-- The lines of a turn are those that its bytes complete.
use Rattle.std.proofs.Common.{◌≡◌, ◌≢◌, ◌∙◌, ◌++◌, ℕ, Result, Ok, Err, OnOk, Bool, true, false, List, [], ◌∷◌, map, refl, sym, ap, subst, append_assoc, append-nil, inl, inr}
use Rattle.std.specs.List.{AllByRecursion}
use Rattle.ircline.specs.declared.line.Line.{Line as ReadLine}
use Rattle.userfile.specs.declared.change.Change.{Change}
use Rattle.procs.specs.Promises.{Promised}
use Rattle.sharewire.specs.declared.packet.Packet.{Packet}
use Rattle.sharelink.specs.Shapes.{AreGood, HasGoodRecords}
use Rattle.botcore.specs.declared.event.BotEvent.{BotEvent}
use Rattle.botcore.specs.declared.event.BotEvent.TheVariants.{Connect, Line, Ask, Pump, Receive, Clock, Bind, Unbind, Compact, Restart}
use Rattle.botcore.specs.declared.report.End.TheVariants.{NoMemory as ends_no_memory}
use Rattle.botcore.specs.declared.report.Report.{Report}
use Rattle.botcore.specs.Bots.{Bot}
use Rattle.botcore.specs.Steps.{TakesStep}
use Rattle.turns.specs.Driving.{line_events}
use Rattle.turns.specs.declared.turn.Heard.{Heard}
use Rattle.turns.specs.declared.turn.HeardLine.{HeardLine}
use Rattle.turns.specs.declared.turn.Told.{Told}
use Rattle.turns.specs.declared.turn.TurnEnd.{TurnEnd}
use Rattle.turns.specs.declared.turn.TurnEnd.TheVariants.{Done, NoMemory}
use Rattle.turns.specs.Turns.{AreEvents, IsTold, Steps, Stops, Turns, TurnsTo, when, turn_events, line_told, lines_told}
use Rattle.turns.proofs.EventLemmas.{AreEvents-good}
use Rattle.turns.proofs.StepLemmas.{IsStepping, IsStepping-none, IsStepping-next, IsStepping-all, IsStepping-stop}

-- ---- the lines among events

abbrev line_in : BotEvent → List ReadLine
line_in Connect = []
line_in (Line line) = line ∷ []
line_in (Ask change) = []
line_in Pump = []
line_in (Receive packet) = []
line_in (Clock now) = []
line_in (Bind asked) = []
line_in (Unbind gone) = []
line_in Compact = []
line_in Restart = []

abbrev lines_in : List BotEvent → List ReadLine
lines_in [] = []
lines_in (event ∷ events) = line_in event ++ lines_in events

lines_in-append : (xs ys : List BotEvent) → lines_in (xs ++ ys) ≡ lines_in xs ++ lines_in ys
lines_in-append [] ys = refl
lines_in-append (x ∷ xs) ys = ap (λ (l : List ReadLine). line_in x ++ l) (lines_in-append xs ys)
    ∙ sym (append_assoc (line_in x) (lines_in xs) (lines_in ys))

-- events without a line, before and after others
lines_in-after : (xs ys : List BotEvent) → lines_in xs ≡ [] → lines_in (xs ++ ys) ≡ lines_in ys
lines_in-after xs ys none = lines_in-append xs ys ∙ ap (λ (l : List ReadLine). l ++ lines_in ys) none

lines_in-before : (xs ys : List BotEvent) → lines_in ys ≡ [] → lines_in (xs ++ ys) ≡ lines_in xs
lines_in-before xs ys none =
    lines_in-append xs ys ∙ ap (λ (l : List ReadLine). lines_in xs ++ l) none ∙ append-nil (lines_in xs)

lines_in-when : (due : Bool) (event : BotEvent) → line_in event ≡ [] → lines_in (when due event) ≡ []
lines_in-when true event none = ap (λ (l : List ReadLine). l ++ []) none
lines_in-when false event none = refl

lines_in-lines : (lines : List ReadLine) → lines_in (line_events lines) ≡ lines
lines_in-lines [] = refl
lines_in-lines (line ∷ lines) = ap (λ (l : List ReadLine). line ∷ l) (lines_in-lines lines)

lines_in-packets : (packets : List Packet) → lines_in (map (λ packet. Receive packet) packets) ≡ []
lines_in-packets [] = refl
lines_in-packets (packet ∷ packets) = lines_in-packets packets

lines_in-changes : (changes : List Change) → lines_in (map (λ change. Ask change) changes) ≡ []
lines_in-changes [] = refl
lines_in-changes (change ∷ changes) = lines_in-changes changes

lines_in-turn : (heard : Heard) (lines : List ReadLine) → lines_in (turn_events heard lines) ≡ lines
lines_in-turn heard lines =
    let takes = map (λ (packet : Packet). Receive packet) heard.packets.items in
    let asks = map (λ (change : Change). Ask change) heard.changes.items in
    let one = when heard.connected Connect ++ line_events lines in
    let two = one ++ Clock heard.now ∷ takes in
    let three = two ++ asks in
    let four = three ++ when heard.pump Pump in
    lines_in-before four (when heard.compact Compact) (lines_in-when heard.compact Compact refl)
    ∙ lines_in-before three (when heard.pump Pump) (lines_in-when heard.pump Pump refl)
    ∙ lines_in-before two asks (lines_in-changes heard.changes.items)
    ∙ lines_in-before one (Clock heard.now ∷ takes) (lines_in-packets heard.packets.items)
    ∙ lines_in-after (when heard.connected Connect) (line_events lines) (lines_in-when heard.connected Connect refl)
    ∙ lines_in-lines lines

-- ---- the lines among events whose steps are made

abbrev line_of : HeardLine → ReadLine
line_of heard = heard.line

line_told-in : (event : BotEvent) (report : Report) (events : List BotEvent) (lines : List HeardLine) → map line_of lines ≡ lines_in events
    → map line_of (line_told event report ++ lines) ≡ line_in event ++ lines_in events
line_told-in Connect report events lines same = same
line_told-in (Line line) report events lines same = ap (λ (l : List ReadLine). line ∷ l) same
line_told-in (Ask change) report events lines same = same
line_told-in Pump report events lines same = same
line_told-in (Receive packet) report events lines same = same
line_told-in (Clock now) report events lines same = same
line_told-in (Bind asked) report events lines same = same
line_told-in (Unbind gone) report events lines same = same
line_told-in Compact report events lines same = same
line_told-in Restart report events lines same = same

lines_told-in : (promised : Promised) (names : List (List ℕ)) (old new : Bot) (events : List BotEvent) (reports : List Report)
    → Steps promised names old events reports new → map line_of (lines_told events reports) ≡ lines_in events
unfolding Steps
lines_told-in promised names old new [] [] p = refl
lines_told-in promised names old new [] (r ∷ reports) p = absurd p
lines_told-in promised names old new (e ∷ events) [] p = absurd p
lines_told-in promised names old new (e ∷ events) (r ∷ reports) (next, made, p) =
    line_told-in e r events (lines_told events reports) (lines_told-in promised names next new events reports p)

-- any event but a line
abbrev pub IsNoLine : BotEvent → Type 0
IsNoLine Connect = Unit {0}
IsNoLine (Line line) = ⊥
IsNoLine (Ask change) = Unit {0}
IsNoLine Pump = Unit {0}
IsNoLine (Receive packet) = Unit {0}
IsNoLine (Clock now) = Unit {0}
IsNoLine (Bind asked) = Unit {0}
IsNoLine (Unbind gone) = Unit {0}
IsNoLine Compact = Unit {0}
IsNoLine Restart = Unit {0}

-- an event that is not a line has none
line_told-none : (event : BotEvent) (report : Report) → IsNoLine event → line_told event report ≡ []
line_told-none Connect report other = refl
line_told-none (Line line) report other = absurd other
line_told-none (Ask change) report other = refl
line_told-none Pump report other = refl
line_told-none (Receive packet) report other = refl
line_told-none (Clock now) report other = refl
line_told-none (Bind asked) report other = refl
line_told-none (Unbind gone) report other = refl
line_told-none Compact report other = refl
line_told-none Restart report other = refl

-- what keeping the report of such an event tells, if it does not fail
pub told-if-ok : {X E : Type 0} (promised : Promised) (names : List (List ℕ)) (result : Result X E) (old : Bot) (event : BotEvent)
    (report : Report) (new : Bot) (lines new_lines : List HeardLine) (before mid after : List Report)
    → IsNoLine event → TakesStep promised names old event report new → AreGood report.packets → new_lines ≡ lines → mid ≡ before
    → OnOk result (report.end ≢ ends_no_memory) → OnOk result (after ≡ mid ++ report ∷ [])
    → OnOk result (IsTold promised names old event lines new_lines before after new)
told-if-ok promised names (Err why) old event report new lines new_lines before mid after other takes good same is made told = tt
told-if-ok promised names (Ok kept) old event report new lines new_lines before mid after other takes good same is made told = record {
  report = report;
  makes = record { takes = takes; made = made };
  good = good;
  heard = same ∙ sym (append-nil lines) ∙ ap (λ (l : List HeardLine). lines ++ l) (sym (line_told-none event report other));
  told = told ∙ ap (λ (r : List Report). r ++ report ∷ []) is;
}

-- ---- a turn

module _ (promised : Promised) (names : List (List ℕ)) where
  -- the steps of the first events of a turn are made, and these events are left
  pub record IsTurning (old : Bot) (held : List ℕ) (heard : Heard) (after : List ℕ)
      (lines : List HeardLine) (reports : List Report) (new : Bot) (rest : List BotEvent) : Type 0 where
    pub events : List BotEvent
    pub are : AreEvents heard held events after
    pub stepping : IsStepping promised names old events lines reports new rest

  -- no step is made yet
  pub IsTurning-none : (old : Bot) (held : List ℕ) (heard : Heard) (after : List ℕ) (lines : List HeardLine) (reports : List Report)
      (events left : List BotEvent)
      → left ≡ events → lines ≡ [] → reports ≡ [] → AreEvents heard held events after → AllByRecursion HasGoodRecords heard.packets.items
      → IsTurning old held heard after lines reports old left
  IsTurning-none old held heard after lines reports events left is no_lines none are good = record {
    events = events;
    are = are;
    stepping = subst (IsStepping promised names old events lines reports old) (sym is)
        (IsStepping-none promised names old events lines reports no_lines none (AreEvents-good heard held events after are good));
  }

  -- one step more
  pub IsTurning-next : (old mid new : Bot) (held : List ℕ) (heard : Heard) (after : List ℕ) (lines new_lines : List HeardLine)
      (before reports : List Report) (event : BotEvent) (left rest : List BotEvent)
      → left ≡ event ∷ rest → IsTurning old held heard after lines before mid left
      → IsTold promised names mid event lines new_lines before reports new
      → IsTurning old held heard after new_lines reports new rest
  IsTurning-next old mid new held heard after lines new_lines before reports event left rest is at told = record {
    events = at.events;
    are = at.are;
    stepping = IsStepping-next promised names old mid new at.events lines new_lines before reports event rest
        (subst (IsStepping promised names old at.events lines before mid) is at.stepping) told;
  }

  -- all steps are made
  pub Turns-all : (old new : Bot) (held : List ℕ) (heard : Heard) (after : List ℕ) (lines : List HeardLine) (reports : List Report)
      (rest : List BotEvent) (told : Told)
      → rest ≡ [] → IsTurning old held heard after lines reports new rest
      → told.end ≡ Done → told.lines ≡ lines → told.reports ≡ reports
      → Turns promised names old held heard told new after
  Turns-all old new held heard after lines reports rest told none at ends is_lines is_reports =
      let to = IsStepping-all promised names old new at.events lines reports rest none at.stepping in
      subst (λ (e : TurnEnd). TurnsTo e promised names old held heard told new after) (sym ends) (record {
        events = at.events;
        are = at.are;
        steps = subst (λ (r : List Report). Steps promised names old at.events r new) (sym is_reports) to.steps;
        lines = is_lines ∙ to.heard ∙ ap (λ (r : List Report). lines_told at.events r) (sym is_reports);
        all = ap (λ (l : List HeardLine). map line_of l) (is_lines ∙ to.heard)
            ∙ lines_told-in promised names old new at.events reports to.steps
            ∙ ap lines_in at.are.all ∙ lines_in-turn heard at.are.lines;
      })

  -- memory ran out in a step, or between two of them
  pub Turns-first : (old mid new : Bot) (held : List ℕ) (heard : Heard) (after : List ℕ) (lines new_lines : List HeardLine)
      (before reports : List Report) (event : BotEvent) (left rest : List BotEvent) (told : Told)
      → left ≡ event ∷ rest → IsTurning old held heard after lines before mid left
      → new_lines ≡ lines → reports ≡ before → Stops promised names mid event new
      → told.end ≡ NoMemory → told.lines ≡ new_lines → told.reports ≡ reports
      → Turns promised names old held heard told new after
  Turns-first old mid new held heard after lines new_lines before reports event left rest told is at same_lines same stops ends is_lines is_reports =
      let to = IsStepping-stop promised names old mid new at.events lines new_lines before reports event rest
      (subst (IsStepping promised names old at.events lines before mid) is at.stepping) same_lines same stops in
      subst (λ (e : TurnEnd). TurnsTo e promised names old held heard told new after) (sym ends) (inr (record {
        events = at.events;
        are = at.are;
        steps = record {
          first = to.steps.first;
          next = to.steps.next;
          rest = to.steps.rest;
          mid = to.steps.mid;
          all = to.steps.all;
          steps = subst (λ (r : List Report). Steps promised names old to.steps.first r to.steps.mid) (sym is_reports) to.steps.steps;
          stops = to.steps.stops;
        };
        lines = is_lines ∙ to.heard ∙ ap (λ (r : List Report). lines_told to.steps.first r) (sym is_reports);
      }))

  -- memory ran out before the first step
  pub Turns-none : (old new : Bot) (held after : List ℕ) (heard : Heard) (told : Told)
      → told.end ≡ NoMemory → told.lines ≡ [] → told.reports ≡ [] → new ≡ old
      → Turns promised names old held heard told new after
  Turns-none old new held after heard told ends no_lines none same =
      subst (λ (e : TurnEnd). TurnsTo e promised names old held heard told new after) (sym ends)
      (inl (record { lines = no_lines; none = none; same = same }))
