-- Deeds one after another, and the text that they add.
use Rattle.std.proofs.Common.{◌≡◌, ℕ, ◌+◌, ◌<◌, ◌≤◌, List, [], ◌∷◌, ◌++◌, length, take, map, get_or, refl, sym, ap, subst, ◌∙◌, arith, append_assoc}
use Rattle.std.proofs.Common.{append-nil, Result, Ok, Err, OnOk, Bool, false, nat_lt}
use Rattle.std.proofs.lemmas.Bool.Decides.{nat_tests}
use Rattle.std.proofs.lemmas.List.{take_more, take_all, map-append}
use Rattle.std.proofs.lemmas.Grind.{flat_map-append}
use Rattle.procs.specs.Promises.{Promised}
use Rattle.script.specs.declared.command.Command.{Command}
use Rattle.botworld.specs.declared.outcome.Outcome.{Outcome}
use Rattle.botworld.specs.declared.step.Step.{Step}
use Rattle.botworld.specs.Net.{Net}
use Rattle.botworld.specs.Network.{State, IsMade, AllMade}
use Rattle.botworld.specs.Standing.{Moment, Past, Run, Stands, LeadsTo, beginning, later, steps_of, outcomes_of}
use Rattle.replay.specs.Text.{outcome_text}
use Rattle.replay.specs.Deeds.{Deed, Makes, Shows, command_deeds, deeds_of, steps_in, deeds_text, net_text}
use Rattle.replay.specs.Doing.{Does, IsDoneFrom}

-- runs, one after the other -----------------------------------------------------------------------------------------------

steps_of-append : (xs ys : List Moment) → steps_of (xs ++ ys) ≡ steps_of xs ++ steps_of ys
steps_of-append [] ys = refl
steps_of-append (x ∷ xs) ys = ap (λ (l : List Step). x.step ∷ l) (steps_of-append xs ys)

AllMade-append : (xs ys : List Moment) → AllMade (outcomes_of xs) → AllMade (outcomes_of ys) → AllMade (outcomes_of (xs ++ ys))
AllMade-append [] ys one two = two
AllMade-append (x ∷ xs) ys one two = (one.0, AllMade-append xs ys one.1 two)

-- a run of one step that is not cut has one outcome
pub uncut-one : (outcomes steps : ℕ) (cut : Bool) → steps ≡ 1 → cut ≡ nat_lt outcomes steps → cut ≡ false → outcomes ≤ steps → outcomes ≡ 1
uncut-one outcomes steps cut one is uncut most =
    let test : nat_lt outcomes steps ≡ false = sym is ∙ uncut in grind (arith, nat_tests)

steps_in-append : (xs ys : List Deed) → steps_in (xs ++ ys) ≡ steps_in xs ++ steps_in ys
steps_in-append [] ys = refl
steps_in-append (Makes step ∷ xs) ys = ap (λ (l : List Step). step ∷ l) (steps_in-append xs ys)
steps_in-append (Shows bot ∷ xs) ys = steps_in-append xs ys

module _ (promised : Promised) where
  Run-append : (first mid last : State) (xs ys : List Moment) → Run promised first xs mid → Run promised mid ys last
      → Run promised first (xs ++ ys) last
  Run-append first mid last [] ys one two = subst (λ (s : State). Run promised s ys last) one two
  Run-append first mid last (x ∷ xs) ys one two = (one.0, one.1, Run-append x.after mid last xs ys one.2 two)

  -- the text goes on where the run left off
  deeds_text-append : (s last : State) (ds es : List Deed) (ms ns : List Moment) → Run promised s ms last → steps_of ms ≡ steps_in ds
      → deeds_text s (ds ++ es) (ms ++ ns) ≡ deeds_text s ds ms ++ deeds_text last es ns
  deeds_text-append s last [] es [] ns run same = ap (λ (t : State). deeds_text t es ns) (sym run)
  deeds_text-append s last [] es (m ∷ ms) ns run same = cc
  deeds_text-append s last (Shows bot ∷ ds) es ms ns run same =
      ap (λ (t : List ℕ). net_text s.net bot ++ t) (deeds_text-append s last ds es ms ns run same)
      ∙ sym (append_assoc (net_text s.net bot) (deeds_text s ds ms) (deeds_text last es ns))
  deeds_text-append s last (Makes step ∷ ds) es [] ns run same = cc
  deeds_text-append s last (Makes step ∷ ds) es (m ∷ ms) ns run same =
      let rest : steps_of ms ≡ steps_in ds = cc in
      ap (λ (t : List ℕ). outcome_text m.after.net.packets m.outcome ++ t) (deeds_text-append m.after last ds es ms ns run.2 rest)
      ∙ sym (append_assoc (outcome_text m.after.net.packets m.outcome) (deeds_text m.after ds ms) (deeds_text last es ns))

  -- deeds -------------------------------------------------------------------------------------------------------------------

  unmoved : (past : Past) (w : Net) → Stands promised w past → Stands promised w (later past [] past.now)
  unmoved past w stands =
      subst (λ (h : List Moment). Stands promised w (record { first = past.first; history = h; now = past.now })) (sym (append-nil past.history)) stands

  pub Does-none : (past : Past) (w : Net) (text : List ℕ) → Stands promised w past → Does promised past [] w text text
  Does-none past w text stands = record {
    moments = [];
    last = past.now;
    run = refl;
    steps = refl;
    made = tt;
    added = sym (append-nil text);
    stands = unmoved past w stands;
  }

  pub Does-more : (past : Past) (ds es : List Deed) (w v : Net) (before mid after : List ℕ) → Does promised past ds w before mid
      → ((p : Past) → Stands promised w p → Does promised p es v mid after) → Does promised past (ds ++ es) v before after
  Does-more past ds es w v before mid after one next =
      let two = next (later past one.moments one.last) one.stands in
      record {
        moments = one.moments ++ two.moments;
        last = two.last;
        run = Run-append past.now one.last two.last one.moments two.moments one.run two.run;
        steps = steps_of-append one.moments two.moments ∙ ap (λ (l : List Step). l ++ steps_of two.moments) one.steps
            ∙ ap (λ (l : List Step). steps_in ds ++ l) two.steps ∙ sym (steps_in-append ds es);
        made = AllMade-append one.moments two.moments one.made two.made;
        added = two.added ∙ ap (λ (t : List ℕ). t ++ deeds_text one.last es two.moments) one.added
            ∙ append_assoc before (deeds_text past.now ds one.moments) (deeds_text one.last es two.moments)
            ∙ ap (λ (t : List ℕ). before ++ t) (sym (deeds_text-append past.now one.last ds es one.moments two.moments one.run one.steps));
        stands = subst (λ (h : List Moment). Stands promised v (record { first = past.first; history = h; now = two.last }))
            (append_assoc past.history one.moments two.moments) two.stands;
      }

  -- a step that was made, and whose lines were added
  step_does : (past : Past) (w : Net) (step : Step) (o : Outcome) (before after : List ℕ) (moments : List Moment) (last : State)
      → steps_of moments ≡ step ∷ [] → outcomes_of moments ≡ o ∷ [] → Run promised past.now moments last
      → Stands promised w (later past moments last) → IsMade o → after ≡ before ++ outcome_text w.packets o
      → Does promised past (Makes step ∷ []) w before after
  step_does past w step o before after [] last steps outcomes run stands made added = cc
  step_does past w step o before after (m ∷ n ∷ rest) last steps outcomes run stands made added = cc
  step_does past w step o before after (m ∷ []) last steps outcomes run stands made added =
      let same : m.outcome ≡ o = cc in
      let there : w ≡ m.after.net = stands.net ∙ ap (λ (s : State). s.net) run.2 in
      record {
        moments = m ∷ [];
        last = last;
        run = run;
        steps = steps;
        made = (subst IsMade (sym same) made, tt);
        added = added ∙ ap (λ (v : Net). before ++ outcome_text v.packets o) there
            ∙ ap (λ (p : Outcome). before ++ outcome_text m.after.net.packets p) (sym same)
            ∙ ap (λ (t : List ℕ). before ++ t) (sym (append-nil (outcome_text m.after.net.packets m.outcome)));
        stands = stands;
      }

  -- a bot that is shown
  show_does : (past : Past) (w : Net) (bot : ℕ) (before after : List ℕ) → Stands promised w past → after ≡ before ++ net_text w bot
      → Does promised past (Shows bot ∷ []) w before after
  show_does past w bot before after stands added =
      record {
        moments = [];
        last = past.now;
        run = refl;
        steps = refl;
        made = tt;
        added = added ∙ ap (λ (v : Net). before ++ net_text v bot) stands.net ∙ ap (λ (t : List ℕ). before ++ t) (sym (append-nil (net_text past.now.net bot)));
        stands = unmoved past w stands;
      }

  -- the same of what calls answer -------------------------------------------------------------------------------------------

  pub show_put : {E : Type 0} (r : Result Unit E) (w : Net) (bot : ℕ) (before after : List ℕ) → OnOk r (after ≡ before ++ net_text w bot)
      → OnOk r ((past : Past) → Stands promised w past → Does promised past (Shows bot ∷ []) w before after)
  show_put (Ok u) w bot before after added = λ past stands. show_does past w bot before after stands added
  show_put (Err e) w bot before after added = tt

  -- one outcome of one step, whose lines were put
  LeadsTo-one : (past : Past) (w : Net) (step : Step) (o : Outcome) (outcomes : List Outcome) (before after : List ℕ) → length outcomes ≡ 1
      → o ≡ get_or outcomes 0 o → LeadsTo promised past (take (length outcomes) (step ∷ [])) outcomes w → IsMade o
      → after ≡ before ++ outcome_text w.packets o → Does promised past (Makes step ∷ []) w before after
  LeadsTo-one past w step o [] before after one is led made added = absurd (omega (arith, one))
  LeadsTo-one past w step o (p ∷ q ∷ rest) before after one is led made added = absurd (omega (arith, one))
  LeadsTo-one past w step o (p ∷ []) before after one is led made added =
      step_does past w step o before after led.moments led.after led.steps_are (led.outcomes_are ∙ ap (λ (x : Outcome). x ∷ []) (sym is)) led.run led.stands
      made added

  pub outcome_put : {E : Type 0} (r : Result Unit E) (old new : Net) (step : Step) (steps : List Step) (o : Outcome) (outcomes : List Outcome)
      (before after : List ℕ)
      → steps ≡ step ∷ [] → length outcomes ≡ 1 → o ≡ get_or outcomes 0 o
      → ((past : Past) → Stands promised old past → LeadsTo promised past (take (length outcomes) steps) outcomes new)
      → OnOk r (IsMade o) → OnOk r (after ≡ before ++ outcome_text new.packets o)
      → OnOk r ((past : Past) → Stands promised old past → Does promised past (Makes step ∷ []) new before after)
  outcome_put (Ok u) old new step steps o outcomes before after only one is led made added = λ past stands.
      LeadsTo-one past new step o outcomes before after one is
      (subst (λ (l : List Step). LeadsTo promised past (take (length outcomes) l) outcomes new) only (led past stands)) made added
  outcome_put (Err e) old new step steps o outcomes before after only one is led made added = tt

  -- one more step of a list, and one more command
  pub Does-step : (past : Past) (steps : List Step) (i : ℕ) (step : Step) (w v : Net) (before mid after : List ℕ) → i < length steps → step ≡ get_or steps i step
      → Does promised past (map Makes (take i steps)) w before mid
      → ((p : Past) → Stands promised w p → Does promised p (Makes step ∷ []) v mid after)
      → Does promised past (map Makes (take (i + 1) steps)) v before after
  Does-step past steps i step w v before mid after within is one next =
      let front : take (i + 1) steps ≡ take i steps ++ step ∷ [] =
      take_more steps i step within ∙ ap (λ (s : Step). take i steps ++ s ∷ []) (sym is) in
      let same : map Makes (take (i + 1) steps) ≡ map Makes (take i steps) ++ Makes step ∷ [] =
      ap (map Makes) front ∙ map-append Makes (take i steps) (step ∷ []) in
      subst (λ (ds : List Deed). Does promised past ds v before after) (sym same)
      (Does-more past (map Makes (take i steps)) (Makes step ∷ []) w v before mid after one next)

  pub Does-command : (past : Past) (commands : List Command) (i : ℕ) (command : Command) (w v : Net) (before mid after : List ℕ) → i < length commands
      → command ≡ get_or commands i command
      → Does promised past (deeds_of (take i commands)) w before mid
      → ((p : Past) → Stands promised w p → Does promised p (command_deeds command) v mid after)
      → Does promised past (deeds_of (take (i + 1) commands)) v before after
  Does-command past commands i command w v before mid after within is one next =
      let front : take (i + 1) commands ≡ take i commands ++ command ∷ [] =
      take_more commands i command within ∙ ap (λ (c : Command). take i commands ++ c ∷ []) (sym is) in
      let same : deeds_of (take (i + 1) commands) ≡ deeds_of (take i commands) ++ command_deeds command =
      ap deeds_of front ∙ flat_map-append command_deeds (take i commands) (command ∷ [])
      ∙ ap (λ (ds : List Deed). deeds_of (take i commands) ++ ds) (append-nil (command_deeds command)) in
      subst (λ (ds : List Deed). Does promised past ds v before after) (sym same)
      (Does-more past (deeds_of (take i commands)) (command_deeds command) w v before mid after one next)

  -- and all of them
  pub Does-steps : (past : Past) (steps : List Step) (count : ℕ) (w : Net) (before after : List ℕ) → length steps ≤ count
      → Does promised past (map Makes (take count steps)) w before after → Does promised past (map Makes steps) w before after
  Does-steps past steps count w before after all does =
      subst (λ (l : List Step). Does promised past (map Makes l) w before after) (take_all count steps all) does

  pub Does-commands : (past : Past) (commands : List Command) (count : ℕ) (w : Net) (before after : List ℕ) → length commands ≤ count
      → Does promised past (deeds_of (take count commands)) w before after → Does promised past (deeds_of commands) w before after
  Does-commands past commands count w before after all does =
      subst (λ (l : List Command). Does promised past (deeds_of l) w before after) (take_all count commands all) does

  -- the text of deeds from the first moment on
  pub Does-first : (s : State) (given commands : List Command) (w : Net) (before text : List ℕ) → before ≡ [] → given ≡ commands
      → Does promised (beginning s) (deeds_of given) w before text → IsDoneFrom promised s (deeds_of commands) text
  Does-first s given commands w before text none same does =
      subst (λ (l : List Command). IsDoneFrom promised s (deeds_of l) text) same (record {
        moments = does.moments;
        last = does.last;
        run = does.run;
        steps = does.steps;
        made = does.made;
        tells = does.added ∙ ap (λ (b : List ℕ). b ++ deeds_text s (deeds_of given) does.moments) none;
      })
