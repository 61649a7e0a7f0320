-- A world is a list of deeds.
use Rattle.std.proofs.Common.{◌≡◌, ◌∙◌, ◌==◌, ℕ, Bool, true, false, List, [], ◌∷◌, ◌++◌, slice_get, Option, None, Some, refl, ap, sym, subst, append_assoc, append-nil, eqb-true}
use Rattle.std.proofs.lemmas.Bool.{eqb-false}
use Rattle.procs.specs.Promises.{Promised}
use Rattle.botcore.specs.Bots.{Bot}
use Rattle.botworld.specs.declared.sent.Sent.{Sent}
use Rattle.processes.specs.Deeds.{Process, Runs, Ended, Net, Deed, Run, Stays, IsFirst, net_after}
use Rattle.runlaws.specs.Calls.{doing}
use Rattle.runlaws.specs.Folders.{Folder, What, Does, Takes, Ends, Happening, Holder, NoneYet, NoneNow, Holds, past_of, is_holder, holder_after, holder_with, holder_of, bot_by, bot_of, process_of, call_by}
use Rattle.runlaws.specs.Worlds.{sent_after, sent_in, step_by, steps_in, steps_of, StaysBy, StaysIn, Comes, IsLawfulIn, IsWorld}
use Rattle.runlaws.specs.Histories.{GrowsIn}
use Rattle.runlaws.proofs.Lawful.{act_may, begun_may}
use Rattle.runlaws.proofs.Lists.{Run-append, Stays-append, net_after-append, steps_of-append}
use Rattle.runlaws.proofs.Stages.{StageBy, IsNetOf, Holding-still, stage_shows, holding_there, Becomes}
use Rattle.runlaws.proofs.Acting.{act_goes}
use Rattle.runlaws.proofs.Taking.{takes_goes}
use Rattle.runlaws.proofs.Ending.{StepsDie, end_goes}
use Rattle.runlaws.proofs.Telling.{still_told}

-- ---- a net that stands for a world

-- each process that holds a number stands in it
pub net_shows : (folders : ℕ → Folder) (leaves : ℕ) (first : Net) (world : List Happening) (w : Net) → IsNetOf folders leaves first world w
    → (number : ℕ) (process : Process) → process_of folders number world ≡ Some process → slice_get w.processes number ≡ Some process
net_shows folders leaves first world w net number process is =
    stage_shows folders (holder_of folders number world) number (sent_in folders world) (slice_get first.processes number) world
    (slice_get w.processes number) process (net.each number) is

runs_it : (process : Option Process) (bot : Bot) → bot_by process ≡ Some bot → process ≡ Some (Runs bot)
runs_it None bot is = cc
runs_it (Some (Runs one)) bot is = let same : one ≡ bot = cc in ap (λ (it : Bot). Some (Runs it)) same
runs_it (Some (Ended x y)) bot is = cc

-- and so does each bot that a process has
pub bot_stands : (folders : ℕ → Folder) (leaves : ℕ) (first : Net) (world : List Happening) (w : Net) → IsNetOf folders leaves first world w
    → (number : ℕ) (bot : Bot) → bot_of folders number world ≡ Some bot → slice_get w.processes number ≡ Some (Runs bot)
bot_stands folders leaves first world w net number bot is =
    net_shows folders leaves first world w net number (Runs bot) (runs_it (process_of folders number world) bot is)

pub first_net : (folders : ℕ → Folder) (leaves : ℕ) (first : Net) → IsFirst leaves first → IsNetOf folders leaves first [] first
first_net folders leaves first is = record { many = is.many; sent = is.packets; each = λ number. refl }

-- From a net that stands for a world these deeds lead to one that stands for a later world. They have among them the
-- steps that were made in between, and replace no bot whose number no folder takes in between.
pub record Grows (promised : Promised) (folders : ℕ → Folder) (leaves : ℕ) (first w : Net) (world more : List Happening) : Type 0 where
  pub deeds : List Deed
  pub run : Run promised w deeds
  pub stays : (bot : ℕ) → StaysIn folders bot more → Stays bot deeds
  pub steps : steps_in folders (more ++ world) ≡ steps_in folders world ++ steps_of deeds
  pub net : IsNetOf folders leaves first (more ++ world) (net_after w deeds)

-- from the first net these deeds lead to one that stands for a world
pub record Reaches (promised : Promised) (folders : ℕ → Folder) (leaves : ℕ) (first : Net) (world : List Happening) : Type 0 where
  pub deeds : List Deed
  pub run : Run promised first deeds
  pub steps : steps_in folders world ≡ steps_of deeds
  pub net : IsNetOf folders leaves first world (net_after first deeds)

module _ (promised : Promised) (folders : ℕ → Folder) (leaves : ℕ) (first : Net) (dies : StepsDie promised) where
  -- ---- one happening

  -- it becomes deeds of this net
  abbrev pub IsAmongDeeds : Net → List Happening → ℕ → What → Type 0
  IsAmongDeeds w world folder what =
      let number = (folders folder).number in
      let holder = holder_of folders number world in
      Becomes promised w number (sent_after folder holder number what w.packets)
      (step_by folders (is_holder folder holder) folder (doing (past_of folder world)) what) (GrowsIn (is_holder folder holder) number what)
      (StaysBy what number)
      (StageBy folders (holder_after folder what holder) number (sent_after folder holder number what (sent_in folders world))
      (slice_get first.processes number) (record { folder = folder; what = what } ∷ world))

  pub what_goes : (w : Net) (world : List Happening) → IsNetOf folders leaves first world w → (folder : ℕ) (what : What)
      → IsLawfulIn promised folders leaves folder (record { folder = folder; what = what } ∷ world)
      → Comes promised folders leaves first world folder what → IsAmongDeeds w world folder what
  what_goes w world net folder (Does act) lawful comes =
      act_goes promised folders leaves first w world folder net.sent net.many
      (holder_of folders (folders folder).number world) act (act_may promised folders leaves folder world act lawful) comes (net.each (folders folder).number)
  what_goes w world net folder (Takes bot) lawful next =
      let may = begun_may promised folders leaves folder world bot lawful in
      takes_goes promised folders leaves first w world folder net bot may.1 may.2
      (holder_of folders (folders folder).number world) next (net.each (folders folder).number)
  what_goes w world net folder (Ends x y) lawful left =
      end_goes promised folders leaves first w world folder net.sent net.many dies x y
      (holder_of folders (folders folder).number world) left (net.each (folders folder).number)

  module _ (w : Net) (world : List Happening) (h : Happening) (net : IsNetOf folders leaves first world w)
      (comes : Comes promised folders leaves first world h.folder h.what) (it : IsAmongDeeds w world h.folder h.what) where
    abbrev number : ℕ
    number = (folders h.folder).number

    -- a folder of another number is another folder
    other_folder : (other folder : ℕ) → (number == other) ≡ false → (folders folder).number ≡ other → (h.folder == folder) ≡ false
    other_folder other folder e of = by (h.folder == folder) refl
      where
        by : (b : Bool) → (h.folder == folder) ≡ b → (h.folder == folder) ≡ false
        by false is = is
        by true is = absurd (eqb-false number other e (ap (λ (f : ℕ). (folders f).number) (eqb-true h.folder folder is) ∙ of))

    -- a bot of another number stands as it stood
    stands_still : (other : ℕ) → (number == other) ≡ false → (holder : Holder) → holder_of folders other world ≡ holder
        → StageBy folders holder other (sent_in folders world) (slice_get first.processes other) world (slice_get w.processes other)
        → StageBy folders holder other (sent_in folders (h ∷ world)) (slice_get first.processes other) (h ∷ world)
        (slice_get (net_after w it.few).processes other)
    stands_still other e NoneYet is at = it.others other (λ same. eqb-false number other e (sym same)) ∙ at
    stands_still other e NoneNow is at = (at.0, it.others other (λ same. eqb-false number other e (sym same)) ∙ at.1)
    stands_still other e (Holds folder) is at = (
      at.0,
      holding_there h.folder h.what world folder (other_folder other folder e at.0)
          (Holding-still (sent_in folders (h ∷ world)) (slice_get (net_after w it.few).processes other)
          (λ bot event d. still_told promised folders leaves first world h.folder h.what comes other bot event
          (ap (λ (z : Holder). call_by z world) is ∙ d))
          (it.others other (λ same. eqb-false number other e (sym same))) at.1),
    )

    each_after : (other : ℕ) (here : Bool) → (number == other) ≡ here
        → StageBy folders (holder_with folders here h (holder_of folders other world)) other (sent_in folders (h ∷ world))
        (slice_get first.processes other) (h ∷ world) (slice_get (net_after w it.few).processes other)
    each_after other true e =
        subst (λ (o : ℕ). StageBy folders (holder_after h.folder h.what (holder_of folders o world)) o (sent_in folders (h ∷ world))
        (slice_get first.processes o) (h ∷ world) (slice_get (net_after w it.few).processes o)) (eqb-true number other e) it.here
    each_after other false e = stands_still other e (holder_of folders other world) refl (net.each other)

    pub net_goes : IsNetOf folders leaves first (h ∷ world) (net_after w it.few)
    net_goes = record {
      many = it.many ∙ net.many;
      sent = it.sent ∙ ap (λ (ps : List Sent). sent_after h.folder (holder_of folders number world) number h.what ps) net.sent;
      each = λ other. each_after other (number == other) refl;
    }

  -- ---- all that happens

  pub goes : (w : Net) (world more : List Happening) → IsNetOf folders leaves first world w
      → IsWorld promised folders leaves first (more ++ world) → Grows promised folders leaves first w world more
  goes w world [] net is = record {
    deeds = [];
    run = tt;
    stays = λ bot stays. tt;
    steps = sym (append-nil (steps_in folders world));
    net = net;
  }
  goes w world (h ∷ more) net is =
      let rest = goes w world more net is.2 in
      let it = what_goes (net_after w rest.deeds) (more ++ world) rest.net h.folder h.what is.0 is.1 in
      let now = net_goes (net_after w rest.deeds) (more ++ world) h rest.net is.1 it in
      record {
        deeds = rest.deeds ++ it.few;
        run = Run-append promised w rest.deeds it.few rest.run it.run;
        stays = λ bot stays. Stays-append bot rest.deeds it.few (rest.stays bot stays.1) (it.stays bot stays.0);
        steps = ap (λ (ds : List Deed). steps_in folders (more ++ world) ++ ds) (sym it.steps)
            ∙ ap (λ (ds : List Deed). ds ++ steps_of it.few) rest.steps
            ∙ append_assoc (steps_in folders world) (steps_of rest.deeds) (steps_of it.few)
            ∙ ap (λ (ds : List Deed). steps_in folders world ++ ds) (sym (steps_of-append rest.deeds it.few));
        net = subst (λ (n : Net). IsNetOf folders leaves first (h ∷ (more ++ world)) n) (sym (net_after-append w rest.deeds it.few)) now;
      }

  -- from the first moment on
  pub all_goes : (world : List Happening) → IsFirst leaves first → IsWorld promised folders leaves first world
      → Reaches promised folders leaves first world
  all_goes world is_first is =
      let all = goes first [] world (first_net folders leaves first is_first)
      (subst (λ (ws : List Happening). IsWorld promised folders leaves first ws) (sym (append-nil world)) is) in
      record {
        deeds = all.deeds;
        run = all.run;
        steps = ap (λ (ws : List Happening). steps_in folders ws) (sym (append-nil world)) ∙ all.steps;
        net = subst (λ (ws : List Happening). IsNetOf folders leaves first ws (net_after first all.deeds)) (append-nil world) all.net;
      }
