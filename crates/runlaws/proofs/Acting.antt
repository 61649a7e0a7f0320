-- What each act of a process is among the deeds.
use Rattle.std.proofs.Common.{◌≡◌, ◌+◌, ◌==◌, ℕ, Bool, true, false, if◌then◌else◌, List, ◌∷◌, ◌++◌, length, slice_get, slice_set, Option, Some, refl, ap, sym, subst, append-nil, eq-eqb, eqb-true}
use Rattle.sharewire.specs.declared.packet.Packet.{Packet}
use Rattle.sharelink.specs.declared.answer.Outgoing.{Outgoing}
use Rattle.procs.specs.Promises.{Promised}
use Rattle.botcore.specs.declared.event.BotEvent.{BotEvent}
use Rattle.botcore.specs.declared.report.Report.{Report}
use Rattle.botcore.specs.Bots.{Bot}
use Rattle.botworld.specs.declared.sent.Sent.{Sent}
use Rattle.botworld.specs.Net.{posted}
use Rattle.watching.specs.Acts.{Act, Opens, Creates, Began, Told, Made, Forgets, Hears, Sends, Waits, HasNoBot, Begins, IsBotOf, IsKept, EndsStep, May, bot_in}
use Rattle.processes.specs.Deeds.{Process, Runs, Ended, Net, Made as MadeStep, Opened, WasTold}
use Rattle.runlaws.specs.Calls.{Doing, Nothing, Opening, Telling, doing}
use Rattle.runlaws.specs.Folders.{Folder, Does, Happening, HasFiles, Holder, NoneYet, NoneNow, Holds, past_of, files_of, is_holder, holder_after}
use Rattle.runlaws.specs.Worlds.{posted_by, sent_in, step_ended, step_by, StaysBy, IfHolds, Meets, station}
use Rattle.runlaws.specs.Histories.{GrowsBy}
use Rattle.runlaws.proofs.Calls.{EndsCall, opened_as, no_beginning, no_beginning_in_step, ends_call}
use Rattle.runlaws.proofs.Stages.{Holding, Rests, IsOpening, Lives, MakesStep, StageBy, some_process, rests, has, holding_here, holding_there, Growth, Becomes, no_deed, one_deed}

-- ---- who holds a number after an act

keeps_none_yet : (folder : ℕ) (act : Act) → holder_after folder (Does act) NoneYet ≡ NoneYet
keeps_none_yet folder (Opens x y) = refl
keeps_none_yet folder (Creates x y last) = refl
keeps_none_yet folder (Began bot) = refl
keeps_none_yet folder (Told bot event) = refl
keeps_none_yet folder (Made report bot) = refl
keeps_none_yet folder (Forgets bot) = refl
keeps_none_yet folder (Hears heard) = refl
keeps_none_yet folder (Sends outgoing) = refl
keeps_none_yet folder Waits = refl

keeps_none_now : (folder : ℕ) (act : Act) → holder_after folder (Does act) NoneNow ≡ NoneNow
keeps_none_now folder (Opens x y) = refl
keeps_none_now folder (Creates x y last) = refl
keeps_none_now folder (Began bot) = refl
keeps_none_now folder (Told bot event) = refl
keeps_none_now folder (Made report bot) = refl
keeps_none_now folder (Forgets bot) = refl
keeps_none_now folder (Hears heard) = refl
keeps_none_now folder (Sends outgoing) = refl
keeps_none_now folder Waits = refl

keeps_other : (folder other : ℕ) → (folder == other) ≡ false → (act : Act) → holder_after folder (Does act) (Holds other) ≡ Holds other
keeps_other folder other e (Opens x y) = refl
keeps_other folder other e (Creates x y last) = ap (λ (b : Bool). if b then NoneNow else Holds other) e
keeps_other folder other e (Began bot) = refl
keeps_other folder other e (Told bot event) = refl
keeps_other folder other e (Made report bot) = refl
keeps_other folder other e (Forgets bot) = ap (λ (b : Bool). if b then NoneNow else Holds other) e
keeps_other folder other e (Hears heard) = refl
keeps_other folder other e (Sends outgoing) = refl
keeps_other folder other e Waits = refl

module _ (promised : Promised) (folders : ℕ → Folder) (leaves : ℕ) (first w : Net) (world : List Happening) (folder : ℕ)
    (packets : w.packets ≡ sent_in folders world) (many : length w.processes ≡ leaves + 1) where
  abbrev number : ℕ
  number = (folders folder).number

  -- the act becomes deeds, in a folder that held its number or not, and then this one holds it
  abbrev pub GoesBy : Act → Bool → Holder → Type 0
  GoesBy act holding after = Becomes promised w number (posted_by holding number act w.packets)
      (step_by folders holding folder (doing (past_of folder world)) (Does act)) (GrowsBy holding number act) (StaysBy (Does act) number)
      (StageBy folders after number (posted_by holding number act (sent_in folders world)) (slice_get first.processes number)
      (record { folder = folder; what = Does act } ∷ world))

  -- ---- in a folder that doesn't hold its number

  goes_aside : (act : Act) (after : Holder) → StageBy folders after number (sent_in folders world) (slice_get first.processes number)
      (record { folder = folder; what = Does act } ∷ world) (slice_get w.processes number) → GoesBy act false after
  goes_aside act after stands = no_deed promised w number (GrowsBy false number act) (StaysBy (Does act) number)
      (StageBy folders after number (sent_in folders world) (slice_get first.processes number)
      (record { folder = folder; what = Does act } ∷ world)) (λ old new same. same) stands

  -- ---- in a folder that holds it

  module _ (at : Holding number (sent_in folders world) (past_of folder world) (files_of folder world) (slice_get w.processes number)) where
    abbrev Grows : Act → Growth
    Grows act = GrowsBy true number act

    abbrev Stays : Act → ℕ → Type 0
    Stays act = StaysBy (Does act) number

    abbrev Stands : Act → Holder → Option Process → Type 0
    Stands act after = StageBy folders after number (posted_by true number act (sent_in folders world)) (slice_get first.processes number)
        (record { folder = folder; what = Does act } ∷ world)

    opens_goes : (x y : List ℕ) → HasNoBot (past_of folder world) → files_of folder world ≡ HasFiles x y
        → GoesBy (Opens x y) true (Holds folder)
    opens_goes x y none files = no_deed promised w number (Grows (Opens x y)) (Stays (Opens x y)) (Stands (Opens x y) (Holds folder))
        (λ old new same. same)
        (refl, holding_here folder (Does (Opens x y)) world (IsOpening x y refl refl files (rests none at x y files)))

    creates_goes : (x y : List ℕ) (last : ℕ) → GoesBy (Creates x y last) true NoneNow
    creates_goes x y last = no_deed promised w number (Grows (Creates x y last)) (Stays (Creates x y last))
        (Stands (Creates x y last) NoneNow) (λ old new same. same) (some_process at)

    forgets_goes : (bot : Bot) → GoesBy (Forgets bot) true NoneNow
    forgets_goes bot = no_deed promised w number (Grows (Forgets bot)) (Stays (Forgets bot))
        (Stands (Forgets bot) NoneNow) (λ old new same. same) (some_process at)

    hears_goes : (heard : List Packet) (bot : Bot) → bot_in (past_of folder world) ≡ Some bot → GoesBy (Hears heard) true (Holds folder)
    hears_goes heard bot is =
        let it = has bot is at in
        no_deed promised w number (Grows (Hears heard)) (Stays (Hears heard)) (Stands (Hears heard) (Holds folder))
        (λ old new same. same)
        (refl, holding_here folder (Does (Hears heard)) world (Lives bot refl is it.runs it.kept))

    sends_goes : (outgoing : Outgoing) (bot : Bot) → bot_in (past_of folder world) ≡ Some bot → GoesBy (Sends outgoing) true (Holds folder)
    sends_goes outgoing bot is =
        let it = has bot is at in
        no_deed promised w number (Grows (Sends outgoing)) (Stays (Sends outgoing)) (Stands (Sends outgoing) (Holds folder))
        (λ old new same. same)
        (refl, holding_here folder (Does (Sends outgoing)) world (Lives bot refl is it.runs it.kept))

    waits_goes : (bot : Bot) → bot_in (past_of folder world) ≡ Some bot → GoesBy Waits true (Holds folder)
    waits_goes bot is =
        let it = has bot is at in
        no_deed promised w number (Grows Waits) (Stays Waits) (Stands Waits (Holds folder))
        (λ old new same. same)
        (refl, holding_here folder (Does Waits) world (Lives bot refl is it.runs it.kept))

    began_goes : (bot : Bot) → Begins (past_of folder world) bot → IsBotOf (station leaves number) bot → IsKept bot
        → GoesBy (Began bot) true (Holds folder)
    began_goes bot begins of kept = by at
      where
        by : Holding number (sent_in folders world) (past_of folder world) (files_of folder world) (slice_get w.processes number)
            → GoesBy (Began bot) true (Holds folder)
        by (Rests x y d b f n) = absurd (no_beginning (past_of folder world) bot begins d)
        by (IsOpening x y d b f n) =
            one_deed promised w number (Grows (Began bot)) (Stays (Began bot)) (Stands (Began bot) (Holds folder)) w.packets
            (Opened number bot) (Ended x y) (Runs bot) n
            (ap (λ (ps : List Sent). record { processes = slice_set w.processes number (Runs bot); packets = ps }) (append-nil w.packets))
            (x, y, n, opened_as (past_of folder world) bot x y (station leaves number) (length w.processes) begins d of (sym many))
            (λ other stays. tt) (λ old new grows. grows)
            (refl, holding_here folder (Does (Began bot)) world (Lives bot refl refl refl kept))
        by (Lives one d b n k) = absurd (no_beginning (past_of folder world) bot begins d)
        by (MakesStep one event d b n k told) = absurd (no_beginning_in_step (past_of folder world) bot one event begins d)

    told_goes : (bot : Bot) (event : BotEvent) → bot_in (past_of folder world) ≡ Some bot
        → WasTold (sent_in folders world) number event → GoesBy (Told bot event) true (Holds folder)
    told_goes bot event is delivered =
        let it = has bot is at in
        no_deed promised w number (Grows (Told bot event)) (Stays (Told bot event)) (Stands (Told bot event) (Holds folder))
        (λ old new same. same)
        (refl, holding_here folder (Does (Told bot event)) world (MakesStep bot event refl refl it.runs it.kept delivered))

    made_goes : (report : Report) (after : Bot) → EndsStep promised (folders folder).names (past_of folder world) report after
        → IsKept after → GoesBy (Made report after) true (Holds folder)
    made_goes report after ends kept = by at
      where
        ends_by : (call : Doing) → doing (past_of folder world) ≡ call → EndsCall promised (folders folder).names call report after
        ends_by call d = subst (λ (c : Doing). EndsCall promised (folders folder).names c report after) d
            (ends_call promised (folders folder).names (past_of folder world) report after ends)

        by : Holding number (sent_in folders world) (past_of folder world) (files_of folder world) (slice_get w.processes number)
            → GoesBy (Made report after) true (Holds folder)
        by (Rests x y d b f n) = absurd (ends_by Nothing d)
        by (IsOpening x y d b f n) = absurd (ends_by (Opening x y) d)
        by (Lives one d b n k) = absurd (ends_by Nothing d)
        by (MakesStep was event d b n k told) =
            subst (λ (c : Doing). Becomes promised w number (w.packets ++ posted number report.packets)
            (step_ended folders folder c report after) (Grows (Made report after)) (Stays (Made report after))
            (Stands (Made report after) (Holds folder))) (sym d)
            (one_deed promised w number (Grows (Made report after)) (Stays (Made report after)) (Stands (Made report after) (Holds folder))
            (w.packets ++ posted number report.packets)
            (MadeStep number (record { names = (folders folder).names; was = was; event = event; report = report; after = after }))
            (Runs was) (Runs after) n refl
            (record {
              running = n;
              told = subst (λ (ps : List Sent). WasTold ps number event) (sym packets) told;
              takes = ends_by (Telling was event) d;
            })
            (λ other stays. tt) (λ old new grows. grows)
            (refl, holding_here folder (Does (Made report after)) world (Lives after refl refl refl kept)))

    -- by what it is
    abbrev both : Act → Bool → Type 0
    both act b = GoesBy act b (if b then NoneNow else Holds folder)

    holder_goes : (act : Act) → May promised (folders folder).names (station leaves number) (past_of folder world) act
        → Meets folders world folder act → GoesBy act (folder == folder) (holder_after folder (Does act) (Holds folder))
    holder_goes (Opens x y) may meets =
        subst (λ (b : Bool). GoesBy (Opens x y) b (Holds folder)) (sym (eq-eqb folder folder refl)) (opens_goes x y may meets)
    holder_goes (Creates x y last) may meets =
        subst (both (Creates x y last)) (sym (eq-eqb folder folder refl)) (creates_goes x y last)
    holder_goes (Began bot) may meets =
        subst (λ (b : Bool). GoesBy (Began bot) b (Holds folder)) (sym (eq-eqb folder folder refl)) (began_goes bot may.0 may.1 may.2)
    holder_goes (Told bot event) may meets =
        subst (λ (b : Bool). GoesBy (Told bot event) b (Holds folder)) (sym (eq-eqb folder folder refl)) (told_goes bot event may.0 meets)
    holder_goes (Made report after) may meets =
        subst (λ (b : Bool). GoesBy (Made report after) b (Holds folder)) (sym (eq-eqb folder folder refl)) (made_goes report after may.0 may.1)
    holder_goes (Forgets bot) may meets =
        subst (both (Forgets bot)) (sym (eq-eqb folder folder refl)) (forgets_goes bot)
    holder_goes (Hears heard) may meets =
        subst (λ (b : Bool). GoesBy (Hears heard) b (Holds folder)) (sym (eq-eqb folder folder refl)) (hears_goes heard may.0 may.1)
    holder_goes (Sends outgoing) may meets =
        subst (λ (b : Bool). GoesBy (Sends outgoing) b (Holds folder)) (sym (eq-eqb folder folder refl)) (sends_goes outgoing may.0.0 may.0.1)
    holder_goes Waits may meets =
        subst (λ (b : Bool). GoesBy Waits b (Holds folder)) (sym (eq-eqb folder folder refl)) (waits_goes may.0.0 may.0.1)

  -- ---- in any folder

  pub act_goes : (holder : Holder) (act : Act) → May promised (folders folder).names (station leaves number) (past_of folder world) act
      → IfHolds (is_holder folder holder) (Meets folders world folder act)
      → StageBy folders holder number (sent_in folders world) (slice_get first.processes number) world (slice_get w.processes number)
      → GoesBy act (is_holder folder holder) (holder_after folder (Does act) holder)
  act_goes NoneYet act may meets at =
      subst (λ (after : Holder). GoesBy act false after) (sym (keeps_none_yet folder act)) (goes_aside act NoneYet at)
  act_goes NoneNow act may meets at =
      subst (λ (after : Holder). GoesBy act false after) (sym (keeps_none_now folder act)) (goes_aside act NoneNow at)
  act_goes (Holds other) act may meets at = by (folder == other) refl meets
    where
      here : other ≡ folder → Meets folders world folder act → GoesBy act (folder == other) (holder_after folder (Does act) (Holds other))
      here same met = subst (λ (o : ℕ). GoesBy act (folder == o) (holder_after folder (Does act) (Holds o))) (sym same)
          (holder_goes (subst (λ (o : ℕ). Holding number (sent_in folders world) (past_of o world) (files_of o world)
          (slice_get w.processes number)) same at.1) act may met)

      by : (b : Bool) → (folder == other) ≡ b → IfHolds b (Meets folders world folder act)
          → GoesBy act (folder == other) (holder_after folder (Does act) (Holds other))
      by true e met = here (sym (eqb-true folder other e)) met
      by false e met =
          subst (λ (b : Bool). GoesBy act b (holder_after folder (Does act) (Holds other))) (sym e)
          (subst (λ (after : Holder). GoesBy act false after) (sym (keeps_other folder other e act))
          (goes_aside act (Holds other) (at.0, holding_there folder (Does act) world other e at.1)))
