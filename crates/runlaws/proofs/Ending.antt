-- What the end of a process is among the deeds.
use Rattle.std.proofs.Common.{◌≡◌, ◌∙◌, ◌⊎◌, inl, inr, ◌+◌, ◌==◌, ℕ, Bool, true, false, List, ◌∷◌, length, slice_get, slice_set, Option, None, Some, refl, ap, sym, subst, append-nil, eq-eqb, eqb-true}
use Rattle.procs.specs.Promises.{Promised}
use Rattle.sharelink.specs.BotLinks.{MayLeave}
use Rattle.botcore.specs.declared.event.BotEvent.{BotEvent}
use Rattle.botcore.specs.declared.report.Report.{Report}
use Rattle.botcore.specs.Bots.{Bot}
use Rattle.botcore.specs.Steps.{TakesStep}
use Rattle.botworld.specs.declared.sent.Sent.{Sent}
use Rattle.watching.specs.Openings.{CrashesIn, IsUnopened}
use Rattle.watching.specs.Acts.{bot_in}
use Rattle.processes.specs.Deeds.{Process, Runs, Ended, Net, Died, Unopened, Doing as Call, Nothing as NoCall, Telling as InStep, WasTold, WasDoing, LeavesIn}
use Rattle.runlaws.specs.Calls.{Doing, Nothing, Opening, Telling, doing}
use Rattle.runlaws.specs.Folders.{Folder, Ends, Happening, Files, HasFiles, Holder, NoneYet, NoneNow, Holds, past_of, files_of, is_holder}
use Rattle.runlaws.specs.Worlds.{sent_in, step_by, StaysBy, IfHolds, LeavesDoing}
use Rattle.runlaws.specs.Histories.{GrowsAtEnd}
use Rattle.runlaws.proofs.Stages.{Holding, Rests, IsOpening, Lives, MakesStep, StageBy, holding_here, holding_there, Becomes, no_deed, one_deed}

-- what `laws_of_processes` says of a crash at any moment of a step
abbrev pub StepsDie : Promised → Type 0
StepsDie promised = (names : List (List ℕ)) (event : BotEvent) (was after : Bot) (report : Report) (x y : List ℕ)
    → MayLeave was.link.device.first was.link.device.second was.link
    → TakesStep promised names was event report after → CrashesIn was.link after.link x y
    → LeavesIn NoCall was.link x y ⊎ LeavesIn (InStep event) was.link x y

module _ (promised : Promised) (folders : ℕ → Folder) (leaves : ℕ) (first w : Net) (world : List Happening) (folder : ℕ)
    (packets : w.packets ≡ sent_in folders world) (many : length w.processes ≡ leaves + 1) (dies : StepsDie promised) (x y : List ℕ) where
  abbrev number : ℕ
  number = (folders folder).number

  abbrev Stands : Holder → Option Process → Type 0
  Stands holder = StageBy folders holder number (sent_in folders world) (slice_get first.processes number)
      (record { folder = folder; what = Ends x y } ∷ world)

  -- the end becomes deeds, in a folder that held its number or not
  abbrev pub EndsBy : Bool → Holder → Type 0
  EndsBy holding holder = Becomes promised w number w.packets
      (step_by folders holding folder (doing (past_of folder world)) (Ends x y)) (GrowsAtEnd holding) (StaysBy (Ends x y) number)
      (Stands holder)

  ends_aside : (holder : Holder) → Stands holder (slice_get w.processes number) → EndsBy false holder
  ends_aside holder stands =
      no_deed promised w number (GrowsAtEnd false) (StaysBy (Ends x y) number) (Stands holder) (λ old new same. same) stands

  module _ (at : Holding number (sent_in folders world) (past_of folder world) (files_of folder world) (slice_get w.processes number)) where
    abbrev Leaves : Doing → Option Bot → Files → Type 0
    Leaves call bot files = LeavesDoing promised folders leaves first folder call bot files x y

    -- what the process leaves by what it did, which bot it had, and what its files were
    leaves_by : (call : Doing) (bot : Option Bot) (files : Files) → doing (past_of folder world) ≡ call
        → bot_in (past_of folder world) ≡ bot → files_of folder world ≡ files
        → Leaves (doing (past_of folder world)) (bot_in (past_of folder world)) (files_of folder world) → Leaves call bot files
    leaves_by call bot files d b f left =
        subst (λ (fs : Files). Leaves call bot fs) f
        (subst (λ (o : Option Bot). Leaves call o (files_of folder world)) b
        (subst (λ (c : Doing). Leaves c (bot_in (past_of folder world)) (files_of folder world)) d left))

    ended : (process : Option Process) → process ≡ Some (Ended x y) → Stands (Holds folder) process
    ended process is = (refl, holding_here folder (Ends x y) world (Rests x y refl refl refl is))

    -- the bot's process ended, in this call or in none
    death_goes : (bot : Bot) (call : Call) → slice_get w.processes number ≡ Some (Runs bot)
        → WasDoing w.packets number call → LeavesIn call bot.link x y → EndsBy true (Holds folder)
    death_goes bot call n told left =
        one_deed promised w number (GrowsAtEnd true) (StaysBy (Ends x y) number) (Stands (Holds folder)) w.packets
        (Died number bot call x y) (Runs bot) (Ended x y) n
        (ap (λ (ps : List Sent). record { processes = slice_set w.processes number (Ended x y); packets = ps }) (append-nil w.packets))
        (record { running = n; told = told; leaves = left }) (λ other stays. tt) (λ old new grows. grows) (ended (Some (Ended x y)) refl)

    holder_ends : Leaves (doing (past_of folder world)) (bot_in (past_of folder world)) (files_of folder world) → EndsBy true (Holds folder)
    holder_ends left = by at
      where
        by : Holding number (sent_in folders world) (past_of folder world) (files_of folder world) (slice_get w.processes number)
            → EndsBy true (Holds folder)
        by (Rests one other d b f n) =
            let same : (one ≡ x) × (other ≡ y) = leaves_by Nothing None (HasFiles one other) d b f left in
            no_deed promised w number (GrowsAtEnd true) (StaysBy (Ends x y) number) (Stands (Holds folder)) (λ old new same. inl same)
            (ended (slice_get w.processes number)
            (n ∙ ap (λ (z : List ℕ). Some (Ended z other)) same.0 ∙ ap (λ (z : List ℕ). Some (Ended x z)) same.1))
        by (IsOpening one other d b f n) =
            let unopened : IsUnopened number (leaves + 1) one other x y =
            leaves_by (Opening one other) None (HasFiles one other) d b f left in
            one_deed promised w number (GrowsAtEnd true) (StaysBy (Ends x y) number) (Stands (Holds folder)) w.packets
            (Unopened number x y) (Ended one other) (Ended x y) n
            (ap (λ (ps : List Sent). record { processes = slice_set w.processes number (Ended x y); packets = ps }) (append-nil w.packets))
            (one, other, n, subst (λ (bots : ℕ). IsUnopened number bots one other x y) (sym many) unopened)
            (λ other stays. tt) (λ old new grows. grows) (ended (Some (Ended x y)) refl)
        by (Lives bot d b n kept) =
            let crash = leaves_by Nothing (Some bot) (files_of folder world) d b refl left in
            death_goes bot NoCall n tt (kept x y crash.0 crash.1).mean
        by (MakesStep bot event d b n kept told) =
            let crash = leaves_by (Telling bot event) None (files_of folder world) d b refl left in
            elim (dies (folders folder).names event bot crash.1 crash.0 x y kept crash.2 crash.3) [
              | inl left ↦ death_goes bot NoCall n tt left
              | inr left ↦ death_goes bot (InStep event) n (subst (λ (ps : List Sent). WasTold ps number event) (sym packets) told) left
            ]

  -- what it leaves if its folder held its number
  abbrev Left : Type 0
  Left = LeavesDoing promised folders leaves first folder (doing (past_of folder world)) (bot_in (past_of folder world))
      (files_of folder world) x y

  pub end_goes : (holder : Holder) → IfHolds (is_holder folder holder) Left
      → StageBy folders holder number (sent_in folders world) (slice_get first.processes number) world (slice_get w.processes number)
      → EndsBy (is_holder folder holder) holder
  end_goes NoneYet left at = ends_aside NoneYet at
  end_goes NoneNow left at = ends_aside NoneNow at
  end_goes (Holds other) left at = by (folder == other) refl left
    where
      here : other ≡ folder → Left → EndsBy (folder == other) (Holds other)
      here same done = subst (λ (o : ℕ). EndsBy (folder == o) (Holds o)) (sym same)
          (subst (λ (b : Bool). EndsBy b (Holds folder)) (sym (eq-eqb folder folder refl))
          (holder_ends (subst (λ (o : ℕ). Holding number (sent_in folders world) (past_of o world) (files_of o world)
          (slice_get w.processes number)) same at.1) done))

      by : (b : Bool) → (folder == other) ≡ b → IfHolds b Left → EndsBy (folder == other) (Holds other)
      by true e done = here (sym (eqb-true folder other e)) done
      by false e done = subst (λ (b : Bool). EndsBy b (Holds other)) (sym e)
          (ends_aside (Holds other) (at.0, holding_there folder (Ends x y) world other e at.1))
