-- What is reported of what calls procs, by the calls that were made.
use Rattle.std.proofs.Common.{◌≡◌, ◌≢◌, ◌∙◌, ℕ, ◌<◌, Bool, false, if◌then◌else◌, List, [], ◌++◌, map, Option, None, Some, Result, Ok, Err, OnOk, OnErr, refl, ap, sym, subst}
use Rattle.std.specs.Prelude.{IsOk, IfOk}
use Rattle.std.proofs.lemmas.Bool.{lt-ltb}
use Rattle.std.proofs.lemmas.List.{append-nil}
use Rattle.std.proofs.lemmas.List.Elements.{filter_map-append}
use Rattle.procs.specs.Promises.{Promised}
use Rattle.procs.specs.Seen.{Seen}
use Rattle.procs.specs.declared.made_call.MadeCall.{MadeCall}
use Rattle.procs.specs.declared.made_call.Unbound.{Unbound}
use Rattle.sharelink.specs.declared.answer.Outgoing.{Outgoing}
use Rattle.bytetext.specs.declared.memory.NoMemory.{NoMemory}
use Rattle.bytetext.specs.declared.moment.TheConstants.{MOMENTS_END}
use Rattle.bottimers.specs.declared.fault.ClockFault.TheVariants.{BadMoment}
use Rattle.botcore.specs.declared.fault.StepFault.{StepFault}
use Rattle.botcore.specs.declared.report.End.TheVariants.{Done, NoMemory as ends_no_memory}
use Rattle.botcore.specs.declared.report.Note.{Note}
use Rattle.botcore.specs.declared.report.Report.{Report}
use Rattle.bottimers.specs.Seconds.{reading_fault, seconds_run}
use Rattle.procs.specs.declared.trigger.Trigger.{Trigger}
use Rattle.botcore.specs.Bots.{Bot, bot_seen, bot_setting, seen_at}
use Rattle.procs.specs.Tellings.{Telling, called_in, calls_in}
use Rattle.procs.specs.Dispatching.{told_of, is_logged}
use Rattle.botcore.specs.Happenings.{seconds_of}
use Rattle.botcore.specs.Acting.{faults_of}
use Rattle.botcore.specs.Leaving.{leaving, most_of, staying}
use Rattle.botcore.specs.Lines.{Finish, acting_of, acting_after, finish_reading}
use Rattle.procs.specs.Made.{Made, AllKept, IsMade, IsFrontMade, entry_of}
use Rattle.botcore.specs.Reports.{cut_short, told as told_as}
use Rattle.botcore.specs.Steps.{IsCutShort, TakesCalls, TakesMoment, TakesReading, TakesSeconds, is_stale, run_to}
use Rattle.botcore.specs.Shown.{AreOccasions, AreTaken}
use Rattle.botcore.proofs.RunningLemmas.{AreFirst-all}

module _ (promised : Promised) where
  -- the first calls were made
  IsCutShort-front : (seen : Seen) (told : List Telling) (old new : Bot) (made : Made) → IsFrontMade promised seen made told → new ≡ old
      → IsCutShort promised seen told old (cut_short made.calls) new
  IsCutShort-front seen told old new made front same = record {
    rest = calls_in front.1;
    calls = ap (λ es. es ++ calls_in front.1) front.3.calls ∙ sym (ap calls_in front.2 ∙ filter_map-append called_in front.0 front.1);
    kept = front.3.kept;
    note = refl;
    packets = refl;
    lines = refl;
    faults = refl;
    logged = refl;
    after = same;
  }

  -- a report of the first calls
  pub cut_short-takes : (told : List Telling) (old new start : Bot) (came : Option Note) (finish : List MadeCall → Finish) (made : Made) (calls : List MadeCall)
      (report : Report) → IsFrontMade promised (bot_seen start) made told → calls ≡ made.calls → new ≡ old → report ≡ cut_short calls
      → TakesCalls report.end promised told old start came finish report new
  cut_short-takes told old new start came finish made calls report front same_calls same told_as =
      subst (λ (r : Report). TakesCalls r.end promised told old start came finish r new)
      (sym (told_as ∙ ap cut_short same_calls))
      (IsCutShort-front (bot_seen start) told old new made front same)

  -- the seconds of a reading, of which the first calls were made
  pub cut_short-seconds : (names : List (List ℕ)) (old new : Bot) (now : ℕ) (occasions : List Trigger) (made : Made) (calls : List MadeCall) (report : Report)
      → AreOccasions (seconds_of old.config.zone old.timers (seconds_run old.clock now)) occasions
      → IsFrontMade promised (seen_at old (Some now)) made (told_of (bot_setting promised names old) occasions) → calls ≡ made.calls → new ≡ old → report ≡ cut_short calls
      → TakesSeconds promised names old now report new
  cut_short-seconds names old new now occasions made calls report all front same_calls same reported = (
    occasions,
    subst (λ (r : Report). AreTaken r.end (seconds_of old.config.zone old.timers (seconds_run old.clock now)) occasions) (sym reported)
        (AreFirst-all (seconds_of old.config.zone old.timers (seconds_run old.clock now)) occasions all),
    cut_short-takes (told_of (bot_setting promised names old) occasions) old new (run_to old now) None (finish_reading (run_to old now) now) made calls report
        front same_calls same reported,
  )

  -- the seconds of a reading, of which nothing was called
  pub none-seconds : (names : List (List ℕ)) (old new : Bot) (now : ℕ) (report : Report) → new ≡ old → report ≡ cut_short []
      → TakesSeconds promised names old now report new
  none-seconds names old new now report same reported =
      subst (λ (r : Report). TakesSeconds promised names old now r new) (sym reported) (
        [],
        tt,
        record {
          rest = [];
          calls = refl;
          kept = tt;
          note = refl;
          packets = refl;
          lines = refl;
          faults = refl;
          logged = refl;
          after = same;
        },
      )

  -- a report of all calls
  pub told-takes : (told : List Telling) (old new start : Bot) (came : Option Note) (finish : List MadeCall → Finish) (made : Made) (calls : List MadeCall)
      (unbound : List Unbound) (packets : List Outgoing) (lines : List (List ℕ)) (faults : List StepFault) (report : Report)
      → IsMade promised (bot_seen start) made told → calls ≡ made.calls → unbound ≡ made.unbound → packets ≡ (acting_after start calls).sent
      → lines ≡ (finish calls).lines → faults ≡ faults_of (acting_of start) calls unbound ++ (finish calls).faults → new ≡ (finish calls).after
      → report ≡ told_as came calls packets lines faults → TakesCalls report.end promised told old start came finish report new
  told-takes told old new start came finish made calls unbound packets lines faults report is same_calls same_unbound went goes refused after reported =
      let entries = ap (map entry_of) same_calls ∙ is.calls in
      subst (λ (r : Report). TakesCalls r.end promised told old start came finish r new) (sym reported)
      (record {
        calls = entries;
        kept = subst (AllKept promised (bot_seen start)) (sym same_calls) is.kept;
        note = refl;
        packets = went;
        lines = goes;
        faults = refused ∙ ap (λ (us : List Unbound). faults_of (acting_of start) calls us ++ (finish calls).faults) (same_unbound ∙ is.unbound);
        logged = ap is_logged entries;
        after = after;
      })

  -- the seconds of a reading, all of whose calls were made
  pub told-seconds : (names : List (List ℕ)) (old new : Bot) (now : ℕ) (occasions : List Trigger) (made : Made) (calls : List MadeCall)
      (unbound : List Unbound) (packets : List Outgoing) (lines : List (List ℕ)) (faults : List StepFault) (report : Report)
      → AreOccasions (seconds_of old.config.zone old.timers (seconds_run old.clock now)) occasions
      → IsMade promised (seen_at old (Some now)) made (told_of (bot_setting promised names old) occasions) → calls ≡ made.calls → unbound ≡ made.unbound
      → packets ≡ (acting_after (run_to old now) calls).sent → lines ≡ (finish_reading (run_to old now) now calls).lines
      → faults ≡ faults_of (acting_of (run_to old now)) calls unbound → new ≡ (finish_reading (run_to old now) now calls).after
      → report ≡ told_as None calls packets lines faults → TakesSeconds promised names old now report new
  told-seconds names old new now occasions made calls unbound packets lines faults report all is same_calls same_unbound went goes refused after reported = (
    occasions,
    subst (λ (r : Report). AreTaken r.end (seconds_of old.config.zone old.timers (seconds_run old.clock now)) occasions) (sym reported) all,
    told-takes (told_of (bot_setting promised names old) occasions) old new (run_to old now) None (finish_reading (run_to old now) now) made calls unbound
        packets lines faults report is same_calls same_unbound went goes
        (refused ∙ sym (append-nil (faults_of (acting_of (run_to old now)) calls unbound))) after reported,
  )

  -- a reading that is a moment and not stale runs its seconds
  pub seconds-reading : (names : List (List ℕ)) (old new : Bot) (now : ℕ) (report : Report) → now < MOMENTS_END
      → is_stale old.config.sends_at_once old.clock now ≡ false → TakesSeconds promised names old now report new
      → TakesReading (reading_fault now) promised names old now report new
  seconds-reading names old new now report moment fresh seconds =
      subst (λ (b : Bool). TakesReading (if b then None else Some BadMoment) promised names old now report new) (sym (lt-ltb now MOMENTS_END moment))
      (subst (λ (b : Bool). TakesMoment b promised names old now report new) (sym fresh) seconds)

  -- all is the first of it
  pub front_all : (seen : Seen) (made : Made) (told : List Telling) → IsMade promised seen made told → IsFrontMade promised seen made told
  front_all seen made told is = (told, [], sym (append-nil told), is)

  -- the seconds of a reading that bring nothing: the lines that may go are sent, or memory runs out for them
  pub quiet_takes : (names : List (List ℕ)) (old new : Bot) (now : ℕ) (lines : Result (List (List ℕ)) NoMemory) (report : Report)
      → seconds_of old.config.zone old.timers (seconds_run old.clock now) ≡ []
      → IfOk lines (λ ls. report ≡ told_as None [] [] ls []) → OnErr lines (report ≡ cut_short [])
      → IfOk lines (λ ls. ls ≡ leaving (most_of old) old.queues now)
      → OnOk lines (new ≡ record (run_to old now) { queues = staying (most_of old) old.queues now }) → OnErr lines (new ≡ old)
      → TakesSeconds promised names old now report new
  quiet_takes names old new now (Ok ls) report none said lacks goes ok err =
      subst (λ (r : Report). TakesSeconds promised names old now r new) (sym said) (
        [],
        subst (λ hs. AreOccasions hs []) (sym none) tt,
        record {
          calls = refl;
          kept = tt;
          note = refl;
          packets = refl;
          lines = goes;
          faults = refl;
          logged = refl;
          after = ok;
        },
      )
  quiet_takes names old new now (Err e) report none said lacks goes ok err = none-seconds names old new now report err lacks

-- such a reading ends where no line goes
pub quiet_ends : (lines : Result (List (List ℕ)) NoMemory) (report : Report) → IsOk lines
    → IfOk lines (λ ls. report ≡ told_as None [] [] ls []) → report.end ≢ ends_no_memory
quiet_ends (Ok ls) report is_ok said = λ e. let other : Done ≡ ends_no_memory = sym (ap (λ (r : Report). r.end) said) ∙ e in cc
quiet_ends (Err e) report is_ok said = λ same. cc
