-- Who asked for the changes that wait at a bot or are out, after the steps of a turn.
use Rattle.std.specs.Prelude.{ℕ, Bool, true, false, ◌||◌, ◌&&◌, ◌-◌, ◌==◌, List, [], ◌∷◌, ◌++◌, Option, None, Some}
use Rattle.std.specs.Prelude.{count_by, sum_by, replicate, if◌then◌else◌}
use Rattle.std.specs.List.{flat_map}
use Rattle.botcore.specs.declared.fault.StepFault.{StepFault}
use Rattle.botcore.specs.declared.fault.StepFault.TheVariants.{Action as by_action, Unbound as lacks_proc, Line as by_line}
use Rattle.botcore.specs.declared.fault.ActionFault.{ActionFault}
use Rattle.botcore.specs.declared.fault.ActionFault.TheVariants.{Clock, Queue, Link as by_link}
use Rattle.botcore.specs.declared.report.Note.{Note}
use Rattle.botcore.specs.declared.report.Note.TheVariants.{Link, Bound, Unbound, Bad}
use Rattle.botcore.specs.declared.report.Report.{Report}
use Rattle.administrators.specs.Askers.{askers_of, asks_of, at_most_usize, is_ask_fault, queued, settled}
use Rattle.administrators.specs.declared.asks.Recipient.{Recipient}
use Rattle.administrators.specs.declared.asks.Recipient.TheVariants.{Nobody}
use Rattle.botrun.specs.Outcomes.{told_by}

-- ---- what procs asked for

abbrev pub is_refused_action : ActionFault → Bool
is_refused_action (Clock fault) = false
is_refused_action (Queue fault) = false
is_refused_action (by_link fault) = is_ask_fault fault

abbrev pub is_refused_ask : StepFault → Bool
is_refused_ask (lacks_proc gone) = false
is_refused_ask (by_action fault) = is_refused_action fault
is_refused_ask (by_line fault) = false

-- the number of changes that procs asked for, without those that the link refused
abbrev pub asked_by_procs : Report → ℕ
asked_by_procs report = at_most_usize (sum_by asks_of report.calls) - count_by is_refused_ask report.faults

-- The askers of the changes that the link took. If the link did not take all, it is unknown which ones it took, and
-- nobody waits for an answer.
abbrev pub proc_askers : Report → List Recipient
proc_askers report =
    if count_by is_refused_ask report.faults == 0 then flat_map askers_of report.calls else replicate (asked_by_procs report) Nobody

-- ---- what a step says

abbrev pub noted : Option ℕ → Option Note → List Recipient → List Recipient
noted asker None askers = askers
noted asker (Some (Link note)) askers = queued asker note askers
noted asker (Some (Bound n)) askers = askers
noted asker (Some (Unbound n)) askers = askers
noted asker (Some (Bad fault)) askers = askers

abbrev pub askers_after : Bool → Option ℕ → List Recipient → Report → List Recipient
askers_after settles asker askers report = settled settles (told_by report) (noted asker report.note (askers ++ proc_askers report))

-- Any step of a leaf can answer its changes. A hub's changes are answered by its pump, the last step of a turn that
-- pumps, since in the other steps the hub accepts changes of its leaves.
abbrev pub is_last : List Report → Bool
is_last [] = true
is_last (report ∷ reports) = false

abbrev pub turn_askers : Bool → Bool → Option ℕ → List Recipient → List Report → List Recipient
turn_askers leaf pumped asker askers [] = askers
turn_askers leaf pumped asker askers (report ∷ reports) =
    turn_askers leaf pumped asker (askers_after (leaf || (pumped && is_last reports)) asker askers report) reports
