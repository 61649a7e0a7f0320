-- The outcome of a change that was asked for, from what a turn says.
use Rattle.std.specs.Prelude.{List, [], ◌∷◌, Option, Some, None, if◌then◌else◌}
use Rattle.botcore.specs.declared.fault.Refusal.{Refusal}
use Rattle.botcore.specs.declared.fault.Refusal.TheVariants.{Link as by_link, Bind, Clock}
use Rattle.botcore.specs.declared.report.End.{End}
use Rattle.botcore.specs.declared.report.End.TheVariants.{Done, Refused as ends_refused, NoMemory}
use Rattle.botcore.specs.declared.report.Note.{Note}
use Rattle.botcore.specs.declared.report.Note.TheVariants.{Link, Bound, Unbound, Bad}
use Rattle.botcore.specs.declared.report.Report.{Report}
use Rattle.administrators.specs.Outcomes.{is_told, of_fault, of_note}
use Rattle.administrators.specs.declared.change_outcome.ChangeOutcome.{ChangeOutcome}
use Rattle.administrators.specs.declared.change_outcome.ChangeOutcome.TheVariants.{Nothing}

abbrev pub of_end : Option Note → ChangeOutcome
of_end None = Nothing
of_end (Some (Link note)) = of_note note
of_end (Some (Bound n)) = Nothing
of_end (Some (Unbound n)) = Nothing
of_end (Some (Bad fault)) = Nothing

abbrev pub of_refusal : Refusal → ChangeOutcome
of_refusal (by_link fault) = of_fault fault
of_refusal (Bind fault) = Nothing
of_refusal (Clock fault) = Nothing

abbrev pub by_end : End → Option Note → ChangeOutcome
by_end Done told = of_end told
by_end (ends_refused refusal) told = of_refusal refusal
by_end NoMemory told = Nothing

-- what a step says about a change
abbrev pub told_by : Report → ChangeOutcome
told_by report = by_end report.end report.note

-- the first of them that says anything
abbrev pub outcome_of : List Report → ChangeOutcome
outcome_of [] = Nothing
outcome_of (report ∷ reports) = if is_told (told_by report) then told_by report else outcome_of reports
