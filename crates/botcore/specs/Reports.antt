-- The report of a step.
use Rattle.std.specs.Prelude.{ℕ, List, [], true, map, Option, Some, None, Result, Ok, Err}
use Rattle.bytetext.specs.declared.failure.Failure.{Failure}
use Rattle.bytetext.specs.declared.failure.Failure.TheVariants.{Refused as refused_by, NoMemory as no_memory}
use Rattle.procs.specs.declared.bind_fault.BindFault.{BindFault}
use Rattle.sharelink.specs.declared.answer.Answer.{Answer}
use Rattle.sharelink.specs.declared.answer.Outgoing.{Outgoing}
use Rattle.sharelink.specs.declared.error.LinkFault.{LinkFault}
use Rattle.botcore.specs.declared.fault.StepFault.{StepFault}
use Rattle.botcore.specs.declared.fault.Refusal.{Refusal}
use Rattle.botcore.specs.declared.fault.Refusal.TheVariants.{Link as link_refusal, Bind as bind_refusal}
use Rattle.procs.specs.declared.made_call.MadeCall.{MadeCall}
use Rattle.botcore.specs.declared.report.End.{End}
use Rattle.botcore.specs.declared.report.End.TheVariants.{Done, Refused, NoMemory}
use Rattle.botcore.specs.declared.report.Note.{Note}
use Rattle.botcore.specs.declared.report.Note.TheVariants.{Link as link_note, Bound, Unbound}
use Rattle.botcore.specs.declared.report.Report.{Report}
use Rattle.procs.specs.Dispatching.{is_logged}
use Rattle.procs.specs.Made.{entry_of}

-- an end and a note, no call, nothing to send, and no fault
abbrev pub plain : End → Option Note → Report
plain end note = record { end = end; note = note; calls = []; packets = []; lines = []; faults = []; logged = true }

abbrev pub done : Option Note → Report
done note = plain Done note

abbrev pub refused : Refusal → Report
refused refusal = plain (Refused refusal) None

abbrev pub out_of_memory : Report
out_of_memory = plain NoMemory None

-- the answer of a call of the link
abbrev pub answer_report : Result Answer (Failure LinkFault) → Report
answer_report (Ok answer) = record (done (Some (link_note answer.note))) { packets = answer.packets }
answer_report (Err (refused_by fault)) = refused (link_refusal fault)
answer_report (Err no_memory) = out_of_memory

-- the answer of `bind`
abbrev pub bind_report : Result ℕ (Failure BindFault) → Report
bind_report (Ok number) = done (Some (Bound number))
bind_report (Err (refused_by fault)) = refused (bind_refusal fault)
bind_report (Err no_memory) = out_of_memory

-- the answer of `unbind`
abbrev pub unbind_report : Result ℕ BindFault → Report
unbind_report (Ok number) = done (Some (Unbound number))
unbind_report (Err fault) = refused (bind_refusal fault)

-- ---- what calls procs

-- what came of an event: its calls, its texts to bots, its lines to the server, and its faults
abbrev pub told : Option Note → List MadeCall → List Outgoing → List (List ℕ) → List StepFault → Report
told note calls packets lines faults =
    record {
      end = Done;
      note = note;
      calls = calls;
      packets = packets;
      lines = lines;
      faults = faults;
      logged = is_logged (map entry_of calls);
    }

-- memory ran out after these calls
abbrev pub cut_short : List MadeCall → Report
cut_short calls =
    record {
      end = NoMemory;
      note = None;
      calls = calls;
      packets = [];
      lines = [];
      faults = [];
      logged = is_logged (map entry_of calls);
    }
