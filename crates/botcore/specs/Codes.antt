-- The letters and numbers of refusals, and the words of faults.
use Rattle.std.specs.Prelude.{ℕ, List, Option, Some, None, codes}
use Rattle.procs.specs.Tables.{code_of}
use Rattle.bottimers.specs.Faults.{letters_of}
use Rattle.outqueue.specs.Refusals.{code_of as queue_code}
use Rattle.sharelink.specs.Codes.{link_code}
use Rattle.botcore.specs.declared.fault.ActionFault.{ActionFault}
use Rattle.botcore.specs.declared.fault.ActionFault.TheVariants.{Link as link_action, Clock as clock_action, Queue as queue_action}
use Rattle.botcore.specs.declared.fault.Refusal.{Refusal}
use Rattle.botcore.specs.declared.fault.Refusal.TheVariants.{Link as link_refusal, Bind as bind_refusal, Clock as clock_refusal}
use Rattle.botcore.specs.declared.fault.StepFault.{StepFault}
use Rattle.botcore.specs.declared.fault.StepFault.TheVariants.{Unbound as unbound_fault, Action as action_fault, Line as line_fault}

abbrev pub refusal_code : Refusal → List ℕ
refusal_code (link_refusal fault) = link_code fault
refusal_code (bind_refusal fault) = code_of fault
refusal_code (clock_refusal fault) = letters_of fault

abbrev pub action_code : ActionFault → List ℕ
action_code (link_action fault) = link_code fault
action_code (clock_action fault) = letters_of fault
action_code (queue_action fault) = queue_code fault

abbrev pub fault_word : StepFault → List ℕ
fault_word (unbound_fault unbound) = codes "Unbound"
fault_word (action_fault fault) = action_code fault
fault_word (line_fault fault) = queue_code fault

-- the proc that the store lacks
abbrev pub fault_proc : StepFault → Option (List ℕ)
fault_proc (unbound_fault unbound) = Some unbound.proc
fault_proc (action_fault fault) = None
fault_proc (line_fault fault) = None
