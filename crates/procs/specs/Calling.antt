-- What a store of procs answers. It is the list of the names of its procs, in the order in which they were added.
use Rattle.std.specs.Prelude.{◌≡◌, ℕ, nat_le, List, length, Bool, true, false, if◌then◌else◌, Option, Some, None, Result, Ok, Err}
use Rattle.std.specs.List.{list_any}
use Rattle.std.specs.Str.{bytes_eq}
use Rattle.bytetext.specs.declared.failure.Failure.{Failure}
use Rattle.bytetext.specs.declared.failure.Failure.TheVariants.{Refused, NoMemory as no_memory}
use Rattle.bytetext.specs.declared.memory.NoMemory.{NoMemory}
use Rattle.procs.specs.declared.call.Call.{Call}
use Rattle.procs.specs.declared.proc_fault.AddFault.{AddFault}
use Rattle.procs.specs.declared.proc_fault.AddFault.TheVariants.{NameTaken, Full}
use Rattle.procs.specs.declared.proc_fault.CallFault.{CallFault}
use Rattle.procs.specs.declared.proc_fault.CallFault.TheVariants.{NoSuchProc}
use Rattle.procs.specs.declared.limits.TheConstants.{MAX_PROCS}
use Rattle.procs.specs.declared.reply.ProcReply.{ProcReply}
use Rattle.procs.specs.Promises.{Promised, IsKept}
use Rattle.procs.specs.Seen.{Seen}

-- whether a store of these names has a proc of this one, byte for byte
abbrev pub holds : List (List ℕ) → List ℕ → Bool
holds names name = list_any (bytes_eq name) names

-- why no proc of this name can be added
abbrev pub refusal : List (List ℕ) → List ℕ → Option AddFault
refusal names name =
    if holds names name then Some NameTaken
    else (if nat_le MAX_PROCS (length names) then Some Full else None)

-- the error is the reason to reject the proc; out of memory only if there is no such reason
abbrev pub IsWhy : Option AddFault → Failure AddFault → Type 0
IsWhy refusal (Refused fault) = refusal ≡ Some fault
IsWhy refusal no_memory = refusal ≡ None

-- What a call by name returns: a reply that keeps the promise, or that no proc has the name, or that the proc ran out
-- of memory.
abbrev pub IsCalled : Promised → List (List ℕ) → List ℕ → Call → Seen → Result ProcReply (Failure CallFault) → Type 0
IsCalled promised names name call seen (Ok reply) = (holds names name ≡ true) × IsKept promised name call seen reply
IsCalled promised names name call seen (Err (Refused NoSuchProc)) = holds names name ≡ false
IsCalled promised names name call seen (Err no_memory) = (holds names name ≡ true) × promised.may_lack name call

-- the answer of a proc, as the answer of a call by name
abbrev pub as_called : Result ProcReply NoMemory → Result ProcReply (Failure CallFault)
as_called (Ok reply) = Ok reply
as_called (Err lack) = Err no_memory
