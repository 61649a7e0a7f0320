-- What procs promise, and when a reply keeps a promise.
use Rattle.std.specs.Prelude.{◌≡◌, ℕ, List, Result, Ok, Err}
use Rattle.bytetext.specs.declared.memory.NoMemory.{NoMemory}
use Rattle.procs.specs.declared.action.Action.{Action}
use Rattle.procs.specs.declared.call.Call.{Call}
use Rattle.procs.specs.declared.reply.Code.{Code}
use Rattle.procs.specs.declared.reply.ProcReply.{ProcReply}
use Rattle.procs.specs.Seen.{Sight, Seen}

-- What the procs of a program promise, by the proc's name and the call. The code of an answer is a function of these
-- and of records and channels, so it can't depend on the clock.
pub record Promised : Type 1 where
  pub code_of : List ℕ → Call → Sight → Code
  -- the actions that an answer may have
  pub may : List ℕ → Call → Seen → List Action → Type 0
  -- the calls that may run out of memory
  pub may_lack : List ℕ → Call → Type 0

-- a promise of codes and actions with which any call may run out of memory
abbrev pub promised : (List ℕ → Call → Sight → Code) → (List ℕ → Call → Seen → List Action → Type 0) → Promised
promised code_of may = record { code_of = code_of; may = may; may_lack = λ _ _. Unit {0} }

-- the codes that are promised while records and channels are these
abbrev pub code_at : Promised → Sight → List ℕ → Call → Code
code_at promised sight name call = promised.code_of name call sight

-- a reply has the promised code, and actions that the promise allows
pub record IsKept (promised : Promised) (name : List ℕ) (call : Call) (seen : Seen) (reply : ProcReply) : Type 0 where
  pub code : reply.code ≡ promised.code_of name call seen.sight
  pub actions : promised.may name call seen reply.actions

-- what a proc of this name may answer to this call
abbrev pub IsAllowed : Promised → List ℕ → Call → Seen → Result ProcReply NoMemory → Type 0
IsAllowed promised name call seen (Ok reply) = IsKept promised name call seen reply
IsAllowed promised name call seen (Err lack) = promised.may_lack name call

-- a body whose answers are these keeps the promise of this name
abbrev pub KeepsPromise : Promised → List ℕ → (Call → Seen → Result ProcReply NoMemory → Type 0) → Type 0
KeepsPromise promised name answers =
    (call : Call) (seen : Seen) (answer : Result ProcReply NoMemory) → answers call seen answer → IsAllowed promised name call seen answer
