-- Which procs are called for events, with what arguments and in which order.
use Rattle.std.specs.Prelude.{ℕ, List, map, Option, Some, None, if◌then◌else◌}
use Rattle.std.specs.List.{filter_map}
use Rattle.procs.specs.declared.call.Call.{Call}
use Rattle.procs.specs.declared.reply.Code.{Code}
use Rattle.procs.specs.Calling.{holds}
use Rattle.procs.specs.declared.bind.Bind.{Bind}
use Rattle.procs.specs.declared.made_call.Unbound.{Unbound}

-- one call, as the bind and the promise fix it; a timer is no bind, and its calls have number 0 here
pub record Entry : Type 0 where
  pub bind : ℕ
  pub proc : List ℕ
  pub call : Call
  pub code : Code

-- the result of a bind or timer that calls: a call of its proc, or that the store lacks it
pub data Telling : Type 0 where
  Called : (entry : Entry) → Telling
  Missing : (unbound : Unbound) → Telling

-- a call of this proc for the bind with this number
abbrev pub told_proc : (List ℕ → Call → Code) → List (List ℕ) → Call → ℕ → List ℕ → Telling
told_proc code_of names call number proc =
    if holds names proc then Called (record { bind = number; proc = proc; call = call; code = code_of proc call })
    else Missing (record { bind = number; proc = proc })

abbrev pub told_by : (List ℕ → Call → Code) → List (List ℕ) → Call → Bind → Telling
told_by code_of names call b = told_proc code_of names call b.number b.proc

-- the results of binds, in order, for this call and a store of these names
abbrev pub told_all : (List ℕ → Call → Code) → List (List ℕ) → Call → List Bind → List Telling
told_all code_of names call binds = map (told_by code_of names call) binds

-- ---- the calls, and the binds that are left out

abbrev pub called_in : Telling → Option Entry
called_in (Called entry) = Some entry
called_in (Missing unbound) = None

abbrev pub missing_in : Telling → Option Unbound
missing_in (Called entry) = None
missing_in (Missing unbound) = Some unbound

abbrev pub calls_in : List Telling → List Entry
calls_in tellings = filter_map called_in tellings

abbrev pub unbound_in : List Telling → List Unbound
unbound_in tellings = filter_map missing_in tellings
