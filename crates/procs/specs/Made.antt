-- The calls that were made, and the calls that the rule gives.
use Rattle.std.specs.Prelude.{◌≡◌, List, [], ◌∷◌, ◌++◌, map}
use Rattle.procs.specs.Seen.{Seen}
use Rattle.procs.specs.Promises.{Promised, IsKept}
use Rattle.procs.specs.declared.made_call.MadeCall.{MadeCall}
use Rattle.procs.specs.declared.made_call.Unbound.{Unbound}
use Rattle.procs.specs.Tellings.{Entry, Telling, calls_in, unbound_in}

-- the calls that were made, and the binds that were left out
pub record Made : Type 0 where
  pub calls : List MadeCall
  pub unbound : List Unbound

abbrev pub entry_of : MadeCall → Entry
entry_of made = record { bind = made.bind; proc = made.proc; call = made.call; code = made.reply.code }

-- each reply keeps the promise of its proc
abbrev pub AllKept : Promised → Seen → List MadeCall → Type 0
AllKept promised seen [] = Unit {0}
AllKept promised seen (m ∷ ms) = IsKept promised m.proc m.call seen m.reply × AllKept promised seen ms

-- exactly these calls were made, and each reply keeps its promise
pub record IsMade (promised : Promised) (seen : Seen) (made : Made) (tellings : List Telling) : Type 0 where
  pub calls : map entry_of made.calls ≡ calls_in tellings
  pub unbound : made.unbound ≡ unbound_in tellings
  pub kept : AllKept promised seen made.calls

-- the first of these calls were made
abbrev pub IsFrontMade : Promised → Seen → Made → List Telling → Type 0
IsFrontMade promised seen made tellings = (front rest : List Telling) × (tellings ≡ front ++ rest) × IsMade promised seen made front

-- after what was made before, these calls were made too
abbrev pub Adds : Promised → Seen → Made → List Telling → Made → Type 0
Adds promised seen old part new = (before : List Telling) → IsMade promised seen old before → IsMade promised seen new (before ++ part)

-- or the first of them were
abbrev pub AddsFront : Promised → Seen → Made → List Telling → Made → Type 0
AddsFront promised seen old part new = (before : List Telling) → IsMade promised seen old before → IsFrontMade promised seen new (before ++ part)
