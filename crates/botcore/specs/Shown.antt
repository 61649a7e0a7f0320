-- Occasions are happenings, with each minute as a calendar and a clock show it.
use Rattle.std.specs.Prelude.{◌≡◌, List, [], ◌∷◌}
use Rattle.bottimers.specs.Civil.{IsCalendarMinute}
use Rattle.procs.specs.declared.trigger.Trigger.{Trigger}
use Rattle.procs.specs.declared.trigger.Trigger.TheVariants.{Heard, Due, Time, Cron, Said}
use Rattle.botcore.specs.declared.report.End.{End}
use Rattle.botcore.specs.declared.report.End.TheVariants.{Done, Refused, NoMemory}
use Rattle.botcore.specs.Happenings.{Happening}
use Rattle.botcore.specs.Happenings.Happening.{Heard as heard_event, Due as due_proc, Time as time_minute, Cron as cron_minute, Said as said_text}

-- the occasion is the happening, with the minute of its number
abbrev pub IsShown : Happening → Trigger → Type 0
IsShown (heard_event event) (Heard e) = e ≡ event
IsShown (due_proc proc text) (Due p t) = (p ≡ proc) × (t ≡ text)
IsShown (time_minute number) (Time minute) = IsCalendarMinute number minute
IsShown (cron_minute number) (Cron minute) = IsCalendarMinute number minute
IsShown (said_text from text) (Said f t) = (f ≡ from) × (t ≡ text)
IsShown happening occasion = ⊥

-- one occasion for each, in order
abbrev pub AreOccasions : List Happening → List Trigger → Type 0
AreOccasions [] [] = Unit {0}
AreOccasions (h ∷ hs) (o ∷ os) = IsShown h o × AreOccasions hs os
AreOccasions happenings occasions = ⊥

-- one occasion for each of the first happenings
abbrev pub AreFirst : List Happening → List Trigger → Type 0
AreFirst happenings [] = Unit {0}
AreFirst [] (o ∷ os) = ⊥
AreFirst (h ∷ hs) (o ∷ os) = IsShown h o × AreFirst hs os

-- all happenings; or out of memory, the first of them
abbrev pub AreTaken : End → List Happening → List Trigger → Type 0
AreTaken Done happenings occasions = AreOccasions happenings occasions
AreTaken (Refused why) happenings occasions = AreOccasions happenings occasions
AreTaken NoMemory happenings occasions = AreFirst happenings occasions
