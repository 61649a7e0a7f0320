-- Events of a message that call no bind.
use Rattle.std.specs.Prelude.{◌≡◌, List, [], ◌∷◌}
use Rattle.chanstate.specs.declared.event.IrcEvent.{IrcEvent}
use Rattle.procs.specs.declared.bind.Bind.{Bind}
use Rattle.procs.specs.Calls.{called}
use Rattle.procs.specs.Dispatching.{occurrence_of}
use Rattle.procs.specs.Heard.{Person}

-- an event calls none of these binds, whoever it is by
abbrev pub CallsNone : List Bind → IrcEvent → Type 0
CallsNone binds event = (person : Person) → called (occurrence_of event person) binds ≡ []

-- none of these events does
abbrev pub CallNone : List Bind → List IrcEvent → Type 0
CallNone binds [] = Unit {0}
CallNone binds (e ∷ es) = CallsNone binds e × CallNone binds es
