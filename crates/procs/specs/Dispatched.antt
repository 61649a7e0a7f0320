-- Occasions that were dispatched, and the calls that their rule gives.
use Rattle.std.specs.Prelude.{ℕ, Bool, List, Result, Ok, Err}
use Rattle.rfccase.specs.declared.casemappings.Casemapping.{Casemapping}
use Rattle.userfile.specs.declared.user.User.{User}
use Rattle.chanstate.specs.Views.{mapping_of}
use Rattle.procs.specs.declared.call.Call.{Call}
use Rattle.procs.specs.declared.reply.Code.{Code}
use Rattle.procs.specs.Promises.{Promised, code_at}
use Rattle.procs.specs.Seen.{Sight, Seen}
use Rattle.procs.specs.declared.bind.Bind.{Bind}
use Rattle.procs.specs.declared.trigger.Trigger.{Trigger}
use Rattle.procs.specs.declared.scene.Scene.{Scene}
use Rattle.procs.specs.Made.{Made, IsMade, IsFrontMade}
use Rattle.procs.specs.Dispatching.{Setting, told_of}

-- the setting of a bot with these procs, users and binds, on a server of this casemapping
abbrev pub setting_of : (List ℕ → Call → Code) → List (List ℕ) → Casemapping → List User → List Bind → Bool → Setting
setting_of code_of names mapping users binds exclusive =
    record { code_of = code_of; names = names; mapping = mapping; users = users; binds = binds; exclusive = exclusive }

-- the setting of a bot that sees this, by the casemapping of its channel state
abbrev pub setting_for : Promised → List (List ℕ) → Sight → List Bind → Bool → Setting
setting_for promised names sight binds exclusive =
    setting_of (code_at promised sight) names (mapping_of sight.channels) sight.records.users binds exclusive

-- the same for the scene that a bot passes
abbrev pub setting_in : {P B : Type 0} → Promised → Scene P B → Setting
setting_in promised scene =
    setting_for promised scene.store.now scene.view.now.sight scene.binds.now.binds scene.exclusive

-- all occasions were dispatched, or memory ran out after the first calls of them
abbrev pub IsDispatched : Promised → Seen → Setting → List Trigger → Result Made Made → Type 0
IsDispatched promised seen setting occasions (Ok made) = IsMade promised seen made (told_of setting occasions)
IsDispatched promised seen setting occasions (Err made) = IsFrontMade promised seen made (told_of setting occasions)
