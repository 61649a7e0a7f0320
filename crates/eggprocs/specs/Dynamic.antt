-- What `dynamicbans` requests: a ban that the bot itself sets on a channel ends there after an hour, unless it is sticky.
-- The records keep it, so the bot sets it again when somebody joins whom it matches. (After Eggdrop's channel setting of
-- this name and its `ban-time`.)
use Rattle.std.specs.Prelude.{ℕ, ◌&&◌, List, [], ◌∷◌, ◌++◌, Bool, is_some, if◌then◌else◌, codes, Option, Some, None}
use Rattle.userfile.specs.Persons.{sticky_ban}
use Rattle.chanstate.specs.Views.{mapping_of}
use Rattle.procs.specs.declared.action.Action.{Action}
use Rattle.procs.specs.declared.action.Action.TheVariants.{Utimer}
use Rattle.procs.specs.declared.call.Call.{Call}
use Rattle.procs.specs.Seen.{Seen}
use Rattle.eggprocs.specs.declared.dynamic.TheConstants.{DYNAMIC_SECONDS}
use Rattle.eggprocs.specs.Args.{channel_of, mode_argument}
use Rattle.eggprocs.specs.Keeping.{is_change_here, is_by_bot}

-- whether the records have a sticky ban of the mask that a change sets or clears, which has not ended at this second
abbrev pub is_sticky : ℕ → Call → Seen → Bool
is_sticky second call seen =
    is_some (sticky_ban (mapping_of seen.sight.channels) seen.sight.records.bans (channel_of call) (mode_argument call) second)

-- a call of `lift` with the channel and the mask, after an hour
abbrev pub later_lift : Call → Action
later_lift call =
    Utimer (record { interval = DYNAMIC_SECONDS; count = 1; proc = codes "lift"; text = channel_of call ++ codes " " ++ mode_argument call })

-- before the bot's clock has shown a second it makes no timers
abbrev pub lifted_at : Option ℕ → Call → Seen → List Action
lifted_at None call seen = []
lifted_at (Some second) call seen = if is_sticky second call seen then [] else later_lift call ∷ []

-- what `dynamicbans` requests, for a ban that the bot itself sets
abbrev pub asked_by_dynamicbans : Call → Seen → List Action
asked_by_dynamicbans call seen =
    if is_change_here (codes "+b") call seen && is_by_bot call seen then lifted_at seen.second call seen else []
