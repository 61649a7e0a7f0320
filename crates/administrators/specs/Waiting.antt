-- Why a change that a proc asked for waits.
use Rattle.std.specs.Prelude.{ℕ, Bool, true, false, not, is_some, List, if◌then◌else◌, codes}
use Rattle.std.specs.List.{list_any}
use Rattle.procs.specs.declared.action.Action.{Action}
use Rattle.procs.specs.declared.action.Action.TheVariants.{Ask, Timer, Utimer, KillTimer, SendBot, Put}
use Rattle.administrators.specs.declared.noticing.ChangeWait.{ChangeWait}
use Rattle.administrators.specs.declared.noticing.ChangeWait.TheVariants.{Answer, Persons, Reads}
use Rattle.administrators.specs.declared.noticing.HubTakes.{HubTakes}
use Rattle.administrators.specs.declared.noticing.HubTakes.TheVariants.{All, OfPersons, Nothing}

-- a change in nobody's name
abbrev pub is_nameless_ask : Action → Bool
is_nameless_ask (Ask change) = not (is_some change.by)
is_nameless_ask (Timer wish) = false
is_nameless_ask (Utimer wish) = false
is_nameless_ask (KillTimer id) = false
is_nameless_ask (SendBot wish) = false
is_nameless_ask (Put wish) = false

-- the changes of a call wait at a bot whose hub takes none in nobody's name from it
abbrev pub wait_of_persons : List Action → ChangeWait
wait_of_persons actions = if list_any is_nameless_ask actions then Persons else Answer

-- the changes of a call wait for the hub's answer, or since it takes one of them never from this bot
abbrev pub wait_for : HubTakes → List Action → ChangeWait
wait_for All actions = Answer
wait_for OfPersons actions = wait_of_persons actions
wait_for Nothing actions = Reads

-- what a notice says of a change that waits
abbrev pub words_while : ChangeWait → List ℕ
words_while Answer = codes "queued: the hub has not answered yet"
words_while Persons =
    codes "waits: this leaf may ask for persons alone, as its hub says, and this is in nobody's name"
words_while Reads = codes "waits: this leaf may only read, as its hub says"
