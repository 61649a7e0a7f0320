-- Who of the bots on a channel does what a proc requests: the first at once; of some procs the others later, if it is not
-- done by then.
use Rattle.std.specs.Prelude.{ℕ, nat_le, not, ◌==◌, ◌&&◌, List, [], take, Bool, true, false, if◌then◌else◌}
use Rattle.std.specs.List.{filter_map}
use Rattle.procs.specs.declared.action.Action.{Action}
use Rattle.procs.specs.declared.call.Call.{Call}
use Rattle.procs.specs.declared.call_kind.CallKind.{CallKind}
use Rattle.procs.specs.declared.call_kind.CallKind.TheVariants.{Raw, Msg, Msgm, Notc, Pub, Pubm, Join, Part, Sign, Kick, Nick, Mode, Topc, Account}
use Rattle.procs.specs.declared.call_kind.CallKind.TheVariants.{Bot, Time, Cron, Timer}
use Rattle.procs.specs.declared.limits.TheConstants.{MAX_ACTIONS}
use Rattle.procs.specs.Seen.{Seen}
use Rattle.eggprocs.specs.declared.duties.Duty.{Duty}
use Rattle.eggprocs.specs.declared.duties.Duty.TheVariants.{Each, First, FirstOp, Turns, TurnsOp}
use Rattle.eggprocs.specs.declared.looks.TheConstants.{MAX_TURN}
use Rattle.eggprocs.specs.Looks.{look_for}
use Rattle.eggprocs.specs.Hands.{rank}

-- whether only operators count among the bots on the channel
abbrev pub needs_op : Duty → Bool
needs_op FirstOp = true
needs_op TurnsOp = true
needs_op Each = false
needs_op First = false
needs_op Turns = false

-- whether the others look later
abbrev pub takes_turns : Duty → Bool
takes_turns Turns = true
takes_turns TurnsOp = true
takes_turns Each = false
takes_turns First = false
takes_turns FirstOp = false

abbrev pub is_each : Duty → Bool
is_each Each = true
is_each First = false
is_each FirstOp = false
is_each Turns = false
is_each TurnsOp = false

-- whether all bots on a channel get a call of this kind: for what is said there, for a join, and for a mode
abbrev pub is_heard_by_all : CallKind → Bool
is_heard_by_all Pub = true
is_heard_by_all Pubm = true
is_heard_by_all Join = true
is_heard_by_all Mode = true
is_heard_by_all Raw = false
is_heard_by_all Msg = false
is_heard_by_all Msgm = false
is_heard_by_all Notc = false
is_heard_by_all Part = false
is_heard_by_all Sign = false
is_heard_by_all Kick = false
is_heard_by_all Nick = false
is_heard_by_all Topc = false
is_heard_by_all Account = false
is_heard_by_all Bot = false
is_heard_by_all Time = false
is_heard_by_all Cron = false
is_heard_by_all Timer = false

-- how many bots have their turn before this one
abbrev pub turn_of : Duty → Call → Seen → ℕ
turn_of duty call seen = if not (is_each duty) && is_heard_by_all call.kind then rank (needs_op duty) call seen else 0

-- whether a bot looks at this turn
abbrev pub has_look : Duty → ℕ → Bool
has_look duty turn = takes_turns duty && nat_le turn MAX_TURN

-- what a bot requests of what it would request alone: all at its turn 0, and later looks at turn 1 to 8 if the duty has
-- turns
abbrev pub by_turn : Duty → ℕ → Call → Seen → List Action → List Action
by_turn duty turn call seen wanted =
    if turn == 0 then wanted
    else if has_look duty turn then take MAX_ACTIONS (filter_map (look_for turn call seen) wanted)
    else []

abbrev pub share_out : Duty → Call → Seen → List Action → List Action
share_out duty call seen wanted = by_turn duty (turn_of duty call seen) call seen wanted
