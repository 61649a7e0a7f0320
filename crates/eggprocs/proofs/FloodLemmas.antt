-- What `kickfloods` requests: whom it kicks, which address it bans, and when it requests nothing.
use Rattle.std.proofs.Common.{◌≡◌, ◌∙◌, ◌&&◌, ◌||◌, ◌*◌, ◌∷◌, not, ℕ, List, [], take, slice_get, Bool, true, false, refl, ap, sym, codes, if◌then◌else◌, Some}
use Rattle.std.specs.List.{list_all, list_any, filter_map, flat_map}
use Rattle.std.proofs.lemmas.Bool.{and_from, or_right}
use Rattle.std.proofs.lemmas.List.Elements.{All-take}
use Rattle.std.proofs.lemmas.List.Sums.{AllPass-from_list_all, list_all-from_AllPass}
use Rattle.chanstate.specs.declared.member.Member.{Member}
use Rattle.chanstate.specs.Views.{members_in, channels_with}
use Rattle.chanstate.specs.declared.state.ChanState.{ChanState}
use Rattle.outqueue.specs.declared.queue.Queue.TheVariants.{Mode as mode_queue}
use Rattle.procs.specs.declared.action.Action.{Action}
use Rattle.procs.specs.declared.call.Call.{Call}
use Rattle.procs.specs.declared.limits.TheConstants.{MAX_ACTIONS}
use Rattle.procs.specs.Seen.{Seen}
use Rattle.eggprocs.specs.declared.duties.Duty.TheVariants.{TurnsOp}
use Rattle.eggprocs.specs.declared.looks.TheConstants.{LOOK_SECONDS}
use Rattle.eggprocs.specs.declared.proc_name.ProcName.TheVariants as which
use Rattle.eggprocs.specs.ChannelLaws.{is_flood_kick, is_flood_ban, is_flood_line, is_against_flood, LeavesOtherFloods, LooksAfterFloods, BansJoiners}
use Rattle.eggprocs.specs.Channel.{put}
use Rattle.eggprocs.specs.Ends.{call_on}
use Rattle.eggprocs.specs.Floods.{is_flood, flood_place, is_nowhere, is_of_joins, is_of_nicks, is_flooder, flood_reason, flood_mask}
use Rattle.eggprocs.specs.Floods.{flood_kick, flood_kicks, is_spared_flooder, is_banned, flood_ban, flood_lines, flood_on, floods_all, flood_nowhere, asked_by_kickfloods}
use Rattle.eggprocs.specs.Keeping.{is_spared}
use Rattle.eggprocs.specs.Laws.{DoesOnly, is_bot_or_known, is_line_in_turn}
use Rattle.eggprocs.specs.Lines.{mode, kick}
use Rattle.eggprocs.specs.Procs.{wanted_by}
use Rattle.eggprocs.specs.Rights.{is_op_of}
use Rattle.eggprocs.specs.TurnLaws.{is_look_after}
use Rattle.eggprocs.specs.Turns.{turn_of, by_turn, share_out}
use Rattle.eggprocs.proofs.EndLemmas.{all-flat}
use Rattle.eggprocs.proofs.KeepingLemmas.{is_line-put, known-spared, kick-by, test-kept}
use Rattle.eggprocs.proofs.LawLemmas.{alone-kept, does-nothing, same-either}
use Rattle.eggprocs.proofs.Lists.{any-more, any-same, all-of, all-given}
use Rattle.eggprocs.proofs.LookLemmas.{later-turn}
use Rattle.eggprocs.proofs.TurnLemmas.{KeepsLooks, either-kept, share-only}

-- ---- the lines on a channel

abbrev members_on : List ℕ → Seen → List Member
members_on channel seen = members_in channel seen.sight.channels

-- a kick of some member of the channel, and one of the lines
abbrev is_some_kick : List ℕ → Call → Seen → Action → Bool
is_some_kick channel call seen action = list_any (is_flood_kick channel call seen action) (members_on channel seen)

abbrev is_some_line : List ℕ → Call → Seen → Action → Bool
is_some_line channel call seen action = is_some_kick channel call seen action || is_flood_ban channel call seen action

-- a kick is of the member that gives it
kick-right : (channel : List ℕ) (call : Call) (seen : Seen) (member : Member) (action : Action)
    → flood_kick (call_on channel) call seen member ≡ Some action → is_flood_kick channel call seen action member ≡ true
kick-right channel call seen member action is =
    let line : List ℕ = kick channel member.nick (flood_reason call) in
    ap (λ (known : Bool). (is_flooder call member && not known) && is_line_in_turn line action) (known-spared (call_on channel) seen member)
    ∙ kick-by (is_flooder call member && not (is_spared (call_on channel) seen member)) line action is

-- each of the first so many actions passes a test that all pass
first-pass : (p : Action → Bool) (actions : List Action) → list_all p actions ≡ true → list_all p (take MAX_ACTIONS actions) ≡ true
first-pass p actions all =
    list_all-from_AllPass p (take MAX_ACTIONS actions)
    (All-take (λ (action : Action). p action ≡ true) MAX_ACTIONS actions (AllPass-from_list_all p actions all))

kicks-right : (channel : List ℕ) (call : Call) (seen : Seen)
    → list_all (is_some_line channel call seen) (flood_kicks (call_on channel) call seen) ≡ true
kicks-right channel call seen =
    let kicks : List Action = filter_map (flood_kick (call_on channel) call seen) (members_on channel seen) in
    all-of (is_some_kick channel call seen) (is_some_line channel call seen) (take MAX_ACTIONS kicks)
    (λ action is. ap (λ (b : Bool). b || is_flood_ban channel call seen action) is)
    (first-pass (is_some_kick channel call seen) kicks
    (all-given (flood_kick (call_on channel) call seen) (is_flood_kick channel call seen) (kick-right channel call seen) (members_on channel seen)))

-- the ban is of the address that nobody has whom bans spare
ban-right : (channel : List ℕ) (call : Call) (seen : Seen) → is_banned (call_on channel) call seen ≡ true
    → is_flood_ban channel call seen (flood_ban (call_on channel) call) ≡ true
ban-right channel call seen is =
    let line : List ℕ = mode channel (codes "+b") (flood_mask call) in
    ap (λ (some : Bool). (is_of_joins call && not some) && is_line_in_turn line (put mode_queue line))
    (any-same (λ member. is_flooder call member && is_bot_or_known (call_on channel) seen member) (is_spared_flooder (call_on channel) call seen)
    (members_on channel seen)
    (λ member. ap (λ (known : Bool). is_flooder call member && known) (known-spared (call_on channel) seen member)))
    ∙ and_from (is_banned (call_on channel) call seen) (is_line_in_turn line (put mode_queue line)) is (ap (λ (b : Bool). b || false) (is_line-put line))

lines-right : (channel : List ℕ) (call : Call) (seen : Seen)
    → list_all (is_some_line channel call seen) (flood_lines (call_on channel) call seen) ≡ true
lines-right channel call seen = by (is_banned (call_on channel) call seen) refl
  where
    ban : Action
    ban = flood_ban (call_on channel) call

    kicks : List Action
    kicks = flood_kicks (call_on channel) call seen

    by : (banned : Bool) → is_banned (call_on channel) call seen ≡ banned
        → list_all (is_some_line channel call seen) (if banned then take MAX_ACTIONS (ban ∷ kicks) else kicks) ≡ true
    by false is = kicks-right channel call seen
    by true is = first-pass (is_some_line channel call seen) (ban ∷ kicks)
        (and_from (is_some_line channel call seen ban) (list_all (is_some_line channel call seen) kicks)
        (or_right (is_some_kick channel call seen ban) (is_flood_ban channel call seen ban) (ban-right channel call seen is))
        (kicks-right channel call seen))

-- a look for a line is for that line
kick-kept : (channel : List ℕ) (call : Call) (seen : Seen) → KeepsLooks (call_on channel) seen (is_some_kick channel call seen)
kick-kept channel call seen turn action look is right =
    any-more (is_flood_kick channel call seen action) (is_flood_kick channel call seen look) (members_on channel seen)
    (λ member. test-kept (call_on channel) seen (is_flooder call member && not (is_bot_or_known (call_on channel) seen member))
    (kick channel member.nick (flood_reason call)) turn action look is) right

line-kept : (channel : List ℕ) (call : Call) (seen : Seen) → KeepsLooks (call_on channel) seen (is_some_line channel call seen)
line-kept channel call seen =
    either-kept (call_on channel) seen (is_some_kick channel call seen) (is_flood_ban channel call seen) (kick-kept channel call seen)
    (test-kept (call_on channel) seen
    (is_of_joins call && not (list_any (λ member. is_flooder call member && is_bot_or_known (call_on channel) seen member) (members_on channel seen)))
    (mode channel (codes "+b") (flood_mask call)))

-- what is requested on a channel
channel-right : (call : Call) (seen : Seen) (channel : List ℕ)
    → list_all (λ action. is_flood_line call seen action channel) (flood_on channel call seen) ≡ true
channel-right call seen channel = by (is_op_of channel seen)
  where
    lines : List Action
    lines = flood_lines (call_on channel) call seen

    by : (op : Bool)
        → list_all (λ action. op && is_some_line channel call seen action) (if op then share_out TurnsOp (call_on channel) seen lines else []) ≡ true
    by false = refl
    by true = share-only (is_some_line channel call seen) TurnsOp (call_on channel) seen lines (line-kept channel call seen) (lines-right channel call seen)

-- ---- all of it

flood-right : (call : Call) (seen : Seen) (nowhere nicks : Bool)
    → list_all (λ action. list_any (is_flood_line call seen action)
    (if nowhere then channels_with seen.sight.channels.nick seen.sight.channels else flood_place call ∷ []))
    (if nowhere then (if nicks then floods_all call seen else []) else flood_on (flood_place call) call seen) ≡ true
flood-right call seen true false = refl
flood-right call seen true true =
    let channels : List (List ℕ) = channels_with seen.sight.channels.nick seen.sight.channels in
    first-pass (λ action. list_any (is_flood_line call seen action) channels) (flat_map (λ channel. flood_on channel call seen) channels)
    (all-flat (λ channel. flood_on channel call seen) (is_flood_line call seen) (channel-right call seen) channels)
flood-right call seen false nicks =
    all-of (λ action. is_flood_line call seen action (flood_place call)) (λ action. is_flood_line call seen action (flood_place call) || false)
    (flood_on (flood_place call) call seen) (λ action is. ap (λ (b : Bool). b || false) is) (channel-right call seen (flood_place call))

pub floods-only : DoesOnly is_against_flood (codes "kickfloods")
unfolding wanted_by
floods-only call seen reply kept =
    ap (list_all (is_against_flood call seen)) (alone-kept which.KickFloods call seen reply refl kept) ∙ by (is_flood call)
  where
    by : (flood : Bool) → list_all (is_against_flood call seen)
        (if flood then (if is_nowhere call then (if is_of_nicks call then floods_all call seen else []) else flood_on (flood_place call) call seen) else []) ≡ true
    by false = refl
    by true = flood-right call seen (is_nowhere call) (is_of_nicks call)

pub floods-nowhere : LeavesOtherFloods (codes "kickfloods")
unfolding wanted_by
floods-nowhere call seen nowhere other =
    let here : List Action = flood_on (flood_place call) call seen in
    does-nothing which.KickFloods call seen
    (ap (λ (b : Bool). if is_flood call then (if b then (if is_of_nicks call then floods_all call seen else []) else here) else []) nowhere
    ∙ ap (λ (b : Bool). if is_flood call then (if b then floods_all call seen else []) else []) other
    ∙ same-either (is_flood call) [])

-- ---- turns

-- what is requested for a flood on a channel
on-channel : (call : Call) (seen : Seen) → is_nowhere call ≡ false
    → wanted_by which.KickFloods call seen ≡ (if is_flood call then flood_on (flood_place call) call seen else [])
unfolding wanted_by
on-channel call seen here =
    ap (λ (b : Bool). if is_flood call then (if b then (if is_of_nicks call then floods_all call seen else []) else flood_on (flood_place call) call seen) else []) here

pub floods-later : LooksAfterFloods (codes "kickfloods")
floods-later call seen here above reply kept =
    ap (list_all waits) (alone-kept which.KickFloods call seen reply refl kept ∙ on-channel call seen here)
    ∙ by (is_flood call) (is_op_of (flood_place call) seen)
  where
    on : Call
    on = call_on (flood_place call)

    waits : Action → Bool
    waits = is_look_after (turn_of TurnsOp on seen * LOOK_SECONDS)

    by : (flood op : Bool) → list_all waits (if flood then (if op then share_out TurnsOp on seen (flood_lines on call seen) else []) else []) ≡ true
    by false op = refl
    by true false = refl
    by true true = later-turn TurnsOp (turn_of TurnsOp on seen) on seen (flood_lines on call seen) above

pub joiners-banned : BansJoiners (codes "kickfloods")
joiners-banned call seen flood here op banned first reply kept =
    let on : Call = call_on (flood_place call) in
    let lines : List Action = flood_lines on call seen in
    ap (λ (actions : List Action). slice_get actions 0)
    (alone-kept which.KickFloods call seen reply refl kept
    ∙ on-channel call seen here
    ∙ ap (λ (b : Bool). if b then flood_on (flood_place call) call seen else []) flood
    ∙ ap (λ (b : Bool). if b then share_out TurnsOp on seen lines else []) op
    ∙ ap (λ (turn : ℕ). by_turn TurnsOp turn on seen lines) first
    ∙ ap (λ (b : Bool). if b then take MAX_ACTIONS (flood_ban on call ∷ flood_kicks on call seen) else flood_kicks on call seen) banned)

-- ---- the code

-- the share of the lines on a channel on which the bot is an operator
pub on-op : (channel : List ℕ) (call on : Call) (seen : Seen) (wanted actions : List Action) (op : Bool) → op ≡ is_op_of channel seen → op ≡ true
    → on ≡ call_on channel → wanted ≡ flood_lines on call seen → actions ≡ share_out TurnsOp on seen wanted → actions ≡ flood_on channel call seen
on-op channel call on seen wanted actions op op_is true_is on_is wanted_is is =
    is
    ∙ ap (λ (lines : List Action). share_out TurnsOp on seen lines) wanted_is
    ∙ ap (λ (there : Call). share_out TurnsOp there seen (flood_lines there call seen)) on_is
    ∙ sym (ap (λ (b : Bool). if b then share_out TurnsOp (call_on channel) seen (flood_lines (call_on channel) call seen) else []) (sym op_is ∙ true_is))

-- what is requested on the channels that the bot has looked up
pub on-all : (call : Call) (seen : Seen) (channels : ChanState) (nick : List ℕ) (held names : List (List ℕ)) (actions : List Action)
    → channels ≡ seen.sight.channels → nick ≡ channels.nick → held ≡ channels_with nick channels → names ≡ held
    → actions ≡ take MAX_ACTIONS (flat_map (λ channel. flood_on channel call seen) names) → actions ≡ floods_all call seen
on-all call seen channels nick held names actions same own all slice is =
    is
    ∙ ap (λ (list : List (List ℕ)). take MAX_ACTIONS (flat_map (λ channel. flood_on channel call seen) list))
    (slice ∙ all ∙ ap (λ (n : List ℕ). channels_with n channels) own ∙ ap (λ (state : ChanState). channels_with state.nick state) same)

pub on-nowhere : (call : Call) (seen : Seen) (nicks : Bool) (actions : List Action) → nicks ≡ is_of_nicks call → nicks ≡ true
    → actions ≡ floods_all call seen → actions ≡ flood_nowhere call seen
on-nowhere call seen nicks actions nicks_is true_is is =
    is ∙ sym (ap (λ (b : Bool). if b then floods_all call seen else []) (sym nicks_is ∙ true_is))

pub on-place : (call : Call) (seen : Seen) (flood nowhere : Bool) (place : List ℕ) (actions : List Action) → flood ≡ is_flood call → flood ≡ true
    → nowhere ≡ is_nowhere call → nowhere ≡ false → place ≡ flood_place call → actions ≡ flood_on place call seen → actions ≡ asked_by_kickfloods call seen
on-place call seen flood nowhere place actions flood_is true_is nowhere_is false_is place_is is =
    is
    ∙ ap (λ (channel : List ℕ). flood_on channel call seen) place_is
    ∙ sym (ap (λ (b : Bool). if b then (if is_nowhere call then flood_nowhere call seen else flood_on (flood_place call) call seen) else []) (sym flood_is ∙ true_is)
    ∙ ap (λ (b : Bool). if b then flood_nowhere call seen else flood_on (flood_place call) call seen) (sym nowhere_is ∙ false_is))
