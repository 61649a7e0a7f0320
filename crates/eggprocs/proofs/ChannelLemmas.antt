-- What the procs request that keep a channel by themselves, and when they request nothing.
use Rattle.std.proofs.Common.{◌≡◌, ◌∙◌, ◌&&◌, ◌||◌, ◌∷◌, not, ℕ, List, [], Bool, true, false, refl, ap, codes, if◌then◌else◌, Option, Some, None, ◌⊎◌, inl, inr}
use Rattle.std.specs.List.{list_all}
use Rattle.std.specs.Str.{bytes_eq}
use Rattle.userfile.specs.declared.flags.PersonFlags.{PersonFlags}
use Rattle.chanstate.specs.declared.member.Member.{Member}
use Rattle.chanstate.specs.declared.support.Support.{Support}
use Rattle.chanstate.specs.Views.{member_in, members_in, is_op}
use Rattle.outqueue.specs.declared.queue.Queue.TheVariants.{Mode as mode_queue, Server}
use Rattle.procs.specs.declared.action.Action.{Action}
use Rattle.procs.specs.declared.call.Call.{Call}
use Rattle.procs.specs.Seen.{Seen}
use Rattle.eggprocs.specs.declared.needs.TheConstants.{GIVE_SECONDS}
use Rattle.eggprocs.specs.declared.proc_name.ProcName.TheVariants as which
use Rattle.eggprocs.specs.Args.{channel_of, mode_change, mode_argument}
use Rattle.eggprocs.specs.ChannelLaws.{is_plain_reverse, is_end_of_key, is_reverse, is_gift_to, is_gift, GivesOpLater, LeavesNobodyBehind, IsOnlyWithoutOp, IsOnlyForOwn, SparesSticky, IsOnlyToBot, IsOnlyForTexts}
use Rattle.eggprocs.specs.Channel.{put}
use Rattle.eggprocs.specs.Ctcp.{is_raw, is_request, is_tagged, addressee_of, command_of, text_of, sender_of, untagged, answer_to, answered}
use Rattle.eggprocs.specs.Cycling.{leaver_of, is_made_again, lacks_op, is_self_or, is_left_alone, cycled}
use Rattle.eggprocs.specs.Dynamic.{is_sticky, later_lift, lifted_at}
use Rattle.eggprocs.specs.Ends.{call_on}
use Rattle.eggprocs.specs.Everyone.{is_own_nick, address_of, flags_of_member}
use Rattle.eggprocs.specs.Keeping.{is_change_here, is_by_bot, is_change_by_untrusted}
use Rattle.eggprocs.specs.Laws.{IsOnlyByOps, IsOnlyForOthers, LeavesTrusted, DoesOnly, is_line_in_turn}
use Rattle.eggprocs.specs.Lines.{mode, plain_mode, part, join}
use Rattle.eggprocs.specs.Modes.{has_plain_reverse, reverse_of, plain_reverse, sets_key, undone}
use Rattle.eggprocs.specs.Looks.{or_at_once}
use Rattle.eggprocs.specs.Needs.{needed_on, needed_by, is_known_bot, may_give, op_later, op_for}
use Rattle.eggprocs.specs.Procs.{wanted_by}
use Rattle.eggprocs.specs.Rights.{has_bot, has_op, is_bot_op}
use Rattle.eggprocs.proofs.KeepingLemmas.{false-and, nothing-if, by_untrusted-bot, by_untrusted-own, by_untrusted-trusted, is_change_here-bot, is_line-put, lone-line, test-kept}
use Rattle.eggprocs.proofs.TurnLemmas.{either-kept, in-place}
use Rattle.eggprocs.proofs.LawLemmas.{and-false, alone-kept, shares-kept, does-nothing, has_one_of-ops}

-- ---- modes

keepmodes-none : (call : Call) (seen : Seen) → is_change_by_untrusted (mode_change call) call seen ≡ false → wanted_by which.KeepModes call seen ≡ []
unfolding wanted_by
keepmodes-none call seen =
    nothing-if (is_change_by_untrusted (mode_change call) call seen) (undone (sets_key seen.sight.channels.support (mode_change call)) call (plain_reverse seen.sight.channels.support (mode_change call)))

pub keepmodes-bot : IsOnlyByOps (codes "keepmodes")
keepmodes-bot call seen denied =
    does-nothing which.KeepModes call seen (keepmodes-none call seen (by_untrusted-bot (mode_change call) call seen denied))

pub keepmodes-own : IsOnlyForOthers (codes "keepmodes")
keepmodes-own call seen own = does-nothing which.KeepModes call seen (keepmodes-none call seen (by_untrusted-own (mode_change call) call seen own))

pub keepmodes-trusted : LeavesTrusted (codes "keepmodes")
keepmodes-trusted call seen trusted =
    does-nothing which.KeepModes call seen (keepmodes-none call seen (by_untrusted-trusted (mode_change call) call seen trusted))

-- each line is one of the two
reverse-only : (may plain key : Bool) (call : Call) (change : List ℕ)
    → list_all (λ action. (plain && is_line_in_turn (plain_mode (channel_of call) change) action)
    || (key && is_line_in_turn (mode (channel_of call) (codes "-k") (mode_argument call)) action))
    (if may then undone key call (if plain then Some change else None) else []) ≡ true
reverse-only false plain key call change = refl
reverse-only true true key call change =
    let line : List ℕ = plain_mode (channel_of call) change in
    ap (λ (b : Bool). ((b || false) || (key && is_line_in_turn (mode (channel_of call) (codes "-k") (mode_argument call)) (put mode_queue line))) && true)
    (is_line-put line)
reverse-only true false true call change = lone-line true (mode (channel_of call) (codes "-k") (mode_argument call))
reverse-only true false false call change = refl

pub keepmodes-only : DoesOnly is_reverse (codes "keepmodes")
unfolding wanted_by
keepmodes-only call seen =
    let support : Support = seen.sight.channels.support in
    let change : List ℕ = mode_change call in
    shares-kept which.KeepModes call seen (is_reverse call seen)
    (either-kept call seen (is_plain_reverse call seen) (is_end_of_key call seen)
    (test-kept call seen (has_plain_reverse support change) (plain_mode (channel_of call) (reverse_of change)))
    (test-kept call seen (sets_key support change) (mode (channel_of call) (codes "-k") (mode_argument call))))
    (reverse-only (is_change_by_untrusted change call seen) (has_plain_reverse support change) (sets_key support change) call (reverse_of change))

-- ---- a channel without operators

cycled-none : (leaver : List ℕ) (call : Call) (seen : Seen) → is_left_alone leaver call seen ≡ false → cycled (Some leaver) call seen ≡ []
cycled-none leaver call seen none =
    nothing-if (is_made_again (channel_of call) && is_left_alone leaver call seen)
    (put Server (part (channel_of call)) ∷ put Server (join (channel_of call)) ∷ [])
    (and-false (is_made_again (channel_of call)) (is_left_alone leaver call seen) none)

pub cycle-alone : LeavesNobodyBehind (codes "cycle")
unfolding wanted_by
cycle-alone call seen leaver by some =
    let own : Option Member = member_in (channel_of call) seen.sight.channels.nick seen.sight.channels in
    does-nothing which.Cycle call seen
    (ap (λ (named : Option (List ℕ)). cycled named call seen) by
    ∙ cycled-none leaver call seen
    (and-false (not (is_own_nick seen leaver) && lacks_op own) (list_all (is_self_or leaver seen) (members_in (channel_of call) seen.sight.channels)) some))

lacks_op-none : (member : Option Member) → is_op member ≡ true → lacks_op member ≡ false
lacks_op-none None is = refl
lacks_op-none (Some member) is = ap not is

cycled-op : (leaver : Option (List ℕ)) (call : Call) (seen : Seen) → is_bot_op call seen ≡ true → cycled leaver call seen ≡ []
cycled-op None call seen is = refl
cycled-op (Some leaver) call seen is =
    let own : Option Member = member_in (channel_of call) seen.sight.channels.nick seen.sight.channels in
    cycled-none leaver call seen
    (false-and (not (is_own_nick seen leaver) && lacks_op own) (list_all (is_self_or leaver seen) (members_in (channel_of call) seen.sight.channels))
    (and-false (not (is_own_nick seen leaver)) (lacks_op own) (lacks_op-none own is)))

pub cycle-without_op : IsOnlyWithoutOp (codes "cycle")
unfolding wanted_by
cycle-without_op call seen is = does-nothing which.Cycle call seen (cycled-op (leaver_of call) call seen is)

-- ---- the bot's own bans

dynamic-none : (call : Call) (seen : Seen) → (is_change_here (codes "+b") call seen && is_by_bot call seen) ≡ false → wanted_by which.DynamicBans call seen ≡ []
unfolding wanted_by
dynamic-none call seen = nothing-if (is_change_here (codes "+b") call seen && is_by_bot call seen) (lifted_at seen.second call seen)

pub dynamicbans-bot : IsOnlyByOps (codes "dynamicbans")
dynamicbans-bot call seen denied =
    does-nothing which.DynamicBans call seen
    (dynamic-none call seen (false-and (is_change_here (codes "+b") call seen) (is_by_bot call seen) (is_change_here-bot (codes "+b") call seen denied)))

pub dynamicbans-own : IsOnlyForOwn (codes "dynamicbans")
dynamicbans-own call seen other =
    does-nothing which.DynamicBans call seen (dynamic-none call seen (and-false (is_change_here (codes "+b") call seen) (is_by_bot call seen) other))

lifted-sticky : (test sticky : Bool) (action : Action) → sticky ≡ true → (if test then (if sticky then [] else action ∷ []) else []) ≡ []
lifted-sticky false sticky action is = refl
lifted-sticky true sticky action is = ap (λ (b : Bool). if b then [] else action ∷ []) is

pub dynamicbans-sticky : SparesSticky (codes "dynamicbans")
unfolding wanted_by
dynamicbans-sticky call seen second at is =
    let test : Bool = is_change_here (codes "+b") call seen && is_by_bot call seen in
    does-nothing which.DynamicBans call seen
    (ap (λ (shown : Option ℕ). if test then lifted_at shown call seen else []) at ∙ lifted-sticky test (is_sticky second call seen) (later_lift call) is)

-- ---- op for other bots

lone-gift : (test : Bool) (channel : List ℕ) (member : Member)
    → list_all (λ action. test && is_line_in_turn (mode channel (codes "+o") member.nick) action) (if test then op_later channel member ∷ [] else []) ≡ true
lone-gift false channel member = refl
lone-gift true channel member = ap (λ (b : Bool). b && true) (in-place GIVE_SECONDS (mode channel (codes "+o") member.nick) (Some (address_of member)))

gift-only : (may : Bool) (channel : List ℕ) (member : Option Member) (seen : Seen)
    → list_all (is_gift_to channel member seen) (if may then op_for channel member seen else []) ≡ true
gift-only false channel member seen = refl
gift-only true channel None seen = refl
gift-only true channel (Some member) seen =
    let flags : PersonFlags = flags_of_member (call_on channel) seen member in
    let line : List ℕ = mode channel (codes "+o") member.nick in
    ap (λ (known : Bool). list_all (λ action. (has_bot flags && known) && is_line_in_turn line action)
    (if has_bot flags && has_op flags then op_later channel member ∷ [] else []))
    (has_one_of-ops flags)
    ∙ lone-gift (has_bot flags && has_op flags) channel member

pub giveop-only : DoesOnly is_gift (codes "giveop")
unfolding wanted_by
giveop-only call seen reply kept =
    ap (list_all (is_gift call seen)) (alone-kept which.GiveOp call seen reply refl kept)
    ∙ gift-only (may_give call seen) (needed_on call)
    (member_in (needed_on call) (needed_by call) seen.sight.channels) seen

pub giveop-later : GivesOpLater (codes "giveop")
unfolding wanted_by
giveop-later call seen member look is looks = λ reply kept.
    by reply.actions (may_give call seen) (is_known_bot (flags_of_member (call_on (needed_on call)) seen member))
    (alone-kept which.GiveOp call seen reply refl kept
    ∙ ap (λ (found : Option Member). if may_give call seen then op_for (needed_on call) found seen else []) is)
  where
    by : (actions : List Action) (may known : Bool)
        → actions ≡ (if may then (if known then op_later (needed_on call) member ∷ [] else []) else [])
        → (actions ≡ []) ⊎ (actions ≡ look ∷ [])
    by actions false known given = inl given
    by actions true false given = inl given
    by actions true true given =
        inr (given ∙ ap (λ (found : Option Action). or_at_once (mode (needed_on call) (codes "+o") member.nick) found ∷ []) looks)

-- ---- requests of other programs

ctcp-none : (call : Call) (seen : Seen) → is_request call seen ≡ false → wanted_by which.Ctcp call seen ≡ []
unfolding wanted_by
ctcp-none call seen = nothing-if (is_request call seen) (answered (sender_of call) (answer_to (untagged (text_of call)) seen.second))

pub ctcp-own : IsOnlyToBot (codes "ctcp")
ctcp-own call seen other =
    let command : Bool = is_raw call.kind && bytes_eq (command_of call) (codes "PRIVMSG") in
    let own : Bool = is_own_nick seen (addressee_of call) in
    does-nothing which.Ctcp call seen
    (ctcp-none call seen (and-false command (own && is_tagged (text_of call)) (false-and own (is_tagged (text_of call)) other)))

pub ctcp-texts : IsOnlyForTexts (codes "ctcp")
ctcp-texts call seen other =
    let command : Bool = bytes_eq (command_of call) (codes "PRIVMSG") in
    does-nothing which.Ctcp call seen
    (ctcp-none call seen
    (false-and (is_raw call.kind && command) (is_own_nick seen (addressee_of call) && is_tagged (text_of call)) (and-false (is_raw call.kind) command other)))
