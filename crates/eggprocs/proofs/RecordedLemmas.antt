-- Whom `keepbans` keeps off, and which bans it sets again.
use Rattle.std.proofs.Common.{◌≡◌, ◌∙◌, ◌&&◌, ◌||◌, ◌∷◌, ◌*◌, not, ℕ, List, [], Bool, true, false, refl, ap, codes, if◌then◌else◌, Option, Some, None}
use Rattle.std.specs.Prelude.{find}
use Rattle.std.specs.List.{list_all, list_any}
use Rattle.std.specs.Option.{option_map}
use Rattle.std.proofs.lemmas.Bool.{and_from, and_parts, and_right, and_left, or_right}
use Rattle.userfile.specs.declared.ban.Ban.{Ban}
use Rattle.userfile.specs.Persons.{returns_to}
use Rattle.chanstate.specs.declared.member.Member.{Member}
use Rattle.chanstate.specs.Views.{mapping_of, members_in}
use Rattle.procs.specs.declared.action.Action.{Action}
use Rattle.procs.specs.declared.call.Call.{Call}
use Rattle.procs.specs.declared.reply.ProcReply.{ProcReply}
use Rattle.procs.specs.Promises.{IsKept}
use Rattle.procs.specs.Seen.{Seen}
use Rattle.eggprocs.specs.declared.duties.Duty.TheVariants.{FirstOp, TurnsOp}
use Rattle.eggprocs.specs.declared.looks.TheConstants.{LOOK_SECONDS}
use Rattle.eggprocs.specs.declared.proc_name.ProcName.TheVariants as which
use Rattle.eggprocs.specs.Args.{nick_of, channel_of, mode_argument, or_else}
use Rattle.eggprocs.specs.ChannelLaws.{is_barring, is_line_of, is_kept_off, is_set_again, is_kept, SparesUnbanned, KeepsOff, KeepsOffBeside, SetsAgain, LeavesRemovalsToTheFirst}
use Rattle.eggprocs.specs.Everyone.{address_of}
use Rattle.eggprocs.specs.Keeping.{is_by_bot, is_change_here, is_change_by_others}
use Rattle.eggprocs.specs.Laws.{DoesOnly, IsOnlyByOps, IsOnlyForOthers, is_line_in_turn}
use Rattle.eggprocs.specs.Lines.{mode, kick}
use Rattle.eggprocs.specs.Looks.{look_if, or_at_once}
use Rattle.eggprocs.specs.Procs.{wanted_by, ours}
use Rattle.eggprocs.specs.Recorded.{second_of, ban_text, ban_line, is_newcomer, ban_on, kick_line, is_beside, address_beside, ban_or_look, kept_off, asked_for_join, ban_back, set_again, asked_for_removal}
use Rattle.eggprocs.specs.Rights.{is_join, is_change, is_bot_op}
use Rattle.eggprocs.specs.Turns.{turn_of, by_turn, share_out}
use Rattle.eggprocs.proofs.KeepingLemmas.{nothing-if, is_change_here-bot, is_line-put}
use Rattle.eggprocs.proofs.LawLemmas.{does-nothing, shares-kept, same-either}
use Rattle.eggprocs.proofs.Lists.{any-more, all-of, found-none, found-among}
use Rattle.eggprocs.proofs.LookLemmas.{acts-at-once, silent}
use Rattle.eggprocs.proofs.TurnLemmas.{KeepsLooks, in-place, keeps-line, share-only}

-- ---- nothing

-- nothing is requested if neither a join nor a removal asks for anything
keepbans-none : (call : Call) (seen : Seen) → is_newcomer call seen ≡ false → is_change_by_others (codes "-b") call seen ≡ false
    → wanted_by which.KeepBans call seen ≡ []
unfolding wanted_by
keepbans-none call seen new change =
    ap (λ (actions : List Action). if is_join call.kind then actions else asked_for_removal call seen)
    (nothing-if (is_newcomer call seen) (kept_off call seen (ban_on call seen)) new)
    ∙ ap (λ (actions : List Action). if is_join call.kind then [] else actions)
    (nothing-if (is_change_by_others (codes "-b") call seen) (share_out FirstOp call seen (set_again call (ban_back call seen))) change)
    ∙ same-either (is_join call.kind) []

pub keepbans-bot : IsOnlyByOps (codes "keepbans")
keepbans-bot call seen denied =
    does-nothing which.KeepBans call seen
    (keepbans-none call seen (and_left (is_bot_op call seen) (not (is_by_bot call seen)) denied)
    (and_left (is_change_here (codes "-b") call seen) (not (is_by_bot call seen)) (is_change_here-bot (codes "-b") call seen denied)))

pub keepbans-own : IsOnlyForOthers (codes "keepbans")
keepbans-own call seen own =
    does-nothing which.KeepBans call seen
    (keepbans-none call seen (and_right (is_bot_op call seen) (not (is_by_bot call seen)) (ap not own))
    (and_right (is_change_here (codes "-b") call seen) (not (is_by_bot call seen)) (ap not own)))

-- what is requested for a join, and for anything else
for-join : (call : Call) (seen : Seen) → is_join call.kind ≡ true → wanted_by which.KeepBans call seen ≡ asked_for_join call seen
unfolding wanted_by
for-join call seen is = ap (λ (b : Bool). if b then asked_for_join call seen else asked_for_removal call seen) is

for-removal : (call : Call) (seen : Seen) → is_join call.kind ≡ false → wanted_by which.KeepBans call seen ≡ asked_for_removal call seen
unfolding wanted_by
for-removal call seen is = ap (λ (b : Bool). if b then asked_for_join call seen else asked_for_removal call seen) is

-- ---- joins

pub keepbans-unbanned : SparesUnbanned (codes "keepbans")
keepbans-unbanned call seen joins none =
    does-nothing which.KeepBans call seen
    (for-join call seen joins
    ∙ ap (λ (found : Option Ban). if is_newcomer call seen then kept_off call seen found else []) (found-none (is_barring call seen) seen.sight.records.bans none)
    ∙ same-either (is_newcomer call seen) [])

-- what the first bot requests for a join
first-wants : (call : Call) (seen : Seen) (ban : Ban) → is_join call.kind ≡ true → is_newcomer call seen ≡ true → ban_on call seen ≡ Some ban
    → turn_of TurnsOp call seen ≡ 0
    → (reply : ProcReply) → IsKept ours (codes "keepbans") call seen reply → reply.actions ≡ ban_or_look call seen ban ∷ kick_line call ban ∷ []
first-wants call seen ban joins new is first reply kept =
    acts-at-once which.KeepBans call seen first reply kept
    ∙ for-join call seen joins
    ∙ ap (λ (b : Bool). if b then kept_off call seen (ban_on call seen) else []) new
    ∙ ap (kept_off call seen) is

-- the first action, by the first member beside the caller
wants-at : (call : Call) (seen : Seen) (ban : Ban) (member : Option Member)
    → find (is_beside ban.mask call seen) (members_in (channel_of call) seen.sight.channels) ≡ member
    → (ban_or_look call seen ban ∷ kick_line call ban ∷ [])
    ≡ (or_at_once (ban_text call ban) (look_if 1 (ban_text call ban) (option_map address_of member)) ∷ kick_line call ban ∷ [])
wants-at call seen ban member is =
    ap (λ (found : Option Member). or_at_once (ban_text call ban) (look_if 1 (ban_text call ban) (option_map address_of found)) ∷ kick_line call ban ∷ []) is

pub keeps-off : KeepsOff (codes "keepbans")
keeps-off call seen ban joins new is alone first = λ reply kept.
    first-wants call seen ban joins new is first reply kept
    ∙ wants-at call seen ban None (found-none (is_beside ban.mask call seen) (members_in (channel_of call) seen.sight.channels) alone)

pub keeps-off-beside : KeepsOffBeside (codes "keepbans")
keeps-off-beside call seen ban member joins new is beside first = λ reply kept.
    first-wants call seen ban joins new is first reply kept ∙ wants-at call seen ban (Some member) beside

-- each line of a ban is one of its lines
ban-line-of : (call : Call) (seen : Seen) (ban : Ban) → is_line_of call ban (ban_or_look call seen ban) ≡ true
ban-line-of call seen ban =
    ap (λ (b : Bool). b || is_line_in_turn (kick (channel_of call) (nick_of call) (or_else ban.comment (codes "banned"))) (ban_or_look call seen ban))
    (by (address_beside ban.mask call seen))
  where
    by : (address : Option (List ℕ)) → is_line_in_turn (ban_text call ban) (or_at_once (ban_text call ban) (look_if 1 (ban_text call ban) address)) ≡ true
    by None = in-place (1 * LOOK_SECONDS) (ban_text call ban) None
    by (Some address) = in-place (1 * LOOK_SECONDS) (ban_text call ban) (Some address)

kick-line-of : (call : Call) (ban : Ban) → is_line_of call ban (kick_line call ban) ≡ true
kick-line-of call ban =
    or_right (is_line_in_turn (mode (channel_of call) (codes "+b") ban.mask) (kick_line call ban))
    (is_line_in_turn (kick (channel_of call) (nick_of call) (or_else ban.comment (codes "banned"))) (kick_line call ban))
    (ap (λ (b : Bool). b || false) (is_line-put (kick (channel_of call) (nick_of call) (or_else ban.comment (codes "banned")))))

kept-only : (may : Bool) (call : Call) (seen : Seen) (found : Option Ban) → is_join call.kind ≡ true → ban_on call seen ≡ found
    → list_all (is_kept_off call seen) (if may then kept_off call seen found else []) ≡ true
kept-only false call seen found joins is = refl
kept-only true call seen None joins is = refl
kept-only true call seen (Some ban) joins is =
    and_from (is_kept_off call seen (ban_or_look call seen ban)) (is_kept_off call seen (kick_line call ban) && true)
    (one (ban_or_look call seen ban) (ban-line-of call seen ban)) (ap (λ (b : Bool). b && true) (one (kick_line call ban) (kick-line-of call ban)))
  where
    one : (action : Action) → is_line_of call ban action ≡ true → is_kept_off call seen action ≡ true
    one action line =
        and_from (is_join call.kind) (list_any (λ some. is_barring call seen some && is_line_of call some action) seen.sight.records.bans) joins
        (found-among (is_barring call seen) (λ some. is_line_of call some action) seen.sight.records.bans ban is line)

-- a look for a line of a ban is one of its lines
line-kept : (call : Call) (seen : Seen) (ban : Ban) → KeepsLooks call seen (is_line_of call ban)
line-kept call seen ban turn action look is right = by (is_line_in_turn bans action) (is_line_in_turn kicks action) refl refl right
  where
    bans : List ℕ
    bans = mode (channel_of call) (codes "+b") ban.mask

    kicks : List ℕ
    kicks = kick (channel_of call) (nick_of call) (or_else ban.comment (codes "banned"))

    by : (first second : Bool) → is_line_in_turn bans action ≡ first → is_line_in_turn kicks action ≡ second → (first || second) ≡ true
        → (is_line_in_turn bans look || is_line_in_turn kicks look) ≡ true
    by true second one other some = ap (λ (b : Bool). b || is_line_in_turn kicks look) (keeps-line bans call seen turn action look is one)
    by false true one other some = or_right (is_line_in_turn bans look) (is_line_in_turn kicks look) (keeps-line kicks call seen turn action look is other)
    by false false one other some = cc

kept-looks : (call : Call) (seen : Seen) → KeepsLooks call seen (is_kept_off call seen)
kept-looks call seen turn action look is right =
    let of_action : Ban → Bool = λ ban. is_barring call seen ban && is_line_of call ban action in
    let of_look : Ban → Bool = λ ban. is_barring call seen ban && is_line_of call ban look in
    let parts = and_parts (is_join call.kind) (list_any of_action seen.sight.records.bans) right in
    and_from (is_join call.kind) (list_any of_look seen.sight.records.bans) parts.0
    (any-more of_action of_look seen.sight.records.bans (λ ban both. one ban both) parts.1)
  where
    one : (ban : Ban) → (is_barring call seen ban && is_line_of call ban action) ≡ true → (is_barring call seen ban && is_line_of call ban look) ≡ true
    one ban both =
        let parts = and_parts (is_barring call seen ban) (is_line_of call ban action) both in
        and_from (is_barring call seen ban) (is_line_of call ban look) parts.0 (line-kept call seen ban turn action look is parts.1)

-- ---- removals

abbrev is_back : Call → Seen → Ban → Bool
is_back call seen ban = returns_to (mapping_of seen.sight.channels) (channel_of call) (mode_argument call) (second_of seen) ban

abbrev is_back_by : Call → Seen → Action → Ban → Bool
is_back_by call seen action ban = is_back call seen ban && is_line_in_turn (mode (channel_of call) (codes "+b") ban.mask) action

again-only : (call : Call) (seen : Seen) (found : Option Ban) → is_change (codes "-b") call ≡ true → ban_back call seen ≡ found
    → list_all (is_set_again call seen) (set_again call found) ≡ true
again-only call seen None change is = refl
again-only call seen (Some ban) change is =
    ap (λ (b : Bool). b && true)
    (and_from (is_change (codes "-b") call) (list_any (is_back_by call seen (ban_line call ban)) seen.sight.records.bans) change
    (found-among (is_back call seen) (λ one. is_line_in_turn (mode (channel_of call) (codes "+b") one.mask) (ban_line call ban)) seen.sight.records.bans ban is
    (ap (λ (b : Bool). b || false) (is_line-put (mode (channel_of call) (codes "+b") ban.mask)))))

again-looks : (call : Call) (seen : Seen) → KeepsLooks call seen (is_set_again call seen)
again-looks call seen turn action look is right =
    let parts = and_parts (is_change (codes "-b") call) (list_any (is_back_by call seen action) seen.sight.records.bans) right in
    and_from (is_change (codes "-b") call) (list_any (is_back_by call seen look) seen.sight.records.bans) parts.0
    (any-more (is_back_by call seen action) (is_back_by call seen look) seen.sight.records.bans (λ ban both. one ban both) parts.1)
  where
    one : (ban : Ban) → is_back_by call seen action ban ≡ true → is_back_by call seen look ban ≡ true
    one ban both =
        let parts = and_parts (is_back call seen ban) (is_line_in_turn (mode (channel_of call) (codes "+b") ban.mask) action) both in
        and_from (is_back call seen ban) (is_line_in_turn (mode (channel_of call) (codes "+b") ban.mask) look) parts.0
        (keeps-line (mode (channel_of call) (codes "+b") ban.mask) call seen turn action look is parts.1)

pub sets-again : SetsAgain (codes "keepbans")
sets-again call seen ban other change is first = λ reply kept.
    acts-at-once which.KeepBans call seen first reply kept
    ∙ for-removal call seen other
    ∙ ap (λ (b : Bool). if b then share_out FirstOp call seen (set_again call (ban_back call seen)) else []) change
    ∙ ap (λ (turn : ℕ). by_turn FirstOp turn call seen (set_again call (ban_back call seen))) first
    ∙ ap (set_again call) is

pub removals-left : LeavesRemovalsToTheFirst (codes "keepbans")
removals-left call seen other above =
    does-nothing which.KeepBans call seen
    (for-removal call seen other
    ∙ ap (λ (actions : List Action). if is_change_by_others (codes "-b") call seen then actions else [])
    (silent FirstOp (turn_of FirstOp call seen) call seen (set_again call (ban_back call seen)) refl above)
    ∙ same-either (is_change_by_others (codes "-b") call seen) [])

-- ---- nothing else

kept-either : (call : Call) (seen : Seen) → KeepsLooks call seen (is_kept call seen)
kept-either call seen turn action look is right = by (is_kept_off call seen action) (is_set_again call seen action) refl refl right
  where
    by : (first second : Bool) → is_kept_off call seen action ≡ first → is_set_again call seen action ≡ second → (first || second) ≡ true
        → is_kept call seen look ≡ true
    by true second one other some = ap (λ (b : Bool). b || is_set_again call seen look) (kept-looks call seen turn action look is one)
    by false true one other some = or_right (is_kept_off call seen look) (is_set_again call seen look) (again-looks call seen turn action look is other)
    by false false one other some = cc

wanted-only : (call : Call) (seen : Seen) (joins : Bool) → is_join call.kind ≡ joins
    → list_all (is_kept call seen) (if joins then asked_for_join call seen else asked_for_removal call seen) ≡ true
wanted-only call seen true joins =
    all-of (is_kept_off call seen) (is_kept call seen) (asked_for_join call seen)
    (λ action is. ap (λ (b : Bool). b || is_set_again call seen action) is)
    (kept-only (is_newcomer call seen) call seen (ban_on call seen) joins refl)
wanted-only call seen false other =
    all-of (is_set_again call seen) (is_kept call seen) (asked_for_removal call seen)
    (λ action is. or_right (is_kept_off call seen action) (is_set_again call seen action) is)
    (by (is_change_by_others (codes "-b") call seen) refl)
  where
    by : (change : Bool) → is_change_by_others (codes "-b") call seen ≡ change
        → list_all (is_set_again call seen) (if change then share_out FirstOp call seen (set_again call (ban_back call seen)) else []) ≡ true
    by false none = refl
    by true is =
        let here = (and_parts (is_change_here (codes "-b") call seen) (not (is_by_bot call seen)) is).0 in
        share-only (is_set_again call seen) FirstOp call seen (set_again call (ban_back call seen)) (again-looks call seen)
        (again-only call seen (ban_back call seen) (and_parts (is_change (codes "-b") call) (is_bot_op call seen) here).0 refl)

pub keepbans-only : DoesOnly is_kept (codes "keepbans")
unfolding wanted_by
keepbans-only call seen =
    shares-kept which.KeepBans call seen (is_kept call seen) (kept-either call seen) (wanted-only call seen (is_join call.kind) refl)
