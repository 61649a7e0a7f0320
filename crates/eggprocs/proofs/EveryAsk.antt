-- Each change that any proc requests is in the caller's name, or in nobody's and gives nothing.
use Rattle.std.proofs.Common.{◌≡◌, ◌||◌, ◌&&◌, ◌==◌, ◌∷◌, ◌++◌, ◌*◌, not, inl, inr, ℕ, zero, suc, List, [], length, take, Bool, true, false, refl, ap, sym, subst, codes, if◌then◌else◌, Option, Some, None}
use Rattle.std.specs.List.{list_any, filter_map, flat_map}
use Rattle.std.specs.Option.{option_map, option_to_list}
use Rattle.std.specs.Str.{bytes_eq}
use Rattle.bytetext.specs.Words.{after_word, first_word}
use Rattle.userfile.specs.Changes.{by_nobody}
use Rattle.userfile.specs.Shapes.{is_hostmask}
use Rattle.userfile.specs.declared.ban.Ban.{Ban}
use Rattle.userfile.specs.declared.change.Change.{Change}
use Rattle.userfile.specs.declared.edit.Edit.TheVariants.{AddUser, DelBan}
use Rattle.userfile.specs.declared.flags.PersonFlags.{PersonFlags}
use Rattle.chanstate.specs.declared.member.Member.{Member}
use Rattle.chanstate.specs.Views.{member_in, members_in, channels_with}
use Rattle.outqueue.specs.declared.queue.Queue.{Queue}
use Rattle.outqueue.specs.declared.queue.Queue.TheVariants.{Help, Mode as mode_queue, Server}
use Rattle.procs.specs.declared.action.Action.{Action}
use Rattle.procs.specs.declared.action.Action.TheVariants.{Ask, SendBot, Utimer}
use Rattle.procs.specs.declared.action.TimerWish.{TimerWish}
use Rattle.procs.specs.declared.call.Call.{Call}
use Rattle.procs.specs.declared.limits.TheConstants.{MAX_ACTIONS}
use Rattle.procs.specs.Seen.{Seen}
use Rattle.eggprocs.specs.declared.duties.Duty.TheVariants.{FirstOp, TurnsOp}
use Rattle.eggprocs.specs.declared.looks.TheConstants.{LOOK_SECONDS}
use Rattle.eggprocs.specs.declared.needs.TheConstants.{GIVE_SECONDS}
use Rattle.eggprocs.specs.declared.proc_name.ProcName.{ProcName}
use Rattle.eggprocs.specs.declared.proc_name.ProcName.TheVariants as which
use Rattle.eggprocs.specs.Args.{nick_of, channel_of, said_of, last_of, mode_change, mode_argument, timer_text, has_word, or_else}
use Rattle.eggprocs.specs.Basics.{is_command, place_of, asked_by_tick, asked_by_echo_at}
use Rattle.eggprocs.specs.Channel.{put, target_of, change_for, asked_for_newcomer}
use Rattle.eggprocs.specs.Ctcp.{is_request, sender_of, text_of, untagged, answer_to, answered_to, answered}
use Rattle.eggprocs.specs.Cycling.{leaver_of, is_made_again, is_left_alone, cycled}
use Rattle.eggprocs.specs.Dynamic.{is_sticky, later_lift, lifted_at}
use Rattle.eggprocs.specs.Ends.{call_on, has_ended, lifts_on, is_left, lift_if, delete_if, ends_of, is_minute, all_ends}
use Rattle.eggprocs.specs.Entries.{closed_channel, is_kept_out, needs_in, may_let_in}
use Rattle.eggprocs.specs.Everyone.{address_of, flags_of_member, is_own_join, gives_bot_op, change_of, mode_for}
use Rattle.eggprocs.specs.Floods.{is_flood, flood_place, flood_reason, is_nowhere, is_of_nicks, is_flooder, flood_kick, flood_kicks, is_banned, flood_ban, flood_lines, flood_on, floods_all, flood_nowhere}
use Rattle.eggprocs.specs.Guards.{hits_guarded, removes}
use Rattle.eggprocs.specs.Infos.{info_by, greeting}
use Rattle.eggprocs.specs.Keeping.{is_change_here, is_by_bot, is_change_by_others, is_change_by_untrusted, mode_back, takes_op, gives_op, flags_named, op_again, op_undone, is_hit, is_spared, kick_for}
use Rattle.eggprocs.specs.Laws.{EachAsk, AsksOnly, IsNamedOrGivesNothing, is_ask}
use Rattle.eggprocs.specs.Lines.{privmsg, topic, invite, mode, kick, part, join, who}
use Rattle.eggprocs.specs.Looks.{look_text, look_after, look_if, or_at_once, may_look, is_wanted, line_of}
use Rattle.eggprocs.specs.Modes.{plain_reverse, sets_key, undone}
use Rattle.eggprocs.specs.Needs.{lacks_op_on, needs_op_on, later_need, is_for_later, is_need, need_on, all_needs, needs_now, needed_on, needed_by, is_known_bot, may_give, op_later, op_for}
use Rattle.eggprocs.specs.People.{told}
use Rattle.eggprocs.specs.Procs.{which_named, duty_of, wanted_by, actions_by, actions_if}
use Rattle.eggprocs.specs.Recorded.{is_newcomer, ban_text, ban_line, ban_on, kick_line, address_beside, kept_off, asked_for_join, ban_back, set_again, asked_for_removal}
use Rattle.eggprocs.specs.Rights.{has_op, has_bot, flags_by, is_bot_op, is_from_op, is_from_voice, is_join, is_op_of, is_timer}
use Rattle.eggprocs.specs.Turns.{share_out}
use Rattle.eggprocs.specs.Whereabouts.{whereabouts}
use Rattle.eggprocs.proofs.AskLemmas.{ask_if, IsForEdits, AreForBans, no-asks, each-ask, each-other, each-if, share-asks, given-quiet, take-quiet, plus_user-wanted, minus_user-wanted, plus_host-wanted, minus_host-wanted, chattr-wanted, stick-wanted, unstick-wanted, info-wanted, ban-wanted, unban-wanted}
use Rattle.eggprocs.proofs.LawLemmas.{whois-asks, bans-asks}

-- ---- lists of actions

-- a line if a test passes
line-if : (is_so : Change → Type 0) (test : Bool) (queue : Queue) (line : List ℕ) → EachAsk is_so (if test then put queue line ∷ [] else [])
line-if is_so true queue line = no-asks is_so (put queue line ∷ []) refl
line-if is_so false queue line = no-asks is_so [] refl

each-append : (is_so : Change → Type 0) (front back : List Action) → EachAsk is_so front → EachAsk is_so back → EachAsk is_so (front ++ back)
each-append is_so [] back first rest place change at = rest place change at
each-append is_so (action ∷ actions) back first rest zero change at = first zero change at
each-append is_so (action ∷ actions) back first rest (suc place) change at =
    each-append is_so actions back (λ k asked here. first (suc k) asked here) rest place change at

each-take : (is_so : Change → Type 0) (n : ℕ) (actions : List Action) → EachAsk is_so actions → EachAsk is_so (take n actions)
each-take is_so zero actions each place change at = no-asks is_so [] refl place change at
each-take is_so (suc n) [] each place change at = no-asks is_so [] refl place change at
each-take is_so (suc n) (action ∷ actions) each zero change at = each zero change at
each-take is_so (suc n) (action ∷ actions) each (suc place) change at =
    each-take is_so n actions (λ k asked here. each (suc k) asked here) place change at

each-flat : {X : Type 0} (is_so : Change → Type 0) (h : X → List Action) → ((x : X) → EachAsk is_so (h x)) → (xs : List X) → EachAsk is_so (flat_map h xs)
each-flat is_so h each [] = no-asks is_so [] refl
each-flat is_so h each (x ∷ xs) = each-append is_so (h x) (flat_map h xs) (each x) (each-flat is_so h each xs)

-- ---- in the caller's name

edits-known : IsForEdits IsNamedOrGivesNothing
edits-known call seen edit taken = inl refl

bans-known : AreForBans IsNamedOrGivesNothing
bans-known = record { adds = λ call seen may. inl refl; deletes = λ call seen may. inl refl }

-- ---- in nobody's name

user-known : (call : Call) (seen : Seen) (test : Bool) → EachAsk (IsNamedOrGivesNothing call seen) (if test then Ask (by_nobody (AddUser (last_of call.args))) ∷ [] else [])
user-known call seen true =
    each-ask (IsNamedOrGivesNothing call seen) (by_nobody (AddUser (last_of call.args))) [] (inr (refl, refl)) (no-asks (IsNamedOrGivesNothing call seen) [] refl)
user-known call seen false = no-asks (IsNamedOrGivesNothing call seen) [] refl

deletion-known : (call : Call) (seen : Seen) (ban : Ban) → EachAsk (IsNamedOrGivesNothing call seen) (Ask (by_nobody (DelBan ban.channel ban.mask)) ∷ [])
deletion-known call seen ban =
    each-ask (IsNamedOrGivesNothing call seen) (by_nobody (DelBan ban.channel ban.mask)) [] (inr (refl, refl)) (no-asks (IsNamedOrGivesNothing call seen) [] refl)

end-known : (call : Call) (seen : Seen) (ban : Ban) (ended lifts deletes : Bool)
    → EachAsk (IsNamedOrGivesNothing call seen) (if ended then option_to_list (lift_if lifts ban) ++ option_to_list (delete_if deletes ban) else [])
end-known call seen ban false lifts deletes = no-asks (IsNamedOrGivesNothing call seen) [] refl
end-known call seen ban true false false = no-asks (IsNamedOrGivesNothing call seen) [] refl
end-known call seen ban true true false = line-if (IsNamedOrGivesNothing call seen) true mode_queue (mode ban.channel (codes "-b") ban.mask)
end-known call seen ban true false true = deletion-known call seen ban
end-known call seen ban true true true =
    each-other (IsNamedOrGivesNothing call seen) (put mode_queue (mode ban.channel (codes "-b") ban.mask)) (Ask (by_nobody (DelBan ban.channel ban.mask)) ∷ []) refl
    (deletion-known call seen ban)

ends-known : (call : Call) (seen : Seen) (second : Option ℕ) → EachAsk (IsNamedOrGivesNothing call seen) (all_ends second seen)
ends-known call seen None = no-asks (IsNamedOrGivesNothing call seen) [] refl
ends-known call seen (Some second) =
    each-take (IsNamedOrGivesNothing call seen) MAX_ACTIONS (flat_map (ends_of second seen) seen.sight.records.bans)
    (each-flat (IsNamedOrGivesNothing call seen) (ends_of second seen)
    (λ ban. end-known call seen ban (has_ended second ban) (lifts_on ban.channel seen) (lifts_on ban.channel seen || is_left second ban)) seen.sight.records.bans)

-- ---- no change at all

echo-known : (is_so : Change → Type 0) (call : Call) (place : Option ℕ) → EachAsk is_so (asked_by_echo_at call place)
echo-known is_so call None = no-asks is_so [] refl
echo-known is_so call (Some place) = no-asks is_so (asked_by_echo_at call (Some place)) refl

newcomer-known : (is_so : Change → Type 0) (call : Call) (change : Option (List ℕ)) → EachAsk is_so (asked_for_newcomer call change)
newcomer-known is_so call None = no-asks is_so [] refl
newcomer-known is_so call (Some change) = no-asks is_so (asked_for_newcomer call (Some change)) refl

again-known : (is_so : Change → Type 0) (call : Call) (flags : Option PersonFlags) → EachAsk is_so (op_again call flags)
again-known is_so call None = no-asks is_so [] refl
again-known is_so call (Some flags) = line-if is_so (has_op flags) mode_queue (mode (channel_of call) (codes "+o") (mode_argument call))

undone-known : (is_so : Change → Type 0) (call : Call) (flags : Option PersonFlags) → EachAsk is_so (op_undone call flags)
undone-known is_so call None = no-asks is_so [] refl
undone-known is_so call (Some flags) =
    each-if is_so (has_op flags || has_bot flags) [] (mode_back (codes "-o") call) (no-asks is_so [] refl) (no-asks is_so (mode_back (codes "-o") call) refl)

mode-quiet : (call : Call) (member : Member) (change : Option (List ℕ)) (action : Action)
    → option_map (λ text. put mode_queue (mode (channel_of call) text member.nick)) change ≡ Some action → is_ask action ≡ false
mode-quiet call member None action is = cc
mode-quiet call member (Some text) action is = sym (ap ask_if is)

kick-quiet : (call : Call) (member : Member) (test : Bool) (action : Action)
    → (if test then Some (put mode_queue (kick (channel_of call) member.nick (codes "banned"))) else None) ≡ Some action → is_ask action ≡ false
kick-quiet call member false action is = cc
kick-quiet call member true action is = sym (ap ask_if is)

opall-known : (is_so : Change → Type 0) (call : Call) (seen : Seen) (joins gets : Bool) → EachAsk is_so
    (if joins then put Server (who (channel_of call)) ∷ []
    else if gets then take MAX_ACTIONS (filter_map (mode_for call seen) (members_in (channel_of call) seen.sight.channels))
    else [])
opall-known is_so call seen true gets = no-asks is_so (put Server (who (channel_of call)) ∷ []) refl
opall-known is_so call seen false false = no-asks is_so [] refl
opall-known is_so call seen false true =
    let modes : List Action = filter_map (mode_for call seen) (members_in (channel_of call) seen.sight.channels) in
    no-asks is_so (take MAX_ACTIONS modes) (take-quiet MAX_ACTIONS modes
    (given-quiet (mode_for call seen) (λ member action is. mode-quiet call member (change_of call seen member) action is) (members_in (channel_of call) seen.sight.channels)))

enforce-known : (is_so : Change → Type 0) (call : Call) (seen : Seen) (test : Bool) → EachAsk is_so
    (if test then take MAX_ACTIONS (filter_map (kick_for (mode_argument call) call seen) (members_in (channel_of call) seen.sight.channels)) else [])
enforce-known is_so call seen false = no-asks is_so [] refl
enforce-known is_so call seen true =
    let kicks : List Action = filter_map (kick_for (mode_argument call) call seen) (members_in (channel_of call) seen.sight.channels) in
    no-asks is_so (take MAX_ACTIONS kicks) (take-quiet MAX_ACTIONS kicks
    (given-quiet (kick_for (mode_argument call) call seen)
    (λ member action is. kick-quiet call member (is_hit (mode_argument call) seen member && not (is_spared call seen member)) action is)
    (members_in (channel_of call) seen.sight.channels)))

guard-known : (is_so : Change → Type 0) (call : Call) (test first : Bool) → EachAsk is_so (if test then (if first then mode_back (codes "-b") call else []) else [])
guard-known is_so call false first = no-asks is_so [] refl
guard-known is_so call true true = no-asks is_so (mode_back (codes "-b") call) refl
guard-known is_so call true false = no-asks is_so [] refl

-- a look, or the line in its place, and then such actions as request no change
look-known : (is_so : Change → Type 0) (reads : Bool) (line : List ℕ) (look : TimerWish) (rest : List Action) → list_any is_ask rest ≡ false
    → EachAsk is_so (or_at_once line (if reads then Some (Utimer look) else None) ∷ rest)
look-known is_so true line look rest quiet = no-asks is_so (Utimer look ∷ rest) quiet
look-known is_so false line look rest quiet = no-asks is_so (put mode_queue line ∷ rest) quiet

after-known : (is_so : Change → Type 0) (seconds : ℕ) (line address : List ℕ) (rest : List Action) → list_any is_ask rest ≡ false
    → EachAsk is_so (or_at_once line (look_after seconds line address) ∷ rest)
after-known is_so seconds line address rest quiet =
    look-known is_so (bytes_eq (after_word (look_text address line)) line) line
    (record { interval = seconds; count = 1; proc = codes "later"; text = look_text address line }) rest quiet

kept_off-known : (is_so : Change → Type 0) (call : Call) (seen : Seen) (ban : Option Ban) → EachAsk is_so (kept_off call seen ban)
kept_off-known is_so call seen None = no-asks is_so [] refl
kept_off-known is_so call seen (Some ban) = by (address_beside ban.mask call seen)
  where
    by : (address : Option (List ℕ)) → EachAsk is_so (or_at_once (ban_text call ban) (look_if 1 (ban_text call ban) address) ∷ kick_line call ban ∷ [])
    by None = no-asks is_so (ban_line call ban ∷ kick_line call ban ∷ []) refl
    by (Some address) = after-known is_so (1 * LOOK_SECONDS) (ban_text call ban) address (kick_line call ban ∷ []) refl

set_again-known : (is_so : Change → Type 0) (call : Call) (ban : Option Ban) → EachAsk is_so (set_again call ban)
set_again-known is_so call None = no-asks is_so [] refl
set_again-known is_so call (Some ban) = no-asks is_so (set_again call (Some ban)) refl

answered_to-known : (is_so : Change → Type 0) (nick : List ℕ) (answer : Option (List ℕ)) → EachAsk is_so (answered_to nick answer)
answered_to-known is_so nick None = no-asks is_so [] refl
answered_to-known is_so nick (Some answer) = no-asks is_so (answered_to nick (Some answer)) refl

answered-known : (is_so : Change → Type 0) (sender answer : Option (List ℕ)) → EachAsk is_so (answered sender answer)
answered-known is_so None answer = no-asks is_so [] refl
answered-known is_so (Some nick) answer = answered_to-known is_so nick answer

undoing-known : (is_so : Change → Type 0) (key : Bool) (call : Call) (change : Option (List ℕ)) → EachAsk is_so (undone key call change)
undoing-known is_so key call None = line-if is_so key mode_queue (mode (channel_of call) (codes "-k") (mode_argument call))
undoing-known is_so key call (Some change) = no-asks is_so (undone key call (Some change)) refl

cycled-known : (is_so : Change → Type 0) (leaver : Option (List ℕ)) (call : Call) (seen : Seen) → EachAsk is_so (cycled leaver call seen)
cycled-known is_so None call seen = no-asks is_so [] refl
cycled-known is_so (Some leaver) call seen =
    let cycle : List Action = put Server (part (channel_of call)) ∷ put Server (join (channel_of call)) ∷ [] in
    each-if is_so (is_made_again (channel_of call) && is_left_alone leaver call seen) cycle [] (no-asks is_so cycle refl) (no-asks is_so [] refl)

lifted-known : (is_so : Change → Type 0) (second : Option ℕ) (call : Call) (seen : Seen) → EachAsk is_so (lifted_at second call seen)
lifted-known is_so None call seen = no-asks is_so [] refl
lifted-known is_so (Some second) call seen =
    each-if is_so (is_sticky second call seen) [] (later_lift call ∷ []) (no-asks is_so [] refl) (no-asks is_so (later_lift call ∷ []) refl)

need-known : (is_so : Change → Type 0) (call : Call) (seen : Seen) (joins needs lacks : Bool) → EachAsk is_so
    (if joins then later_need (channel_of call) ∷ []
    else if needs then needs_op_on (channel_of call) seen ∷ []
    else if lacks then needs_op_on (timer_text call) seen ∷ []
    else [])
need-known is_so call seen true needs lacks = no-asks is_so (later_need (channel_of call) ∷ []) refl
need-known is_so call seen false true lacks = no-asks is_so (needs_op_on (channel_of call) seen ∷ []) refl
need-known is_so call seen false false true = no-asks is_so (needs_op_on (timer_text call) seen ∷ []) refl
need-known is_so call seen false false false = no-asks is_so [] refl

need-quiet : (seen : Seen) (channel : List ℕ) (lacks : Bool) (action : Action)
    → (if lacks then Some (needs_op_on channel seen) else None) ≡ Some action → is_ask action ≡ false
need-quiet seen channel false action is = cc
need-quiet seen channel true action is = sym (ap ask_if is)

all_needs-known : (is_so : Change → Type 0) (seen : Seen) → EachAsk is_so (all_needs seen)
all_needs-known is_so seen =
    let channels : List (List ℕ) = channels_with seen.sight.channels.nick seen.sight.channels in
    no-asks is_so (all_needs seen) (take-quiet MAX_ACTIONS (filter_map (need_on seen) channels)
    (given-quiet (need_on seen) (λ channel action is. need-quiet seen channel (lacks_op_on channel seen) action is) channels))

op_for-known : (is_so : Change → Type 0) (channel : List ℕ) (member : Option Member) (seen : Seen) → EachAsk is_so (op_for channel member seen)
op_for-known is_so channel None seen = no-asks is_so [] refl
op_for-known is_so channel (Some member) seen =
    each-if is_so (is_known_bot (flags_of_member (call_on channel) seen member)) (op_later channel member ∷ []) []
    (after-known is_so GIVE_SECONDS (mode channel (codes "+o") member.nick) (address_of member) [] refl) (no-asks is_so [] refl)

flood-quiet : (test : Bool) (line : List ℕ) (action : Action) → (if test then Some (put mode_queue line) else None) ≡ Some action → is_ask action ≡ false
flood-quiet false line action is = cc
flood-quiet true line action is = sym (ap ask_if is)

floods-quiet : (on call : Call) (seen : Seen) → list_any is_ask (flood_kicks on call seen) ≡ false
floods-quiet on call seen =
    let members : List Member = members_in (channel_of on) seen.sight.channels in
    take-quiet MAX_ACTIONS (filter_map (flood_kick on call seen) members)
    (given-quiet (flood_kick on call seen)
    (λ member action is. flood-quiet (is_flooder call member && not (is_spared on seen member)) (kick (channel_of on) member.nick (flood_reason call)) action is) members)

flood_lines-known : (is_so : Change → Type 0) (on call : Call) (seen : Seen) → EachAsk is_so (flood_lines on call seen)
flood_lines-known is_so on call seen =
    let kicks : List Action = flood_kicks on call seen in
    let all : List Action = take MAX_ACTIONS (flood_ban on call ∷ kicks) in
    each-if is_so (is_banned on call seen) all kicks
    (no-asks is_so all (take-quiet MAX_ACTIONS (flood_ban on call ∷ kicks) (floods-quiet on call seen)))
    (no-asks is_so kicks (floods-quiet on call seen))

flood_on-known : (is_so : Change → Type 0) (call : Call) (seen : Seen) (channel : List ℕ) → EachAsk is_so (flood_on channel call seen)
flood_on-known is_so call seen channel =
    let lines : List Action = flood_lines (call_on channel) call seen in
    each-if is_so (is_op_of channel seen) (share_out TurnsOp (call_on channel) seen lines) []
    (share-asks is_so TurnsOp (call_on channel) seen lines (flood_lines-known is_so (call_on channel) call seen)) (no-asks is_so [] refl)

floods-known : (is_so : Change → Type 0) (call : Call) (seen : Seen) → EachAsk is_so (flood_nowhere call seen)
floods-known is_so call seen =
    let channels : List (List ℕ) = channels_with seen.sight.channels.nick seen.sight.channels in
    each-if is_so (is_of_nicks call) (floods_all call seen) []
    (each-take is_so MAX_ACTIONS (flat_map (λ channel. flood_on channel call seen) channels)
    (each-flat is_so (λ channel. flood_on channel call seen) (flood_on-known is_so call seen) channels))
    (no-asks is_so [] refl)

-- ---- each proc

wanted-known : (w : ProcName) (call : Call) (seen : Seen) → EachAsk (IsNamedOrGivesNothing call seen) (wanted_by w call seen)
unfolding wanted_by
wanted-known which.Quiet call seen = no-asks (IsNamedOrGivesNothing call seen) [] refl
wanted-known which.Stop call seen = no-asks (IsNamedOrGivesNothing call seen) [] refl
wanted-known which.AddUser call seen = user-known call seen (is_command call.kind)
wanted-known which.Tick call seen = no-asks (IsNamedOrGivesNothing call seen) asked_by_tick refl
wanted-known which.Tell call seen = tell-known (is_command call.kind)
  where
    tell-known : (test : Bool) → EachAsk (IsNamedOrGivesNothing call seen) (if test then SendBot (record { to = 0; text = last_of call.args }) ∷ [] else [])
    tell-known true = no-asks (IsNamedOrGivesNothing call seen) (SendBot (record { to = 0; text = last_of call.args }) ∷ []) refl
    tell-known false = no-asks (IsNamedOrGivesNothing call seen) [] refl
wanted-known which.Echo call seen = echo-known (IsNamedOrGivesNothing call seen) call (place_of call.kind)
wanted-known which.Op call seen = line-if (IsNamedOrGivesNothing call seen) (is_from_op call seen) mode_queue (mode (channel_of call) (codes "+o") (target_of call))
wanted-known which.Deop call seen = line-if (IsNamedOrGivesNothing call seen) (is_from_op call seen) mode_queue (mode (channel_of call) (codes "-o") (target_of call))
wanted-known which.Voice call seen = line-if (IsNamedOrGivesNothing call seen) (is_from_voice call seen) mode_queue (mode (channel_of call) (codes "+v") (target_of call))
wanted-known which.Devoice call seen = line-if (IsNamedOrGivesNothing call seen) (is_from_voice call seen) mode_queue (mode (channel_of call) (codes "-v") (target_of call))
wanted-known which.AutoOp call seen =
    each-if (IsNamedOrGivesNothing call seen) (is_join call.kind && is_bot_op call seen) (asked_for_newcomer call (change_for (flags_by call seen))) []
    (newcomer-known (IsNamedOrGivesNothing call seen) call (change_for (flags_by call seen))) (no-asks (IsNamedOrGivesNothing call seen) [] refl)
wanted-known which.Kick call seen =
    line-if (IsNamedOrGivesNothing call seen) (is_from_op call seen && has_word (said_of call)) mode_queue
    (kick (channel_of call) (first_word (said_of call)) (or_else (after_word (said_of call)) (codes "request")))
wanted-known which.Topic call seen =
    line-if (IsNamedOrGivesNothing call seen) (is_from_op call seen && has_word (said_of call)) Server (topic (channel_of call) (said_of call))
wanted-known which.Invite call seen =
    line-if (IsNamedOrGivesNothing call seen) (is_from_op call seen && has_word (said_of call)) Server (invite (first_word (said_of call)) (channel_of call))
wanted-known which.Ban call seen = ban-wanted IsNamedOrGivesNothing bans-known call seen
wanted-known which.Unban call seen = unban-wanted IsNamedOrGivesNothing bans-known call seen
wanted-known which.Lift call seen =
    line-if (IsNamedOrGivesNothing call seen) (is_timer call.kind && (is_op_of (first_word (timer_text call)) seen && has_word (after_word (timer_text call))))
    mode_queue (mode (first_word (timer_text call)) (codes "-b") (first_word (after_word (timer_text call))))
wanted-known which.PlusUser call seen = plus_user-wanted IsNamedOrGivesNothing edits-known call seen
wanted-known which.MinusUser call seen = minus_user-wanted IsNamedOrGivesNothing edits-known call seen
wanted-known which.PlusHost call seen = plus_host-wanted IsNamedOrGivesNothing edits-known call seen
wanted-known which.MinusHost call seen = minus_host-wanted IsNamedOrGivesNothing edits-known call seen
wanted-known which.Chattr call seen = chattr-wanted IsNamedOrGivesNothing edits-known call seen
wanted-known which.Whois call seen = no-asks (IsNamedOrGivesNothing call seen) (wanted_by which.Whois call seen) (whois-asks call seen)
wanted-known which.Info call seen = info-wanted IsNamedOrGivesNothing edits-known call seen
wanted-known which.Greet call seen =
    line-if (IsNamedOrGivesNothing call seen) (is_join call.kind && not (length (info_by call seen) == 0)) Help
    (privmsg (channel_of call) (greeting (nick_of call) (info_by call seen)))
wanted-known which.Stick call seen = stick-wanted IsNamedOrGivesNothing edits-known call seen
wanted-known which.Unstick call seen = unstick-wanted IsNamedOrGivesNothing edits-known call seen
wanted-known which.Bans call seen = no-asks (IsNamedOrGivesNothing call seen) (wanted_by which.Bans call seen) (bans-asks call seen)
wanted-known which.Seen call seen =
    each-if (IsNamedOrGivesNothing call seen) (is_command call.kind) (told call (whereabouts call seen) ∷ []) []
    (no-asks (IsNamedOrGivesNothing call seen) (told call (whereabouts call seen) ∷ []) refl) (no-asks (IsNamedOrGivesNothing call seen) [] refl)
wanted-known which.OpAll call seen = opall-known (IsNamedOrGivesNothing call seen) call seen (is_own_join call seen) (gives_bot_op call seen)
wanted-known which.ProtectOps call seen =
    each-if (IsNamedOrGivesNothing call seen) (takes_op call seen) (op_again call (flags_named call seen)) []
    (again-known (IsNamedOrGivesNothing call seen) call (flags_named call seen)) (no-asks (IsNamedOrGivesNothing call seen) [] refl)
wanted-known which.Bitch call seen =
    each-if (IsNamedOrGivesNothing call seen) (gives_op call seen) (op_undone call (flags_named call seen)) []
    (undone-known (IsNamedOrGivesNothing call seen) call (flags_named call seen)) (no-asks (IsNamedOrGivesNothing call seen) [] refl)
wanted-known which.Guard call seen =
    guard-known (IsNamedOrGivesNothing call seen) call
    ((is_change_by_others (codes "+b") call seen && is_hostmask (mode_argument call))
    && list_any (hits_guarded (mode_argument call) call seen) (members_in (channel_of call) seen.sight.channels))
    (removes (mode_argument call) call seen)
wanted-known which.EnforceBans call seen =
    enforce-known (IsNamedOrGivesNothing call seen) call seen (is_change_here (codes "+b") call seen && is_hostmask (mode_argument call))
wanted-known which.Later call seen =
    line-if (IsNamedOrGivesNothing call seen) (may_look call seen && is_wanted (first_word (timer_text call)) (line_of call) seen) mode_queue (line_of call)
wanted-known which.Expire call seen =
    each-if (IsNamedOrGivesNothing call seen) (is_minute call.kind) (all_ends seen.second seen) [] (ends-known call seen seen.second)
    (no-asks (IsNamedOrGivesNothing call seen) [] refl)
wanted-known which.Ctcp call seen =
    each-if (IsNamedOrGivesNothing call seen) (is_request call seen) (answered (sender_of call) (answer_to (untagged (text_of call)) seen.second)) []
    (answered-known (IsNamedOrGivesNothing call seen) (sender_of call) (answer_to (untagged (text_of call)) seen.second))
    (no-asks (IsNamedOrGivesNothing call seen) [] refl)
wanted-known which.KeepModes call seen =
    each-if (IsNamedOrGivesNothing call seen) (is_change_by_untrusted (mode_change call) call seen)
    (undone (sets_key seen.sight.channels.support (mode_change call)) call (plain_reverse seen.sight.channels.support (mode_change call))) []
    (undoing-known (IsNamedOrGivesNothing call seen) (sets_key seen.sight.channels.support (mode_change call)) call
    (plain_reverse seen.sight.channels.support (mode_change call)))
    (no-asks (IsNamedOrGivesNothing call seen) [] refl)
wanted-known which.Cycle call seen = cycled-known (IsNamedOrGivesNothing call seen) (leaver_of call) call seen
wanted-known which.DynamicBans call seen =
    each-if (IsNamedOrGivesNothing call seen) (is_change_here (codes "+b") call seen && is_by_bot call seen) (lifted_at seen.second call seen) []
    (lifted-known (IsNamedOrGivesNothing call seen) seen.second call seen) (no-asks (IsNamedOrGivesNothing call seen) [] refl)
wanted-known which.NeedOp call seen =
    each-if (IsNamedOrGivesNothing call seen) (is_minute call.kind) (all_needs seen) (needs_now call seen) (all_needs-known (IsNamedOrGivesNothing call seen) seen)
    (need-known (IsNamedOrGivesNothing call seen) call seen (is_for_later call seen) (is_need call seen) (is_timer call.kind && lacks_op_on (timer_text call) seen))
wanted-known which.GiveOp call seen =
    each-if (IsNamedOrGivesNothing call seen) (may_give call seen)
    (op_for (needed_on call) (member_in (needed_on call) (needed_by call) seen.sight.channels) seen) []
    (op_for-known (IsNamedOrGivesNothing call seen) (needed_on call) (member_in (needed_on call) (needed_by call) seen.sight.channels) seen)
    (no-asks (IsNamedOrGivesNothing call seen) [] refl)
wanted-known which.KeepBans call seen =
    let again : List Action = set_again call (ban_back call seen) in
    each-if (IsNamedOrGivesNothing call seen) (is_join call.kind) (asked_for_join call seen) (asked_for_removal call seen)
    (each-if (IsNamedOrGivesNothing call seen) (is_newcomer call seen) (kept_off call seen (ban_on call seen)) []
    (kept_off-known (IsNamedOrGivesNothing call seen) call seen (ban_on call seen)) (no-asks (IsNamedOrGivesNothing call seen) [] refl))
    (each-if (IsNamedOrGivesNothing call seen) (is_change_by_others (codes "-b") call seen) (share_out FirstOp call seen again) []
    (share-asks (IsNamedOrGivesNothing call seen) FirstOp call seen again (set_again-known (IsNamedOrGivesNothing call seen) call (ban_back call seen)))
    (no-asks (IsNamedOrGivesNothing call seen) [] refl))
wanted-known which.KickFloods call seen =
    let here : List Action = flood_on (flood_place call) call seen in
    each-if (IsNamedOrGivesNothing call seen) (is_flood call) (if is_nowhere call then flood_nowhere call seen else here) []
    (each-if (IsNamedOrGivesNothing call seen) (is_nowhere call) (flood_nowhere call seen) here (floods-known (IsNamedOrGivesNothing call seen) call seen)
    (flood_on-known (IsNamedOrGivesNothing call seen) call seen (flood_place call)))
    (no-asks (IsNamedOrGivesNothing call seen) [] refl)
wanted-known which.NeedIn call seen =
    let text : List Action = needs_in (closed_channel call) seen ∷ [] in
    each-if (IsNamedOrGivesNothing call seen) (is_kept_out call) text [] (no-asks (IsNamedOrGivesNothing call seen) text refl)
    (no-asks (IsNamedOrGivesNothing call seen) [] refl)
wanted-known which.LetIn call seen =
    line-if (IsNamedOrGivesNothing call seen) (may_let_in call seen) Server (invite (needed_by call) (needed_on call))

-- whatever a proc of any name answers
pub all-asks : (name : List ℕ) → AsksOnly IsNamedOrGivesNothing name
unfolding actions_by
all-asks name call seen reply kept = subst (EachAsk (IsNamedOrGivesNothing call seen)) (sym kept.actions) (by (which_named name))
  where
    by : (named : Option ProcName) → EachAsk (IsNamedOrGivesNothing call seen) (actions_if named call seen)
    by None = no-asks (IsNamedOrGivesNothing call seen) [] refl
    by (Some w) = share-asks (IsNamedOrGivesNothing call seen) (duty_of w) call seen (wanted_by w call seen) (wanted-known w call seen)
