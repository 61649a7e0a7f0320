-- Who is not heeded, and what is asked for then.
use Rattle.std.proofs.Common.{◌≡◌, ◌⊎◌, inl, inr, ◌∙◌, ◌&&◌, ◌||◌, ◌==◌, ◌∷◌, ◌++◌, not, ℕ, List, [], length, map, take, drop, Bool, true, false, refl, ap, sym, subst, codes, if◌then◌else◌, Option, Some, None}
use Rattle.std.specs.Prelude.{is_some}
use Rattle.std.proofs.lemmas.Slice.Eq.{bytes_eq-Decides}
use Rattle.std.specs.List.{list_all, list_any}
use Rattle.flagexpr.specs.Letters.{has_letter}
use Rattle.loosemask.specs.declared.looseness.Looseness.{Looseness}
use Rattle.loosemask.specs.Loose.{looseness_of}
use Rattle.userfile.specs.declared.edit.Edit.{Edit}
use Rattle.userfile.specs.declared.error.ChangeFault.{ChangeFault}
use Rattle.userfile.specs.declared.ban.Ban.{Ban}
use Rattle.userfile.specs.declared.user.User.{User}
use Rattle.userfile.specs.Apply.{refusal}
use Rattle.userfile.specs.Records.{Records}
use Rattle.userfile.specs.Held.{has_user, user_of}
use Rattle.userfile.specs.declared.flags.PersonFlags.{PersonFlags}
use Rattle.rfccase.specs.declared.casemappings.Casemapping.{Casemapping}
use Rattle.chanstate.specs.declared.event.IrcEvent.{IrcEvent}
use Rattle.chanstate.specs.declared.member.Member.{Member}
use Rattle.chanstate.specs.Views.{mapping_of}
use Rattle.procs.specs.declared.action.Action.{Action}
use Rattle.outqueue.specs.declared.queue.Queue.TheVariants.{Help}
use Rattle.procs.specs.declared.call.Call.{Call}
use Rattle.procs.specs.declared.limits.TheConstants.{MAX_ACTIONS}
use Rattle.procs.specs.declared.reply.ProcReply.{ProcReply}
use Rattle.procs.specs.Heard.{person_if, flags_on, who_of}
use Rattle.procs.specs.Identity.{handle_by}
use Rattle.procs.specs.Promises.{IsKept}
use Rattle.procs.specs.Seen.{Seen}
use Rattle.eggprocs.specs.declared.duties.Duty.{Duty}
use Rattle.eggprocs.specs.declared.duties.Duty.TheVariants.{Each, First}
use Rattle.eggprocs.specs.declared.rights.Requester.{Requester}
use Rattle.eggprocs.specs.declared.rights.TheConstants.{AUTO_OP, AUTO_VOICE, OP, VOICE, MASTER, OWNER}
use Rattle.eggprocs.specs.declared.proc_name.ProcName.{ProcName}
use Rattle.eggprocs.specs.declared.proc_name.ProcName.TheVariants as which
use Rattle.eggprocs.specs.Args.{nick_of, handle_of, channel_of, told_of, last_of, has_word, or_else}
use Rattle.eggprocs.specs.Askers.{in_callers_name}
use Rattle.eggprocs.specs.Basics.{is_command}
use Rattle.eggprocs.specs.Bans.{asked_by_ban, asked_by_unban}
use Rattle.eggprocs.specs.Channel.{put, asked_for_mode, asked_for_newcomer, change_for, asked_by_kick, asked_by_topic, asked_by_invite}
use Rattle.eggprocs.specs.Infos.{info_by, set_by, asked_by_known, greeting}
use Rattle.eggprocs.specs.Laws.{has_one_of, op_letters, DoesNothing, AsksNoChange, is_ask, is_own, IsOnlyWithInfo, KeepsChannelsApart}
use Rattle.eggprocs.specs.Laws.{AsksAbout, IsEventBy, person_behind, user_behind, Answers, NamesWhomBindsKnow, LeavesStrangers, TellsOnlyMasters}
use Rattle.eggprocs.specs.Lines.{privmsg}
use Rattle.eggprocs.specs.Marks.{stick, unstick, left_out, told_ban, told_bans, asked_by_bans}
use Rattle.eggprocs.specs.Outcomes.{mask_added}
use Rattle.eggprocs.specs.People.{told, warned, asked_unless, asked_for, asked_by_command, plus_user, minus_user, plus_host, minus_host, chattr}
use Rattle.eggprocs.specs.People.{for_masters}
use Rattle.eggprocs.specs.Procs.{name_of, duty_of, wanted_by, actions_by, actions_if, ours}
use Rattle.eggprocs.specs.Rights.{has_flag, has_op, flags_by, is_bot_op, is_from_op, is_from_voice, is_join, is_pub, is_msg, global_by, is_master, standing_if, standing_of}
use Rattle.eggprocs.specs.Whereabouts.{sought, shared, known_text, whereabouts_if}
use Rattle.eggprocs.specs.Turns.{share_out}
use Rattle.eggprocs.specs.Whois.{asked_by_whois, has_host, account_by, is_by_account, handle_seen, member_shown, means_of, strange_account, recognized_if, identified, identified_if, described_if, name_asked}
use Rattle.eggprocs.proofs.Names.{which_named-name_of}
use Rattle.eggprocs.proofs.TurnLemmas.{KeepsLooks, share-none, share-only}

-- ---- tests

pub and-false : (a b : Bool) → b ≡ false → (a && b) ≡ false
and-false false b e = refl
and-false true b e = e

or-false : (a b : Bool) → a ≡ false → b ≡ false → (a || b) ≡ false
or-false a b e f = ap (λ (x : Bool). x || b) e ∙ f

-- nothing turns on a test of which both ways are the same
pub same-either : (b : Bool) (actions : List Action) → (if b then actions else actions) ≡ actions
same-either false actions = refl
same-either true actions = refl

-- ---- rights

-- the letters of operators are those that give their rights, and the letters of those whom bans spare likewise
pub has_one_of-ops : (flags : PersonFlags) → has_one_of op_letters flags ≡ has_op flags
has_one_of-ops flags = by (has_flag OP flags) (has_flag MASTER flags) (has_flag OWNER flags)
  where
    by : (op master owner : Bool) → (op || (master || (owner || false))) ≡ (op || (master || owner))
    by true master owner = refl
    by false true owner = refl
    by false false true = refl
    by false false false = refl

-- the same with one letter more
pub has_one_of-more : (letter : ℕ) (flags : PersonFlags) → has_one_of (OP ∷ MASTER ∷ OWNER ∷ letter ∷ []) flags ≡ (has_op flags || has_flag letter flags)
has_one_of-more letter flags = by (has_flag OP flags) (has_flag MASTER flags) (has_flag OWNER flags) (has_flag letter flags)
  where
    by : (op master owner more : Bool) → (op || (master || (owner || (more || false)))) ≡ ((op || (master || owner)) || more)
    by true master owner more = refl
    by false true owner more = refl
    by false false true more = refl
    by false false false true = refl
    by false false false false = refl

pub is_from_op-lacks : (call : Call) (seen : Seen) → has_op (flags_by call seen) ≡ false → is_from_op call seen ≡ false
is_from_op-lacks call seen lacks =
    and-false (is_pub call.kind) (is_bot_op call seen && has_op (flags_by call seen)) (and-false (is_bot_op call seen) (has_op (flags_by call seen)) lacks)

pub is_from_op-bot : (call : Call) (seen : Seen) → is_bot_op call seen ≡ false → is_from_op call seen ≡ false
is_from_op-bot call seen denied =
    and-false (is_pub call.kind) (is_bot_op call seen && has_op (flags_by call seen)) (ap (λ (x : Bool). x && has_op (flags_by call seen)) denied)

pub is_from_voice-lacks : (call : Call) (seen : Seen) → (has_op (flags_by call seen) || has_flag VOICE (flags_by call seen)) ≡ false
    → is_from_voice call seen ≡ false
is_from_voice-lacks call seen lacks =
    let either : Bool = has_op (flags_by call seen) || has_flag VOICE (flags_by call seen) in
    and-false (is_pub call.kind) (is_bot_op call seen && either) (and-false (is_bot_op call seen) either lacks)

pub is_from_voice-bot : (call : Call) (seen : Seen) → is_bot_op call seen ≡ false → is_from_voice call seen ≡ false
is_from_voice-bot call seen denied =
    let either : Bool = has_op (flags_by call seen) || has_flag VOICE (flags_by call seen) in
    and-false (is_pub call.kind) (is_bot_op call seen && either) (ap (λ (x : Bool). x && either) denied)

change_for-lacks : (op voice : Bool) → (op || (voice || false)) ≡ false
    → (if op then Some (codes "+o") else (if voice then Some (codes "+v") else None)) ≡ None
change_for-lacks true voice lacks = cc
change_for-lacks false true lacks = cc
change_for-lacks false false lacks = refl

pub is_master-lacks : (call : Call) (seen : Seen) → has_letter (global_by call seen) MASTER ≡ false → has_letter (global_by call seen) OWNER ≡ false
    → is_master call seen ≡ false
is_master-lacks call seen = or-false (has_letter (global_by call seen) MASTER) (has_letter (global_by call seen) OWNER)

-- ---- answers

-- a reply that keeps the promise of a proc's name asks for the share of what that proc wants
pub actions-kept : (w : ProcName) (call : Call) (seen : Seen) (reply : ProcReply) → IsKept ours (name_of w) call seen reply
    → reply.actions ≡ share_out (duty_of w) call seen (wanted_by w call seen)
unfolding actions_by
actions-kept w call seen reply kept = kept.actions ∙ ap (λ (named : Option ProcName). actions_if named call seen) (which_named-name_of w)

-- all of it, if each bot does it
pub alone-kept : (w : ProcName) (call : Call) (seen : Seen) (reply : ProcReply) → duty_of w ≡ Each → IsKept ours (name_of w) call seen reply
    → reply.actions ≡ wanted_by w call seen
alone-kept w call seen reply each kept =
    actions-kept w call seen reply kept ∙ ap (λ (duty : Duty). share_out duty call seen (wanted_by w call seen)) each

pub does-nothing : (w : ProcName) (call : Call) (seen : Seen) → wanted_by w call seen ≡ [] → DoesNothing (name_of w) call seen
does-nothing w call seen none = λ reply kept.
    actions-kept w call seen reply kept
    ∙ ap (share_out (duty_of w) call seen) none
    ∙ share-none (duty_of w) call seen

pub asks-no-change : (w : ProcName) (call : Call) (seen : Seen) → duty_of w ≡ Each → list_any is_ask (wanted_by w call seen) ≡ false
    → AsksNoChange (name_of w) call seen
asks-no-change w call seen each none = λ reply kept. ap (list_any is_ask) (alone-kept w call seen reply each kept) ∙ none

-- each action passes a test that each wish and its look pass
pub shares-kept : (w : ProcName) (call : Call) (seen : Seen) (is_right : Action → Bool) → KeepsLooks call seen is_right
    → list_all is_right (wanted_by w call seen) ≡ true
    → (reply : ProcReply) → IsKept ours (name_of w) call seen reply → list_all is_right reply.actions ≡ true
shares-kept w call seen is_right looks all = λ reply kept.
    ap (list_all is_right) (actions-kept w call seen reply kept)
    ∙ share-only is_right (duty_of w) call seen (wanted_by w call seen) looks all

-- ---- what a command asks for that is not heeded

pub op-refused : (call : Call) (seen : Seen) → is_from_op call seen ≡ false → wanted_by which.Op call seen ≡ []
unfolding wanted_by
op-refused call seen denied = ap (λ (may : Bool). asked_for_mode may (codes "+o") call) denied

pub deop-refused : (call : Call) (seen : Seen) → is_from_op call seen ≡ false → wanted_by which.Deop call seen ≡ []
unfolding wanted_by
deop-refused call seen denied = ap (λ (may : Bool). asked_for_mode may (codes "-o") call) denied

pub voice-refused : (call : Call) (seen : Seen) → is_from_voice call seen ≡ false → wanted_by which.Voice call seen ≡ []
unfolding wanted_by
voice-refused call seen denied = ap (λ (may : Bool). asked_for_mode may (codes "+v") call) denied

pub devoice-refused : (call : Call) (seen : Seen) → is_from_voice call seen ≡ false → wanted_by which.Devoice call seen ≡ []
unfolding wanted_by
devoice-refused call seen denied = ap (λ (may : Bool). asked_for_mode may (codes "-v") call) denied

pub kick-refused : (call : Call) (seen : Seen) → is_from_op call seen ≡ false → wanted_by which.Kick call seen ≡ []
unfolding wanted_by
kick-refused call seen denied = ap (λ (may : Bool). asked_by_kick may call) denied

pub topic-refused : (call : Call) (seen : Seen) → is_from_op call seen ≡ false → wanted_by which.Topic call seen ≡ []
unfolding wanted_by
topic-refused call seen denied = ap (λ (may : Bool). asked_by_topic may call) denied

pub invite-refused : (call : Call) (seen : Seen) → is_from_op call seen ≡ false → wanted_by which.Invite call seen ≡ []
unfolding wanted_by
invite-refused call seen denied = ap (λ (may : Bool). asked_by_invite may call) denied

pub ban-refused : (call : Call) (seen : Seen) → is_from_op call seen ≡ false → wanted_by which.Ban call seen ≡ []
unfolding wanted_by
ban-refused call seen denied = ap (λ (may : Bool). asked_by_ban may call seen) denied

pub unban-refused : (call : Call) (seen : Seen) → is_from_op call seen ≡ false → wanted_by which.Unban call seen ≡ []
unfolding wanted_by
unban-refused call seen denied = ap (λ (may : Bool). asked_by_unban may call seen) denied

pub autoop-lacks : (call : Call) (seen : Seen) → has_one_of (AUTO_OP ∷ AUTO_VOICE ∷ []) (flags_by call seen) ≡ false
    → wanted_by which.AutoOp call seen ≡ []
unfolding wanted_by
autoop-lacks call seen lacks =
    let may : Bool = is_join call.kind && is_bot_op call seen in
    ap (λ (change : Option (List ℕ)). if may then asked_for_newcomer call change else [])
    (change_for-lacks (has_flag AUTO_OP (flags_by call seen)) (has_flag AUTO_VOICE (flags_by call seen)) lacks)
    ∙ same-either may []

pub autoop-bot : (call : Call) (seen : Seen) → is_bot_op call seen ≡ false → wanted_by which.AutoOp call seen ≡ []
unfolding wanted_by
autoop-bot call seen denied =
    ap (λ (may : Bool). if may then asked_for_newcomer call (change_for (flags_by call seen)) else [])
    (and-false (is_join call.kind) (is_bot_op call seen) denied)

-- ---- commands of masters

-- what is said by who is no master brings no change
no-ask : (told : Bool) (call : Call) (seen : Seen) (usage : List ℕ) (wish : Option Edit)
    → list_any is_ask (asked_by_command (standing_if told false) call seen usage wish) ≡ false
no-ask false call seen usage wish = refl
no-ask true call seen usage wish = refl

stranger-asks : (call : Call) (seen : Seen) (usage : List ℕ) (wish : Option Edit) → is_master call seen ≡ false
    → list_any is_ask (asked_by_command (standing_of call seen) call seen usage wish) ≡ false
stranger-asks call seen usage wish denied =
    ap (λ (master : Bool). list_any is_ask (asked_by_command (standing_if (is_msg call.kind) master) call seen usage wish)) denied
    ∙ no-ask (is_msg call.kind) call seen usage wish

pub plus_user-asks : (call : Call) (seen : Seen) → is_master call seen ≡ false → list_any is_ask (wanted_by which.PlusUser call seen) ≡ false
unfolding wanted_by
plus_user-asks call seen = stranger-asks call seen (codes "use +user HANDLE") (plus_user (told_of call))

pub minus_user-asks : (call : Call) (seen : Seen) → is_master call seen ≡ false → list_any is_ask (wanted_by which.MinusUser call seen) ≡ false
unfolding wanted_by
minus_user-asks call seen = stranger-asks call seen (codes "use -user HANDLE") (minus_user (told_of call))

pub plus_host-asks : (call : Call) (seen : Seen) → is_master call seen ≡ false → list_any is_ask (wanted_by which.PlusHost call seen) ≡ false
unfolding wanted_by
plus_host-asks call seen = stranger-asks call seen (codes "use +host HANDLE MASK") (plus_host (told_of call))

pub minus_host-asks : (call : Call) (seen : Seen) → is_master call seen ≡ false → list_any is_ask (wanted_by which.MinusHost call seen) ≡ false
unfolding wanted_by
minus_host-asks call seen = stranger-asks call seen (codes "use -host HANDLE MASK") (minus_host (told_of call))

pub chattr-asks : (call : Call) (seen : Seen) → is_master call seen ≡ false → list_any is_ask (wanted_by which.Chattr call seen) ≡ false
unfolding wanted_by
chattr-asks call seen = stranger-asks call seen (codes "use chattr HANDLE FLAGS") (chattr (told_of call))

-- `whois` asks for no change for anyone
whois-no-ask : (told master : Bool) (call : Call) (seen : Seen) → list_any is_ask (asked_by_whois (standing_if told master) call seen) ≡ false
whois-no-ask false master call seen = refl
whois-no-ask true false call seen = refl
whois-no-ask true true call seen = refl

pub whois-asks : (call : Call) (seen : Seen) → list_any is_ask (wanted_by which.Whois call seen) ≡ false
unfolding wanted_by
whois-asks call seen = whois-no-ask (is_msg call.kind) (is_master call seen) call seen

-- who asks and is no master is told so
told-masters : (msg master : Bool) (call : Call) (seen : Seen) → master ≡ false
    → (asked_by_whois (standing_if msg master) call seen ≡ []) ⊎ (asked_by_whois (standing_if msg master) call seen ≡ told call for_masters ∷ [])
told-masters false master call seen denied = inl refl
told-masters true false call seen denied = inr refl
told-masters true true call seen denied = cc

pub whois-strangers : TellsOnlyMasters (codes "whois")
unfolding wanted_by
whois-strangers call seen master owner = λ reply kept.
    subst (λ (actions : List Action). (actions ≡ []) ⊎ (actions ≡ told call for_masters ∷ []))
    (sym (alone-kept which.Whois call seen reply refl kept))
    (told-masters (is_msg call.kind) (is_master call seen) call seen (is_master-lacks call seen master owner))

-- what a master is told about a member whose nick is no handle
whois-member : (call : Call) (seen : Seen) (member : Member) → AsksAbout call seen member → Answers (codes "whois") call seen (identified member seen)
unfolding wanted_by
whois-member call seen member about = λ reply kept.
    alone-kept which.Whois call seen reply refl kept
    ∙ ap (λ (standing : Requester). asked_by_whois standing call seen) about.master
    ∙ ap (λ (user : Option User). told call (described_if user (name_asked call) seen) ∷ []) about.no_handle
    ∙ ap (λ (there : Option Member). told call (identified_if there seen) ∷ []) about.there

-- binds find the handle that `whois` finds
handle-behind : (member : Member) (seen : Seen) (event : IrcEvent) → IsEventBy member seen event → (person_behind event seen).handle ≡ handle_seen member seen
handle-behind member seen event by =
    let mapping : Casemapping = mapping_of seen.sight.channels in
    let users : List User = seen.sight.records.users in
    ap (λ (personal : Bool). (person_if personal mapping users event).handle) by.personal
    ∙ ap (λ (account : List ℕ). handle_by mapping users account (who_of event.arguments)) by.account
    ∙ ap (handle_by mapping users (account_by member seen)) by.address

-- the answer, if something says who the member is
answers-if : (call : Call) (seen : Seen) (member : Member) (event : IrcEvent) (user : Option User) → AsksAbout call seen member
    → IsEventBy member seen event → (is_by_account member seen || has_host member) ≡ true → user_behind event seen ≡ user
    → Answers (codes "whois") call seen (recognized_if user member seen)
answers-if call seen member event user about by shows is = λ reply kept.
    let users : List User = seen.sight.records.users in
    let found : user_of (handle_seen member seen) users ≡ user = ap (λ (handle : List ℕ). user_of handle users) (sym (handle-behind member seen event by)) ∙ is in
    whois-member call seen member about reply kept
    ∙ ap (λ (t : Bool). told call (if t then recognized_if (user_of (handle_seen member seen) users) member seen
    else member.nick ++ codes " has no known host" ++ strange_account member seen) ∷ []) shows
    ∙ ap (λ (u : Option User). told call (recognized_if u member seen) ∷ []) found

pub whois-known : NamesWhomBindsKnow (codes "whois")
whois-known call seen member event user about by shows is = (
  ap (λ (personal : Bool). (person_if personal mapping users event).flags) by.personal
      ∙ ap (λ (handle : List ℕ). flags_on users handle event.channel) (sym here),
  λ reply kept. answers-if call seen member event (Some user) about by shows is reply kept
      ∙ ap (λ (handle : List ℕ). told call (member_shown member ++ codes " is " ++ handle ++ codes " by the " ++ means_of user member seen) ∷ [])
      (sym (handle-behind member seen event by)),
)
  where
    mapping : Casemapping
    mapping = mapping_of seen.sight.channels

    users : List User
    users = seen.sight.records.users

    here : (person_behind event seen).handle ≡ handle_by mapping users event.account (who_of event.arguments)
    here = ap (λ (personal : Bool). (person_if personal mapping users event).handle) by.personal

pub whois-stranger : LeavesStrangers (codes "whois")
whois-stranger call seen member event about by shows is = answers-if call seen member event None about by shows is

pub stick-asks : (call : Call) (seen : Seen) → is_master call seen ≡ false → list_any is_ask (wanted_by which.Stick call seen) ≡ false
unfolding wanted_by
stick-asks call seen = stranger-asks call seen (codes "use stick MASK CHANNEL") (stick (told_of call))

pub unstick-asks : (call : Call) (seen : Seen) → is_master call seen ≡ false → list_any is_ask (wanted_by which.Unstick call seen) ≡ false
unfolding wanted_by
unstick-asks call seen = stranger-asks call seen (codes "use unstick MASK CHANNEL") (unstick (told_of call))

-- nor does `bans`
lines-no-ask : (call : Call) (bans : List Ban) → list_any is_ask (map (told_ban call) bans) ≡ false
lines-no-ask call [] = refl
lines-no-ask call (ban ∷ bans) = lines-no-ask call bans

told_bans-no-ask : (call : Call) (bans : List Ban) → list_any is_ask (told_bans call bans) ≡ false
told_bans-no-ask call [] = refl
told_bans-no-ask call (ban ∷ bans) = lines-no-ask call (ban ∷ bans)

bans-no-ask : (told master : Bool) (call : Call) (seen : Seen) → list_any is_ask (asked_by_bans (standing_if told master) call seen) ≡ false
bans-no-ask false master call seen = refl
bans-no-ask true false call seen = refl
bans-no-ask true true call seen = told_bans-no-ask call (take MAX_ACTIONS (drop (left_out (told_of call)) seen.sight.records.bans))

pub bans-asks : (call : Call) (seen : Seen) → list_any is_ask (wanted_by which.Bans call seen) ≡ false
unfolding wanted_by
bans-asks call seen = bans-no-ask (is_msg call.kind) (is_master call seen) call seen

-- ---- info lines

-- a warning asks for nothing
own-warned : (call : Call) (loose : Option Looseness) → list_all (is_own call) (warned call loose) ≡ true
own-warned call None = refl
own-warned call (Some looseness) = refl

-- a change of who calls, or none where it is refused, is of who calls
own-unless : (fault : Option ChangeFault) (call : Call) (seen : Seen)
    → list_all (is_own call) (asked_unless fault call (in_callers_name call seen (set_by call))) ≡ true
own-unless None call seen =
    ap (λ (own : Bool). own && list_all (is_own call) (warned call (looseness_of (mask_added (set_by call)))))
    ((bytes_eq-Decides (handle_of call) (handle_of call)).1 refl)
    ∙ own-warned call (looseness_of (mask_added (set_by call)))
own-unless (Some fault) call seen = refl

own-known : (call : Call) (seen : Seen) (asks : Bool) → list_all (is_own call)
    (if asks then told call (or_else (info_by call seen) (codes "you have no info line")) ∷ [] else asked_for call seen (set_by call)) ≡ true
own-known call seen true = refl
own-known call seen false = own-unless (refusal seen.sight.records (in_callers_name call seen (set_by call))) call seen

own-info : (other known : Bool) (call : Call) (seen : Seen) → list_all (is_own call)
    (if other then [] else if known then asked_by_known call seen else told call (codes "you are not known here") ∷ []) ≡ true
own-info true known call seen = refl
own-info false true call seen = own-known call seen (length (told_of call) == 0)
own-info false false call seen = refl

pub info-own : (call : Call) (seen : Seen) (reply : ProcReply) → IsKept ours (codes "info") call seen reply → list_all (is_own call) reply.actions ≡ true
unfolding wanted_by
info-own call seen reply kept =
    ap (list_all (is_own call)) (alone-kept which.Info call seen reply refl kept)
    ∙ own-info (not (is_msg call.kind)) (has_user (handle_of call) seen.sight.records.users) call seen

-- who is not known is told so, and that is all
unknown-asks : (other : Bool) (user : Option User) (call : Call) (seen : Seen) → user ≡ None → list_any is_ask
    (if other then [] else if is_some user then asked_by_known call seen else told call (codes "you are not known here") ∷ []) ≡ false
unknown-asks true user call seen none = refl
unknown-asks false None call seen none = refl
unknown-asks false (Some user) call seen none = cc

pub info-unknown : (call : Call) (seen : Seen) → user_of (handle_of call) seen.sight.records.users ≡ None
    → list_any is_ask (wanted_by which.Info call seen) ≡ false
unfolding wanted_by
info-unknown call seen none =
    unknown-asks (not (is_msg call.kind)) (user_of (handle_of call) seen.sight.records.users) call seen none

-- nobody is greeted who has no info line
ungreeted : (joins : Bool) (call : Call) (info : List ℕ) → info ≡ []
    → (if joins && not (length info == 0) then put Help (privmsg (channel_of call) (greeting (nick_of call) info)) ∷ [] else []) ≡ []
ungreeted false call info none = refl
ungreeted true call [] none = refl
ungreeted true call (b ∷ bs) none = cc

pub greet-none : (call : Call) (seen : Seen) → info_by call seen ≡ [] → wanted_by which.Greet call seen ≡ []
unfolding wanted_by
greet-none call seen none = ungreeted (is_join call.kind) call (info_by call seen) none

pub greet-law : IsOnlyWithInfo (codes "greet")
greet-law call seen none = does-nothing which.Greet call seen (greet-none call seen none)

-- ---- where people are

-- what is said where nobody shares a channel
abbrev by_these : Call → Records → List Action
by_these call records =
    if is_command call.kind
    then told call (if has_word (last_of call.args) then sought call ++ known_text (has_user (sought call) records.users) else codes "use seen NICK") ∷ []
    else []

seen-apart : (call : Call) (seen : Seen) → shared call seen ≡ None → wanted_by which.Seen call seen ≡ by_these call seen.sight.records
unfolding wanted_by
seen-apart call seen none =
    ap (λ (channel : Option (List ℕ)). if is_command call.kind
    then told call (if has_word (last_of call.args) then whereabouts_if channel call seen else codes "use seen NICK") ∷ [] else []) none

pub seen-law : KeepsChannelsApart (codes "seen")
seen-law call one other same none-one none-other turn = λ a b kept-a kept-b.
    actions-kept which.Seen call one a kept-a
    ∙ ap (share_out First call one) (seen-apart call one none-one ∙ ap (by_these call) same ∙ sym (seen-apart call other none-other))
    ∙ ap (λ (at : ℕ). if at == 0 then wanted_by which.Seen call other else []) turn
    ∙ sym (actions-kept which.Seen call other b kept-b)
