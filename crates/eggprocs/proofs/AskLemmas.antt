-- Each change that a proc requests: in whose name it is, and whether the caller has the right to it.
use Rattle.std.proofs.Common.{◌≡◌, ◌∙◌, ◌||◌, ◌&&◌, ◌==◌, ◌*◌, ◌∷◌, not, ℕ, zero, suc, List, [], length, take, Bool, true, false, refl, ap, sym, subst, codes, if◌then◌else◌, Option, Some, None}
use Rattle.std.specs.Prelude.{nat_le}
use Rattle.std.specs.List.{list_any, filter_map, cons_option}
use Rattle.std.proofs.lemmas.Bool.{and_parts, or_parts, or_from}
use Rattle.bytetext.specs.Words.{after_word}
use Rattle.flagexpr.specs.Letters.{has_letter}
use Rattle.loosemask.specs.declared.looseness.Looseness.{Looseness}
use Rattle.loosemask.specs.Loose.{looseness_of}
use Rattle.userfile.specs.Apply.{refusal}
use Rattle.userfile.specs.Held.{has_user}
use Rattle.userfile.specs.Rights.{operates, is_op}
use Rattle.userfile.specs.Shapes.{is_hostmask}
use Rattle.userfile.specs.declared.change.Change.{Change}
use Rattle.userfile.specs.declared.edit.Edit.{Edit}
use Rattle.userfile.specs.declared.error.ChangeFault.{ChangeFault}
use Rattle.userfile.specs.declared.flags.PersonFlags.{PersonFlags}
use Rattle.chanstate.specs.Views.{mapping_of}
use Rattle.userfile.specs.Persons.{user_for}
use Rattle.eggprocs.specs.Ends.{holds_ended}
use Rattle.procs.specs.declared.action.Action.{Action}
use Rattle.procs.specs.declared.action.Action.TheVariants.{Ask, Timer, Utimer, KillTimer, SendBot, Put}
use Rattle.procs.specs.declared.call.Call.{Call}
use Rattle.procs.specs.declared.limits.TheConstants.{MAX_ACTIONS}
use Rattle.procs.specs.Seen.{Seen}
use Rattle.eggprocs.specs.declared.bans.TheConstants.{UTIMER_MINUTES}
use Rattle.eggprocs.specs.declared.duties.Duty.{Duty}
use Rattle.eggprocs.specs.declared.looks.TheConstants.{LOOK_SECONDS}
use Rattle.eggprocs.specs.declared.orders.Order.{Order}
use Rattle.eggprocs.specs.declared.orders.Order.TheVariants as order
use Rattle.eggprocs.specs.declared.rights.Requester.{Requester}
use Rattle.eggprocs.specs.declared.rights.Requester.TheVariants.{Elsewhere, Stranger, Master}
use Rattle.eggprocs.specs.declared.rights.TheConstants.{OP, MASTER, OWNER}
use Rattle.eggprocs.specs.declared.proc_name.ProcName.{ProcName}
use Rattle.eggprocs.specs.declared.proc_name.ProcName.TheVariants as which
use Rattle.eggprocs.specs.Args.{handle_of, channel_of, said_of, told_of, or_else}
use Rattle.eggprocs.specs.Askers.{caller_claim, in_callers_name}
use Rattle.eggprocs.specs.Bans.{mask_of, minutes_in, ban_of, deletion, delete_first, ask_of, lift_wish, lift_of, and_then, mode_of}
use Rattle.eggprocs.specs.Infos.{info_by, set_by, asked_by_known}
use Rattle.eggprocs.specs.Laws.{is_ask, EachAsk, AsksOnly, IsInCallersName, IsTaken, IsAllowed, KnowsCaller}
use Rattle.eggprocs.specs.Looks.{look_for}
use Rattle.eggprocs.specs.Orders.{usage_of, wish_of, asked_by_order}
use Rattle.eggprocs.specs.Outcomes.{mask_added, refusal_text}
use Rattle.eggprocs.specs.People.{told, warned, for_masters, asked_unless, asked_for, asked_by_command}
use Rattle.eggprocs.specs.Procs.{name_of, duty_of, wanted_by}
use Rattle.eggprocs.specs.Rights.{has_op, flags_by, is_bot_op, is_from_op, is_msg, is_pub, standing_of}
use Rattle.eggprocs.specs.TurnLaws.{is_wait}
use Rattle.eggprocs.specs.Turns.{turn_of, has_look, share_out}
use Rattle.eggprocs.proofs.LawLemmas.{actions-kept}
use Rattle.eggprocs.proofs.LookLemmas.{look-for-waits, look-is-wait}

-- ---- the requests among some actions

-- whether there is an action that requests a change
abbrev pub ask_if : Option Action → Bool
ask_if None = false
ask_if (Some action) = is_ask action

-- the change that an action requests, if it requests one, is so
abbrev of_ask : (Change → Type 0) → Option Action → Type 0
of_ask is_so None = Unit {0}
of_ask is_so (Some (Ask change)) = is_so change
of_ask is_so (Some (Timer wish)) = Unit {0}
of_ask is_so (Some (Utimer wish)) = Unit {0}
of_ask is_so (Some (KillTimer name)) = Unit {0}
of_ask is_so (Some (SendBot wish)) = Unit {0}
of_ask is_so (Some (Put wish)) = Unit {0}

pub no-asks : (is_so : Change → Type 0) (actions : List Action) → list_any is_ask actions ≡ false → EachAsk is_so actions
no-asks is_so [] none place change at = cc
no-asks is_so (action ∷ actions) none zero change at =
    let bad : true ≡ false = sym (ap ask_if at) ∙ (or_parts (is_ask action) (list_any is_ask actions) none).0 in cc
no-asks is_so (action ∷ actions) none (suc place) change at =
    no-asks is_so actions (or_parts (is_ask action) (list_any is_ask actions) none).1 place change at

pub each-ask : (is_so : Change → Type 0) (asked : Change) (actions : List Action) → is_so asked → EachAsk is_so actions → EachAsk is_so (Ask asked ∷ actions)
each-ask is_so asked actions is rest zero change at = subst (of_ask is_so) at is
each-ask is_so asked actions is rest (suc place) change at = rest place change at

pub each-other : (is_so : Change → Type 0) (action : Action) (actions : List Action) → is_ask action ≡ false → EachAsk is_so actions → EachAsk is_so (action ∷ actions)
each-other is_so action actions other rest zero change at = let bad : true ≡ false = sym (ap ask_if at) ∙ other in cc
each-other is_so action actions other rest (suc place) change at = rest place change at

pub each-if : (is_so : Change → Type 0) (test : Bool) (these those : List Action) → EachAsk is_so these → EachAsk is_so those → EachAsk is_so (if test then these else those)
each-if is_so true these those so other = so
each-if is_so false these those so other = other

-- ---- what commands request

-- a warning requests nothing
warned-asks : (is_so : Change → Type 0) (call : Call) (loose : Option Looseness) → EachAsk is_so (warned call loose)
warned-asks is_so call None = no-asks is_so [] refl
warned-asks is_so call (Some looseness) = no-asks is_so (warned call (Some looseness)) refl

unless-asks : (is_so : Change → Type 0) (fault : Option ChangeFault) (call : Call) (change : Change) → (fault ≡ None → is_so change)
    → EachAsk is_so (asked_unless fault call change)
unless-asks is_so None call change is =
    each-ask is_so change (warned call (looseness_of (mask_added change.edit))) (is refl) (warned-asks is_so call (looseness_of (mask_added change.edit)))
unless-asks is_so (Some fault) call change is = no-asks is_so (told call (refusal_text fault) ∷ []) refl

-- an edit that the records take in the caller's name is so
abbrev pub IsForEdits : (Call → Seen → Change → Type 0) → Type 0
IsForEdits is_so =
    (call : Call) (seen : Seen) (edit : Edit) → refusal seen.sight.records (in_callers_name call seen edit) ≡ None
    → is_so call seen (in_callers_name call seen edit)

for-asks : (is_so : Call → Seen → Change → Type 0) → IsForEdits is_so → (call : Call) (seen : Seen) (edit : Edit)
    → EachAsk (is_so call seen) (asked_for call seen edit)
for-asks is_so fits call seen edit =
    unless-asks (is_so call seen) (refusal seen.sight.records (in_callers_name call seen edit)) call (in_callers_name call seen edit) (fits call seen edit)

command-asks : (is_so : Call → Seen → Change → Type 0) → IsForEdits is_so → (standing : Requester) (call : Call) (seen : Seen) (usage : List ℕ) (wish : Option Edit)
    → EachAsk (is_so call seen) (asked_by_command standing call seen usage wish)
command-asks is_so fits Elsewhere call seen usage wish = no-asks (is_so call seen) [] refl
command-asks is_so fits Stranger call seen usage wish = no-asks (is_so call seen) (told call for_masters ∷ []) refl
command-asks is_so fits Master call seen usage None = no-asks (is_so call seen) (told call usage ∷ []) refl
command-asks is_so fits Master call seen usage (Some edit) = for-asks is_so fits call seen edit

order-asks : (is_so : Call → Seen → Change → Type 0) → IsForEdits is_so → (which_order : Order) (call : Call) (seen : Seen)
    → EachAsk (is_so call seen) (asked_by_order which_order call seen)
order-asks is_so fits which_order call seen =
    command-asks is_so fits (standing_of call seen) call seen (usage_of which_order) (wish_of which_order (told_of call))

known-asks : (is_so : Call → Seen → Change → Type 0) → IsForEdits is_so → (call : Call) (seen : Seen) → EachAsk (is_so call seen) (asked_by_known call seen)
known-asks is_so fits call seen =
    each-if (is_so call seen) (length (told_of call) == 0) (told call (or_else (info_by call seen) (codes "you have no info line")) ∷ [])
    (asked_for call seen (set_by call)) (no-asks (is_so call seen) (told call (or_else (info_by call seen) (codes "you have no info line")) ∷ []) refl)
    (for-asks is_so fits call seen (set_by call))

pub info-wanted : (is_so : Call → Seen → Change → Type 0) → IsForEdits is_so → (call : Call) (seen : Seen) → EachAsk (is_so call seen) (wanted_by which.Info call seen)
unfolding wanted_by
info-wanted is_so fits call seen =
    let unknown : List Action = told call (codes "you are not known here") ∷ [] in
    let known : Bool = has_user (handle_of call) seen.sight.records.users in
    each-if (is_so call seen) (not (is_msg call.kind)) [] (if known then asked_by_known call seen else unknown)
    (no-asks (is_so call seen) [] refl)
    (each-if (is_so call seen) known (asked_by_known call seen) unknown (known-asks is_so fits call seen)
    (no-asks (is_so call seen) unknown refl))

pub plus_user-wanted : (is_so : Call → Seen → Change → Type 0) → IsForEdits is_so → (call : Call) (seen : Seen) → EachAsk (is_so call seen) (wanted_by which.PlusUser call seen)
unfolding wanted_by
plus_user-wanted is_so fits = order-asks is_so fits order.PlusUser

pub minus_user-wanted : (is_so : Call → Seen → Change → Type 0) → IsForEdits is_so → (call : Call) (seen : Seen) → EachAsk (is_so call seen) (wanted_by which.MinusUser call seen)
unfolding wanted_by
minus_user-wanted is_so fits = order-asks is_so fits order.MinusUser

pub plus_host-wanted : (is_so : Call → Seen → Change → Type 0) → IsForEdits is_so → (call : Call) (seen : Seen) → EachAsk (is_so call seen) (wanted_by which.PlusHost call seen)
unfolding wanted_by
plus_host-wanted is_so fits = order-asks is_so fits order.PlusHost

pub minus_host-wanted : (is_so : Call → Seen → Change → Type 0) → IsForEdits is_so → (call : Call) (seen : Seen) → EachAsk (is_so call seen) (wanted_by which.MinusHost call seen)
unfolding wanted_by
minus_host-wanted is_so fits = order-asks is_so fits order.MinusHost

pub chattr-wanted : (is_so : Call → Seen → Change → Type 0) → IsForEdits is_so → (call : Call) (seen : Seen) → EachAsk (is_so call seen) (wanted_by which.Chattr call seen)
unfolding wanted_by
chattr-wanted is_so fits = order-asks is_so fits order.Chattr

pub stick-wanted : (is_so : Call → Seen → Change → Type 0) → IsForEdits is_so → (call : Call) (seen : Seen) → EachAsk (is_so call seen) (wanted_by which.Stick call seen)
unfolding wanted_by
stick-wanted is_so fits = order-asks is_so fits order.Stick

pub unstick-wanted : (is_so : Call → Seen → Change → Type 0) → IsForEdits is_so → (call : Call) (seen : Seen) → EachAsk (is_so call seen) (wanted_by which.Unstick call seen)
unfolding wanted_by
unstick-wanted is_so fits = order-asks is_so fits order.Unstick

-- ---- what bans request

-- a ban, and its deletion, by a caller who is an operator are so
pub record AreForBans (is_so : Call → Seen → Change → Type 0) : Type 0 where
  pub adds : (call : Call) (seen : Seen) → is_from_op call seen ≡ true → is_so call seen (in_callers_name call seen (ban_of call seen))
  pub deletes : (call : Call) (seen : Seen) → is_from_op call seen ≡ true → is_so call seen (in_callers_name call seen (deletion call))

-- a later end of the ban on the channel requests no change
lift-quiet : (call : Call) (minutes : Option ℕ) → ask_if (lift_of call minutes) ≡ false
lift-quiet call None = refl
lift-quiet call (Some minutes) = by (minutes == 0) (nat_le minutes UTIMER_MINUTES)
  where
    by : (never small : Bool)
        → ask_if (if never then None else Some (if small then Utimer (lift_wish call (minutes * 60)) else Timer (lift_wish call minutes))) ≡ false
    by true small = refl
    by false true = refl
    by false false = refl

then-asks : (is_so : Change → Type 0) (asked : Change) (second : Action) (third : Option Action) → is_so asked → is_ask second ≡ false → ask_if third ≡ false
    → EachAsk is_so (and_then (Ask asked) second third)
then-asks is_so asked second None is other quiet =
    each-ask is_so asked (second ∷ []) is (each-other is_so second [] other (no-asks is_so [] refl))
then-asks is_so asked second (Some third) is other quiet =
    each-ask is_so asked (second ∷ third ∷ []) is (each-other is_so second (third ∷ []) other (each-other is_so third [] quiet (no-asks is_so [] refl)))

pub ban-wanted : (is_so : Call → Seen → Change → Type 0) → AreForBans is_so → (call : Call) (seen : Seen) → EachAsk (is_so call seen) (wanted_by which.Ban call seen)
unfolding wanted_by
ban-wanted is_so fits call seen =
    by (is_from_op call seen) (is_hostmask (mask_of call)) refl (holds_ended (channel_of call) (mask_of call) seen)
    (lift_of call (minutes_in (after_word (said_of call)))) (lift-quiet call (minutes_in (after_word (said_of call))))
  where
    by : (may good : Bool) → is_from_op call seen ≡ may → (held : Bool) (lift : Option Action) → ask_if lift ≡ false
        → EachAsk (is_so call seen)
        (if may && good then cons_option (delete_first held call seen) (and_then (ask_of call seen (ban_of call seen)) (mode_of (codes "+b") call) lift) else [])
    by false good is held lift quiet = no-asks (is_so call seen) [] refl
    by true false is held lift quiet = no-asks (is_so call seen) [] refl
    by true true is false lift quiet =
        then-asks (is_so call seen) (in_callers_name call seen (ban_of call seen)) (mode_of (codes "+b") call) lift (fits.adds call seen is) refl quiet
    by true true is true lift quiet =
        each-ask (is_so call seen) (in_callers_name call seen (deletion call)) (and_then (ask_of call seen (ban_of call seen)) (mode_of (codes "+b") call) lift)
        (fits.deletes call seen is)
        (then-asks (is_so call seen) (in_callers_name call seen (ban_of call seen)) (mode_of (codes "+b") call) lift (fits.adds call seen is) refl quiet)

pub unban-wanted : (is_so : Call → Seen → Change → Type 0) → AreForBans is_so → (call : Call) (seen : Seen) → EachAsk (is_so call seen) (wanted_by which.Unban call seen)
unfolding wanted_by
unban-wanted is_so fits call seen = by (is_from_op call seen) (is_hostmask (mask_of call)) refl
  where
    by : (may good : Bool) → is_from_op call seen ≡ may
        → EachAsk (is_so call seen) (if may && good then ask_of call seen (deletion call) ∷ mode_of (codes "-b") call ∷ [] else [])
    by false good is = no-asks (is_so call seen) [] refl
    by true false is = no-asks (is_so call seen) [] refl
    by true true is = then-asks (is_so call seen) (in_callers_name call seen (deletion call)) (mode_of (codes "-b") call) None (fits.deletes call seen is) refl refl

-- ---- what bots request by turns

-- a wait requests no change
wait-quiet : (action : Action) → is_wait action ≡ true → is_ask action ≡ false
wait-quiet (Ask change) is = cc
wait-quiet (Timer wish) is = refl
wait-quiet (Utimer wish) is = refl
wait-quiet (KillTimer name) is = refl
wait-quiet (SendBot wish) is = refl
wait-quiet (Put wish) is = refl

-- what elements give requests no change if nothing that is given does
pub given-quiet : {X : Type 0} (h : X → Option Action) → ((x : X) (action : Action) → h x ≡ Some action → is_ask action ≡ false) → (xs : List X)
    → list_any is_ask (filter_map h xs) ≡ false
given-quiet h quiet [] = refl
given-quiet {X} h quiet (x ∷ xs) = by (h x) (λ action is. quiet x action is) (given-quiet h quiet xs)
  where
    by : (given : Option Action) → ((action : Action) → given ≡ Some action → is_ask action ≡ false) → list_any is_ask (filter_map h xs) ≡ false
        → list_any is_ask (cons_option given (filter_map h xs)) ≡ false
    by None here rest = rest
    by (Some action) here rest = or_from (is_ask action) (list_any is_ask (filter_map h xs)) (here action refl) rest

pub take-quiet : (n : ℕ) (actions : List Action) → list_any is_ask actions ≡ false → list_any is_ask (take n actions) ≡ false
take-quiet zero actions quiet = refl
take-quiet (suc n) [] quiet = refl
take-quiet (suc n) (action ∷ actions) quiet =
    let parts = or_parts (is_ask action) (list_any is_ask actions) quiet in
    or_from (is_ask action) (list_any is_ask (take n actions)) parts.0 (take-quiet n actions parts.1)

-- a bot's share requests the same changes, or none
pub share-asks : (is_so : Change → Type 0) (duty : Duty) (call : Call) (seen : Seen) (wanted : List Action) → EachAsk is_so wanted
    → EachAsk is_so (share_out duty call seen wanted)
share-asks is_so duty call seen wanted so = by (turn_of duty call seen == 0) (has_look duty (turn_of duty call seen))
  where
    looks : List Action
    looks = filter_map (look_for (turn_of duty call seen) call seen) wanted

    looks-quiet : list_any is_ask looks ≡ false
    looks-quiet = given-quiet (look_for (turn_of duty call seen) call seen)
        (λ action look is. wait-quiet look (look-is-wait (turn_of duty call seen * LOOK_SECONDS) look (look-for-waits (turn_of duty call seen) call seen action look is))) wanted

    by : (first turns : Bool) → EachAsk is_so (if first then wanted else if turns then take MAX_ACTIONS looks else [])
    by true turns = so
    by false false = no-asks is_so [] refl
    by false true = no-asks is_so (take MAX_ACTIONS looks) (take-quiet MAX_ACTIONS looks looks-quiet)

-- what holds of each change that a proc would request alone holds of each that it requests
pub asks-only : (w : ProcName) (is_so : Call → Seen → Change → Type 0) → ((call : Call) (seen : Seen) → EachAsk (is_so call seen) (wanted_by w call seen))
    → AsksOnly is_so (name_of w)
asks-only w is_so so call seen reply kept =
    subst (EachAsk (is_so call seen)) (sym (actions-kept w call seen reply kept))
    (share-asks (is_so call seen) (duty_of w) call seen (wanted_by w call seen) (so call seen))

-- ---- names and rights

-- what is requested in the caller's name is so
pub edits-named : IsForEdits IsInCallersName
edits-named call seen edit taken = refl

pub bans-named : AreForBans IsInCallersName
bans-named = record { adds = λ call seen may. refl; deletes = λ call seen may. refl }

-- what the records take is taken
pub edits-taken : IsForEdits IsTaken
edits-taken call seen edit taken = taken

-- a caller whom the records know as an operator may ban
operates-op : (flags : PersonFlags) → (operates flags.global || operates flags.chan) ≡ has_op flags
operates-op flags =
    by (has_letter flags.global OP) (has_letter flags.global MASTER) (has_letter flags.global OWNER)
    (has_letter flags.chan OP) (has_letter flags.chan MASTER) (has_letter flags.chan OWNER)
  where
    by : (a b c d e f : Bool) → ((a || (b || c)) || (d || (e || f))) ≡ ((a || d) || ((b || e) || (c || f)))
    by true b c d e f = refl
    by false true c true e f = refl
    by false true c false e f = refl
    by false false true true e f = refl
    by false false true false true f = refl
    by false false true false false f = refl
    by false false false true e f = refl
    by false false false false true f = refl
    by false false false false false true = refl
    by false false false false false false = refl

op-allowed : (call : Call) (seen : Seen) → is_from_op call seen ≡ true → KnowsCaller call seen
    → is_op (channel_of call) (user_for (mapping_of seen.sight.channels) (caller_claim call seen) seen.sight.records.users) ≡ true
op-allowed call seen may knows =
    ap (is_op (channel_of call)) knows
    ∙ operates-op (flags_by call seen)
    ∙ (and_parts (is_bot_op call seen) (has_op (flags_by call seen)) (and_parts (is_pub call.kind) (is_bot_op call seen && has_op (flags_by call seen)) may).1).1

pub bans-allowed : AreForBans IsAllowed
bans-allowed = record { adds = λ call seen may knows. op-allowed call seen may knows; deletes = λ call seen may knows. op-allowed call seen may knows }
