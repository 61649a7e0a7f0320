-- What bots do at their turns, and when a look does nothing.
use Rattle.std.proofs.Common.{◌≡◌, ◌∙◌, ◌<◌, ◌&&◌, ◌==◌, ◌*◌, ◌∷◌, not, ℕ, List, [], take, Bool, true, false, refl, ap, subst, arith, codes, if◌then◌else◌, Option, Some, None, ◌⊎◌, inl, inr, zero, suc, sym}
use Rattle.std.specs.List.{list_all, filter_map, cons_option}
use Rattle.std.specs.Prelude.{nat_le}
use Rattle.std.specs.Str.{bytes_eq}
use Rattle.std.proofs.lemmas.Bool.{and_from, and_right, and_left, and_parts}
use Rattle.std.proofs.lemmas.List.Elements.{All-take}
use Rattle.std.proofs.lemmas.List.Sums.{AllPass-from_list_all, list_all-from_AllPass}
use Rattle.std.proofs.lemmas.Slice.Eq.{bytes_eq-Decides}
use Rattle.bytetext.specs.Words.{first_word, after_word}
use Rattle.chanstate.specs.declared.member.Member.{Member}
use Rattle.chanstate.specs.Views.{member_in}
use Rattle.outqueue.specs.declared.queue.Queue.TheVariants.{Mode as mode_queue}
use Rattle.procs.specs.declared.action.Action.{Action}
use Rattle.procs.specs.declared.action.Action.TheVariants.{Ask, Timer, Utimer, KillTimer, SendBot, Put}
use Rattle.procs.specs.declared.call.Call.{Call}
use Rattle.procs.specs.declared.limits.TheConstants.{MAX_ACTIONS}
use Rattle.procs.specs.declared.reply.ProcReply.{ProcReply}
use Rattle.procs.specs.Promises.{IsKept}
use Rattle.procs.specs.Seen.{Seen}
use Rattle.eggprocs.specs.declared.duties.Duty.{Duty}
use Rattle.eggprocs.specs.declared.looks.TheConstants.{LOOK_SECONDS, MAX_TURN}
use Rattle.eggprocs.specs.declared.proc_name.ProcName.{ProcName}
use Rattle.eggprocs.specs.declared.proc_name.ProcName.TheVariants as which
use Rattle.eggprocs.specs.declared.effects.LineEffect.{LineEffect}
use Rattle.eggprocs.specs.declared.effects.LineEffect.TheVariants.{GiveOp, TakeOp, GiveVoice, TakeVoice, Ban, Kick, Other}
use Rattle.eggprocs.specs.Args.{timer_text}
use Rattle.eggprocs.specs.Channel.{put}
use Rattle.eggprocs.specs.Effects.{channel_in, target_in, effect_in, is_ban, is_done}
use Rattle.eggprocs.specs.Everyone.{address_of}
use Rattle.eggprocs.specs.Hands.{rank}
use Rattle.eggprocs.specs.Laws.{DoesOnly, DoesNothing, is_line}
use Rattle.eggprocs.specs.Looks.{look_text, look_if, address_now, look_for, line_of, is_wanted_of, is_here, is_wanted, may_look}
use Rattle.eggprocs.specs.Procs.{duty_of, wanted_by, ours, name_of}
use Rattle.eggprocs.specs.Rights.{is_timer, is_op_of}
use Rattle.eggprocs.specs.TurnLaws.{is_wait, OneActs, ActsAtOnce, is_look_after, OnlyLooks, LeavesItToTheFirst}
use Rattle.eggprocs.specs.TurnLaws.{WantsTheBanned, WantsSomebody, WantsTheSamePerson, WantsItUndone, WantsOp, is_own_line}
use Rattle.eggprocs.specs.Turns.{takes_turns, turn_of, has_look, by_turn, is_each, is_heard_by_all, needs_op}
use Rattle.eggprocs.proofs.RankLemmas.{ranks-differ}
use Rattle.eggprocs.proofs.LawLemmas.{actions-kept, alone-kept, does-nothing}
use Rattle.eggprocs.proofs.Lists.{all-of}

-- ---- turns

pub acts-at-once : (w : ProcName) → ActsAtOnce w
acts-at-once w call seen first = λ reply kept.
    actions-kept w call seen reply kept ∙ ap (λ (turn : ℕ). by_turn (duty_of w) turn call seen (wanted_by w call seen)) first

-- what is above 0 is not 0
not-first : (n : ℕ) → 0 < n → (n == 0) ≡ false
not-first n above = grind arith

abbrev look_after_if : ℕ → Option Action → Bool
look_after_if seconds None = true
look_after_if seconds (Some action) = is_look_after seconds action

look-waits : (turn : ℕ) (line : List ℕ) (address : Option (List ℕ)) (look : Action) → look_if turn line address ≡ Some look
    → is_look_after (turn * LOOK_SECONDS) look ≡ true
look-waits turn line None look is = cc
look-waits turn line (Some address) look is = by (bytes_eq (after_word (look_text address line)) line) is
  where
    by : (reads : Bool)
        → (if reads then Some (Utimer (record { interval = turn * LOOK_SECONDS; count = 1; proc = codes "later"; text = look_text address line })) else None) ≡ Some look
        → is_look_after (turn * LOOK_SECONDS) look ≡ true
    by true here = subst (λ (one : Option Action). look_after_if (turn * LOOK_SECONDS) one ≡ true) here (same (turn * LOOK_SECONDS))
      where
        same : (n : ℕ) → ((n == n) && ((1 == 1) && bytes_eq (codes "later") (codes "later"))) ≡ true
        same n = and_from (n == n) true (grind arith) refl
    by false here = cc

pub look-for-waits : (turn : ℕ) (call : Call) (seen : Seen) (action look : Action) → look_for turn call seen action ≡ Some look
    → is_look_after (turn * LOOK_SECONDS) look ≡ true
look-for-waits turn call seen (Put wish) look is = look-waits turn wish.line (address_now call seen (target_in wish.line)) look is
look-for-waits turn call seen (Ask change) look is = cc
look-for-waits turn call seen (Timer wish) look is = cc
look-for-waits turn call seen (Utimer wish) look is = cc
look-for-waits turn call seen (KillTimer name) look is = cc
look-for-waits turn call seen (SendBot wish) look is = cc

looks-wait : (turn : ℕ) (call : Call) (seen : Seen) (wanted : List Action)
    → list_all (is_look_after (turn * LOOK_SECONDS)) (filter_map (look_for turn call seen) wanted) ≡ true
looks-wait turn call seen [] = refl
looks-wait turn call seen (action ∷ actions) = by (look_for turn call seen action) (look-for-waits turn call seen action) (looks-wait turn call seen actions)
  where
    by : (given : Option Action) → ((look : Action) → given ≡ Some look → is_look_after (turn * LOOK_SECONDS) look ≡ true)
        → list_all (is_look_after (turn * LOOK_SECONDS)) (filter_map (look_for turn call seen) actions) ≡ true
        → list_all (is_look_after (turn * LOOK_SECONDS)) (cons_option given (filter_map (look_for turn call seen) actions)) ≡ true
    by None here rest = rest
    by (Some look) here rest =
        and_from (is_look_after (turn * LOOK_SECONDS) look) (list_all (is_look_after (turn * LOOK_SECONDS)) (filter_map (look_for turn call seen) actions))
        (here look refl) rest

-- at a later turn there are looks alone
pub later-turn : (duty : Duty) (turn : ℕ) (call : Call) (seen : Seen) (wanted : List Action) → 0 < turn
    → list_all (is_look_after (turn * LOOK_SECONDS)) (by_turn duty turn call seen wanted) ≡ true
later-turn duty turn call seen wanted above = by (turn == 0) (has_look duty turn) (not-first turn above)
  where
    looks : List Action
    looks = filter_map (look_for turn call seen) wanted

    by : (first turns : Bool) → first ≡ false
        → list_all (is_look_after (turn * LOOK_SECONDS)) (if first then wanted else if turns then take MAX_ACTIONS looks else []) ≡ true
    by true turns is = cc
    by false false is = refl
    by false true is = list_all-from_AllPass (is_look_after (turn * LOOK_SECONDS)) (take MAX_ACTIONS looks)
        (All-take (λ action. is_look_after (turn * LOOK_SECONDS) action ≡ true) MAX_ACTIONS looks
        (AllPass-from_list_all (is_look_after (turn * LOOK_SECONDS)) looks (looks-wait turn call seen wanted)))

pub only-looks : (w : ProcName) → OnlyLooks w
only-looks w call seen above = λ reply kept.
    ap (list_all (is_look_after (turn_of (duty_of w) call seen * LOOK_SECONDS))) (actions-kept w call seen reply kept)
    ∙ later-turn (duty_of w) (turn_of (duty_of w) call seen) call seen (wanted_by w call seen) above

-- a look is a wait, however long
pub look-is-wait : (seconds : ℕ) (action : Action) → is_look_after seconds action ≡ true → is_wait action ≡ true
look-is-wait seconds (Utimer wish) is =
    (and_parts (wish.count == 1) (bytes_eq wish.proc (codes "later")) (and_parts (wish.interval == seconds) ((wish.count == 1) && bytes_eq wish.proc (codes "later")) is).1).1
look-is-wait seconds (Ask change) is = cc
look-is-wait seconds (Timer wish) is = cc
look-is-wait seconds (KillTimer name) is = cc
look-is-wait seconds (SendBot wish) is = cc
look-is-wait seconds (Put wish) is = cc

waits-alone : (w : ProcName) (call : Call) (seen : Seen) (reply : ProcReply) → IsKept ours (name_of w) call seen reply
    → 0 < turn_of (duty_of w) call seen → list_all is_wait reply.actions ≡ true
waits-alone w call seen reply kept above =
    let seconds : ℕ = turn_of (duty_of w) call seen * LOOK_SECONDS in
    all-of (is_look_after seconds) is_wait reply.actions (look-is-wait seconds) (only-looks w call seen above reply kept)

-- the turn of a hand is its rank
turn-is-rank : (duty : Duty) (call : Call) (seen : Seen) → is_each duty ≡ false → is_heard_by_all call.kind ≡ true
    → turn_of duty call seen ≡ rank (needs_op duty) call seen
turn-is-rank duty call seen shared heard =
    ap (λ (each : Bool). if not each && is_heard_by_all call.kind then rank (needs_op duty) call seen else 0) shared
    ∙ ap (λ (all : Bool). if all then rank (needs_op duty) call seen else 0) heard

pub one-acts : (w : ProcName) → OneActs w
one-acts w call one other same shared heard mine theirs apart = λ a b kept-a kept-b.
    by (turn_of (duty_of w) call one) (turn_of (duty_of w) call other) a b refl refl (waits-alone w call one a kept-a) (waits-alone w call other b kept-b)
  where
    by : (n m : ℕ) (a b : ProcReply) → turn_of (duty_of w) call one ≡ n → turn_of (duty_of w) call other ≡ m
        → (0 < turn_of (duty_of w) call one → list_all is_wait a.actions ≡ true) → (0 < turn_of (duty_of w) call other → list_all is_wait b.actions ≡ true)
        → (list_all is_wait a.actions ≡ true) ⊎ (list_all is_wait b.actions ≡ true)
    by (suc n) m a b is is_too first second = inl (first (omega (arith, is)))
    by zero (suc m) a b is is_too first second = inr (second (omega (arith, is_too)))
    by zero zero a b is is_too first second = elim (apart (ranks-differ (needs_op (duty_of w)) call one other same mine theirs
        (sym (turn-is-rank (duty_of w) call one shared heard) ∙ is ∙ sym is_too ∙ turn-is-rank (duty_of w) call other shared heard))) [ ]

-- nothing is left of what the first does alone
pub silent : (duty : Duty) (turn : ℕ) (call : Call) (seen : Seen) (wanted : List Action) → takes_turns duty ≡ false → 0 < turn
    → by_turn duty turn call seen wanted ≡ []
silent duty turn call seen wanted alone above = by (turn == 0) (takes_turns duty) (nat_le turn MAX_TURN) (not-first turn above) alone
  where
    by : (first turns near : Bool) → first ≡ false → turns ≡ false
        → (if first then wanted else if turns && near then take MAX_ACTIONS (filter_map (look_for turn call seen) wanted) else []) ≡ []
    by true turns near is none = cc
    by false true near is none = cc
    by false false near is none = refl

pub left-to-first : (w : ProcName) → takes_turns (duty_of w) ≡ false → LeavesItToTheFirst w
left-to-first w alone call seen above = λ reply kept.
    actions-kept w call seen reply kept ∙ silent (duty_of w) (turn_of (duty_of w) call seen) call seen (wanted_by w call seen) alone above

-- ---- looks

later-none : (call : Call) (seen : Seen) → (may_look call seen && is_wanted (first_word (timer_text call)) (line_of call) seen) ≡ false
    → wanted_by which.Later call seen ≡ []
unfolding wanted_by
later-none call seen none = ap (λ (b : Bool). if b then put mode_queue (line_of call) ∷ [] else []) none

not-wanted : (call : Call) (seen : Seen) → is_wanted (first_word (timer_text call)) (line_of call) seen ≡ false → DoesNothing (codes "later") call seen
not-wanted call seen none =
    does-nothing which.Later call seen (later-none call seen
    (and_right (may_look call seen) (is_wanted (first_word (timer_text call)) (line_of call) seen) none))

pub wants-the-banned : WantsTheBanned (codes "later")
unfolding is_wanted
wants-the-banned call seen bans nobody =
    let line : List ℕ = line_of call in
    let address : List ℕ = first_word (timer_text call) in
    not-wanted call seen
    (ap (λ (b : Bool). if b then is_here address (channel_in line) seen
    else is_wanted_of address line (member_in (channel_in line) (target_in line) seen.sight.channels)) bans ∙ nobody)

-- a look that is for no ban is for the member of its nick
of-nick : (address line : List ℕ) (seen : Seen) → is_ban (effect_in line) ≡ false
    → is_wanted address line seen ≡ is_wanted_of address line (member_in (channel_in line) (target_in line) seen.sight.channels)
unfolding is_wanted
of-nick address line seen other =
    ap (λ (b : Bool). if b then is_here address (channel_in line) seen
    else is_wanted_of address line (member_in (channel_in line) (target_in line) seen.sight.channels)) other

pub wants-somebody : WantsSomebody (codes "later")
wants-somebody call seen other nobody =
    let address : List ℕ = first_word (timer_text call) in
    not-wanted call seen (of-nick address (line_of call) seen other ∙ ap (is_wanted_of address (line_of call)) nobody)

pub wants-the-same-person : WantsTheSamePerson (codes "later")
wants-the-same-person call seen member other is another =
    let address : List ℕ = first_word (timer_text call) in
    not-wanted call seen (of-nick address (line_of call) seen other
    ∙ ap (is_wanted_of address (line_of call)) is
    ∙ and_left (bytes_eq (address_of member) address) (not (is_done (effect_in (line_of call)) member)) another)

-- what a member shows is no ban
shows-no-ban : (effect : LineEffect) (member : Member) → is_done effect member ≡ true → is_ban effect ≡ false
shows-no-ban GiveOp member is = refl
shows-no-ban TakeOp member is = refl
shows-no-ban GiveVoice member is = refl
shows-no-ban TakeVoice member is = refl
shows-no-ban Ban member is = cc
shows-no-ban Kick member is = refl
shows-no-ban Other member is = refl

pub wants-it-undone : WantsItUndone (codes "later")
wants-it-undone call seen member is done =
    let address : List ℕ = first_word (timer_text call) in
    not-wanted call seen (of-nick address (line_of call) seen (shows-no-ban (effect_in (line_of call)) member done)
    ∙ ap (is_wanted_of address (line_of call)) is
    ∙ and_right (bytes_eq (address_of member) address) (not (is_done (effect_in (line_of call)) member)) (ap not done))

pub wants-op : WantsOp (codes "later")
wants-op call seen denied =
    does-nothing which.Later call seen (later-none call seen
    (and_left (may_look call seen) (is_wanted (first_word (timer_text call)) (line_of call) seen)
    (and_right (is_timer call.kind) (is_op_of (channel_in (line_of call)) seen) denied)))

one-line : (line : List ℕ) (test : Bool) → list_all (is_line line) (if test then put mode_queue line ∷ [] else []) ≡ true
one-line line false = refl
one-line line true = ap (λ (b : Bool). b && true) ((bytes_eq-Decides line line).1 refl)

pub own-line-only : DoesOnly is_own_line (codes "later")
unfolding wanted_by
own-line-only call seen reply kept =
    ap (list_all (is_line (line_of call))) (alone-kept which.Later call seen reply refl kept)
    ∙ one-line (line_of call) (may_look call seen && is_wanted (first_word (timer_text call)) (line_of call) seen)
