-- The bans that are ended, one after another, and that no other ban is.
use Rattle.std.proofs.Common.{◌≡◌, ◌∙◌, ◌<◌, ◌≤◌, ◌+◌, ◌*◌, ◌&&◌, ◌||◌, ◌==◌, ◌∷◌, ◌++◌, ℕ, List, [], length, take, get_or, slice_get, Bool, true, false, refl, sym, ap, arith, zero, suc, codes, if◌then◌else◌, Option, Some, None}
use Rattle.std.specs.Prelude.{nat_le}
use Rattle.std.specs.Str.{bytes_eq}
use Rattle.std.specs.List.{list_all, list_any, flat_map, cons_option}
use Rattle.std.specs.Option.{option_to_list}
use Rattle.std.proofs.lemmas.Bool.{and_from, or_right}
use Rattle.std.proofs.lemmas.Grind.{flat_map-append}
use Rattle.std.proofs.lemmas.List.{take_more, length-take, append_assoc, append-nil}
use Rattle.std.proofs.lemmas.List.Elements.{All-take}
use Rattle.std.proofs.lemmas.List.Folds.{list_all-append, list_any_more}
use Rattle.std.proofs.lemmas.List.Sums.{AllPass-from_list_all, list_all-from_AllPass}
use Rattle.std.proofs.lemmas.Option.{slice_get_within, get_or_from_slice_get, slice_get-get_or}
use Rattle.std.proofs.lemmas.Slice.Eq.{bytes_eq-Decides}
use Rattle.bytetext.specs.Words.{after_word}
use Rattle.userfile.specs.declared.ban.Ban.{Ban}
use Rattle.userfile.specs.Changes.{by_nobody}
use Rattle.userfile.specs.declared.edit.Edit.TheVariants.{DelBan}
use Rattle.userfile.specs.Apply.{new_ban}
use Rattle.userfile.specs.Shapes.{is_hostmask}
use Rattle.outqueue.specs.declared.queue.Queue.TheVariants.{Mode as mode_queue}
use Rattle.procs.specs.declared.action.Action.{Action}
use Rattle.procs.specs.declared.action.Action.TheVariants.{Ask, Timer, Utimer, KillTimer, SendBot, Put}
use Rattle.procs.specs.declared.call.Call.{Call}
use Rattle.procs.specs.declared.limits.TheConstants.{MAX_ACTIONS}
use Rattle.procs.specs.Seen.{Seen}
use Rattle.eggprocs.specs.declared.bans.TheConstants.{UTIMER_MINUTES}
use Rattle.eggprocs.specs.declared.looks.TheConstants.{LOOK_SECONDS}
use Rattle.eggprocs.specs.declared.proc_name.ProcName.TheVariants as which
use Rattle.eggprocs.specs.Args.{channel_of, said_of}
use Rattle.eggprocs.specs.Bans.{mask_of, minutes_in, ban_of, lift_wish, lift_of, and_then, mode_of, ask_of, delete_first}
use Rattle.eggprocs.specs.Channel.{put}
use Rattle.eggprocs.specs.Ends.{has_ended, has_ended_by, lifts_on, is_left, lift_if, delete_if, ends_of, holds_ended, is_ended_if, is_ended_of, is_minute, all_ends}
use Rattle.eggprocs.specs.Laws.{DoesOnly, deletes_no_lasting, is_end_of, is_end_of_ended}
use Rattle.eggprocs.specs.Lines.{mode}
use Rattle.eggprocs.specs.Procs.{wanted_by}
use Rattle.eggprocs.specs.Rights.{is_from_op}
use Rattle.eggprocs.specs.TurnLaws.{is_wait}
use Rattle.eggprocs.proofs.EveryoneLemmas.{put-room, take-grown}
use Rattle.eggprocs.proofs.LawLemmas.{alone-kept, shares-kept}
use Rattle.eggprocs.proofs.Lists.{all-of}
use Rattle.eggprocs.proofs.LookLemmas.{look-for-waits, look-is-wait}
use Rattle.eggprocs.proofs.TurnLemmas.{KeepsLooks}

-- ---- actions that are appended as long as there is room

-- one more action, if there is one
pub put-more : {Y : Type 0} (n : ℕ) (wanted before after : List Y) (given : Option Y) → before ≡ take n wanted
    → (length before < n → after ≡ before ++ option_to_list given) → (n ≤ length before → after ≡ before)
    → after ≡ take n (wanted ++ option_to_list given)
put-more n wanted before after given so_far room full =
    put-room n before after given few room full
    ∙ ap (λ ys. take n (ys ++ option_to_list given)) so_far
    ∙ take-grown n wanted (option_to_list given)
  where
    few : length before ≤ n
    few = omega (arith, ap length so_far, length-take n wanted)

-- two more
pub put-two : {Y : Type 0} (n : ℕ) (wanted before middle after : List Y) (one other : Option Y) → before ≡ take n wanted
    → (length before < n → middle ≡ before ++ option_to_list one) → (n ≤ length before → middle ≡ before)
    → (length middle < n → after ≡ middle ++ option_to_list other) → (n ≤ length middle → after ≡ middle)
    → after ≡ take n (wanted ++ (option_to_list one ++ option_to_list other))
put-two n wanted before middle after one other so_far room full more_room more_full =
    put-more n (wanted ++ option_to_list one) middle after other (put-more n wanted before middle one so_far room full) more_room more_full
    ∙ ap (take n) (append_assoc wanted (option_to_list one) (option_to_list other))

-- ---- one ban after another

-- one ban more
pub ends-more : (n : ℕ) (f : Ban → List Action) (bans : List Ban) (place : ℕ) (ban : Ban) → slice_get bans place ≡ Some ban
    → take n (flat_map f (take place bans) ++ f ban) ≡ take n (flat_map f (take (place + 1) bans))
ends-more n f bans place ban found =
    ap (take n)
    (ap (λ ys. flat_map f (take place bans) ++ ys) (sym (append-nil (f ban)))
    ∙ sym (flat_map-append f (take place bans) (ban ∷ []))
    ∙ ap (λ b. flat_map f (take place bans ++ b ∷ [])) (sym (get_or_from_slice_get bans place ban ban found))
    ∙ ap (flat_map f) (sym (take_more bans place ban (slice_get_within bans place ban found))))

-- what ends a ban that has ended
pub ends-are : (second : ℕ) (seen : Seen) (ban : Ban) (lifts deletes ended : Bool) (lift delete : Option Action) → ended ≡ has_ended second ban → ended ≡ true
    → lifts ≡ lifts_on ban.channel seen → deletes ≡ (lifts || is_left second ban) → lift ≡ lift_if lifts ban → delete ≡ delete_if deletes ban
    → option_to_list lift ++ option_to_list delete ≡ ends_of second seen ban
ends-are second seen ban lifts deletes ended lift delete ended_is true_is lifts_is deletes_is lift_is delete_is =
    ap (λ (l : Option Action). option_to_list l ++ option_to_list delete) lift_is
    ∙ ap (λ (d : Option Action). option_to_list (lift_if lifts ban) ++ option_to_list d) delete_is
    ∙ ap (λ (b : Bool). option_to_list (lift_if lifts ban) ++ option_to_list (delete_if b ban)) deletes_is
    ∙ ap both lifts_is
    ∙ sym (ap (λ (b : Bool). if b then both (lifts_on ban.channel seen) else []) (sym ended_is ∙ true_is))
  where
    both : Bool → List Action
    both b = option_to_list (lift_if b ban) ++ option_to_list (delete_if (b || is_left second ban) ban)

-- ---- each action ends a ban that has ended

-- each of what the elements give is of an element
pub all-flat : {X Y : Type 0} (h : X → List Y) (is_of : Y → X → Bool) → ((x : X) → list_all (λ y. is_of y x) (h x) ≡ true)
    → (xs : List X) → list_all (λ y. list_any (is_of y) xs) (flat_map h xs) ≡ true
all-flat h is_of each [] = refl
all-flat h is_of each (x ∷ xs) =
    list_all-append (λ y. list_any (is_of y) (x ∷ xs)) (h x) (flat_map h xs)
    ∙ and_from (list_all (λ y. list_any (is_of y) (x ∷ xs)) (h x)) (list_all (λ y. list_any (is_of y) (x ∷ xs)) (flat_map h xs))
    (all-of (λ y. is_of y x) (λ y. list_any (is_of y) (x ∷ xs)) (h x) (λ y is. ap (λ (b : Bool). b || list_any (is_of y) xs) is) (each x))
    (all-of (λ y. list_any (is_of y) xs) (λ y. list_any (is_of y) (x ∷ xs)) (flat_map h xs)
    (λ y among. or_right (is_of y x) (list_any (is_of y) xs) among) (all-flat h is_of each xs))

-- what ends a ban is its end, if it has ended
ends-right : (second : ℕ) (seen : Seen) → seen.second ≡ Some second → (ban : Ban)
    → list_all (λ action. is_end_of seen action ban) (ends_of second seen ban) ≡ true
ends-right second seen at ban =
    by (has_ended second ban) (ap (λ (o : Option ℕ). has_ended_by o ban) at) (lifts_on ban.channel seen) (lifts_on ban.channel seen || is_left second ban)
  where
    line : List ℕ
    line = mode ban.channel (codes "-b") ban.mask

    lifted : has_ended_by seen.second ban ≡ true → is_end_of seen (put mode_queue line) ban ≡ true
    lifted is = and_from (has_ended_by seen.second ban) (bytes_eq line line || false) is (ap (λ (b : Bool). b || false) ((bytes_eq-Decides line line).1 refl))

    deleted : has_ended_by seen.second ban ≡ true → is_end_of seen (Ask (by_nobody (DelBan ban.channel ban.mask))) ban ≡ true
    deleted is =
        and_from (has_ended_by seen.second ban) (bytes_eq ban.channel ban.channel && bytes_eq ban.mask ban.mask) is
        (and_from (bytes_eq ban.channel ban.channel) (bytes_eq ban.mask ban.mask) ((bytes_eq-Decides ban.channel ban.channel).1 refl)
        ((bytes_eq-Decides ban.mask ban.mask).1 refl))

    by : (ended : Bool) → has_ended_by seen.second ban ≡ ended → (lifts deletes : Bool)
        → list_all (λ action. is_end_of seen action ban) (if ended then option_to_list (lift_if lifts ban) ++ option_to_list (delete_if deletes ban) else []) ≡ true
    by false is lifts deletes = refl
    by true is false false = refl
    by true is true false = ap (λ (b : Bool). b && true) (lifted is)
    by true is false true = ap (λ (b : Bool). b && true) (deleted is)
    by true is true true =
        and_from (is_end_of seen (put mode_queue line) ban) (is_end_of seen (Ask (by_nobody (DelBan ban.channel ban.mask))) ban && true) (lifted is)
        (ap (λ (b : Bool). b && true) (deleted is))

pub expire-only : DoesOnly is_end_of_ended (codes "expire")
unfolding wanted_by
expire-only call seen reply kept =
    ap (list_all (is_end_of_ended call seen)) (alone-kept which.Expire call seen reply refl kept) ∙ by (is_minute call.kind) seen.second refl
  where
    by : (minute : Bool) (second : Option ℕ) → seen.second ≡ second
        → list_all (is_end_of_ended call seen) (if minute then all_ends second seen else []) ≡ true
    by false second is = refl
    by true None is = refl
    by true (Some second) is =
        let ends : List Action = flat_map (ends_of second seen) seen.sight.records.bans in
        list_all-from_AllPass (is_end_of_ended call seen) (take MAX_ACTIONS ends)
        (All-take (λ (action : Action). is_end_of_ended call seen action ≡ true) MAX_ACTIONS ends
        (AllPass-from_list_all (is_end_of_ended call seen) ends
        (all-flat (ends_of second seen) (is_end_of seen) (ends-right second seen is) seen.sight.records.bans)))

-- ---- `ban` deletes no ban that lasts

-- a wait deletes nothing
wait-right : (call : Call) (seen : Seen) (action : Action) → is_wait action ≡ true → deletes_no_lasting call seen action ≡ true
wait-right call seen (Utimer wish) is = refl
wait-right call seen (Ask change) is = cc
wait-right call seen (Timer wish) is = cc
wait-right call seen (KillTimer name) is = cc
wait-right call seen (SendBot wish) is = cc
wait-right call seen (Put wish) is = cc

looks-right : (call : Call) (seen : Seen) → KeepsLooks call seen (deletes_no_lasting call seen)
looks-right call seen turn action look is right =
    wait-right call seen look (look-is-wait (turn * LOOK_SECONDS) look (look-for-waits turn call seen action look is))

abbrev passes : Call → Seen → Option Action → Bool
passes call seen None = true
passes call seen (Some action) = deletes_no_lasting call seen action

lift-right : (call : Call) (seen : Seen) (minutes : Option ℕ) → passes call seen (lift_of call minutes) ≡ true
lift-right call seen None = refl
lift-right call seen (Some minutes) = by (minutes == 0) (nat_le minutes UTIMER_MINUTES)
  where
    by : (never small : Bool)
        → passes call seen (if never then None else Some (if small then Utimer (lift_wish call (minutes * 60)) else Timer (lift_wish call minutes))) ≡ true
    by true small = refl
    by false true = refl
    by false false = refl

ban-right : (call : Call) (seen : Seen) → list_all (deletes_no_lasting call seen) (wanted_by which.Ban call seen) ≡ true
unfolding wanted_by
ban-right call seen =
    let minutes : Option ℕ = minutes_in (after_word (said_of call)) in
    by (is_from_op call seen && is_hostmask (mask_of call)) (holds_ended (channel_of call) (mask_of call) seen) refl (lift_of call minutes)
    (lift-right call seen minutes)
  where
    by : (test held : Bool) → holds_ended (channel_of call) (mask_of call) seen ≡ held → (lift : Option Action) → passes call seen lift ≡ true
        → list_all (deletes_no_lasting call seen)
        (if test then cons_option (delete_first held call seen) (and_then (ask_of call seen (ban_of call seen)) (mode_of (codes "+b") call) lift) else []) ≡ true
    by false held is lift right = refl
    by true false is None right = refl
    by true false is (Some lift) right = ap (λ (b : Bool). b && true) right
    by true true is None right = ap (λ (b : Bool). b && true) is
    by true true is (Some lift) right =
        and_from (holds_ended (channel_of call) (mask_of call) seen) (deletes_no_lasting call seen lift && true) is (ap (λ (b : Bool). b && true) right)

pub ban-spares : DoesOnly deletes_no_lasting (codes "ban")
ban-spares call seen reply kept = shares-kept which.Ban call seen (deletes_no_lasting call seen) (looks-right call seen) (ban-right call seen) reply kept

-- ---- whether the records hold a ban that has ended

-- one place more
pub none-ended-more : (second : Option ℕ) (channel mask : List ℕ) (bans : List Ban) (place : ℕ) (ban : Ban) → place < length bans
    → list_any (is_ended_of second channel mask) (take place bans) ≡ false → is_ended_if second channel mask (slice_get bans place) ≡ false
    → list_any (is_ended_of second channel mask) (take (place + 1) bans) ≡ false
none-ended-more second channel mask bans place ban within none here =
    list_any_more (is_ended_of second channel mask) bans place ban within
    ∙ ap (λ (b : Bool). b || is_ended_of second channel mask (get_or bans place ban)) none
    ∙ sym (ap (is_ended_if second channel mask) (slice_get-get_or bans place ban within)) ∙ here

pub ended-found : (second : Option ℕ) (channel mask : List ℕ) (bans : List Ban) (place : ℕ)
    → is_ended_if second channel mask (slice_get bans place) ≡ true → list_any (is_ended_of second channel mask) bans ≡ true
ended-found second channel mask [] place here = cc
ended-found second channel mask (ban ∷ bans) zero here = ap (λ (b : Bool). b || list_any (is_ended_of second channel mask) bans) here
ended-found second channel mask (ban ∷ bans) (suc place) here =
    or_right (is_ended_of second channel mask ban) (list_any (is_ended_of second channel mask) bans) (ended-found second channel mask bans place here)

-- the same of what a step has looked up
pub none-ended-at : (second shown : Option ℕ) (channel mask : List ℕ) (bans : List Ban) (place : ℕ) (result : Bool) → place < length bans
    → list_any (is_ended_of second channel mask) (take place bans) ≡ false → shown ≡ second
    → result ≡ is_ended_if shown channel mask (slice_get bans place) → result ≡ false
    → list_any (is_ended_of second channel mask) (take (place + 1) bans) ≡ false
none-ended-at second shown channel mask bans place result within none same is false_is =
    none-ended-more second channel mask bans place (new_ban [] [] [] 0 []) within none
    (ap (λ (s : Option ℕ). is_ended_if s channel mask (slice_get bans place)) (sym same) ∙ sym is ∙ false_is)

pub ended-at : (second shown : Option ℕ) (channel mask : List ℕ) (bans held : List Ban) (place : ℕ) (result : Bool) → held ≡ bans → shown ≡ second
    → result ≡ is_ended_if shown channel mask (slice_get held place) → result ≡ true
    → true ≡ list_any (is_ended_of second channel mask) bans
ended-at second shown channel mask bans held place result at same is true_is =
    sym (ended-found second channel mask bans place
    (ap (λ (xs : List Ban). is_ended_if second channel mask (slice_get xs place)) (sym at)
    ∙ ap (λ (s : Option ℕ). is_ended_if s channel mask (slice_get held place)) (sym same)
    ∙ sym is ∙ true_is))
