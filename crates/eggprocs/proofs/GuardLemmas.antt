-- Which bot removes a ban by `guard`: exactly one.
use Rattle.std.proofs.Common.{◌≡◌, ◌∙◌, ◌<◌, ◌&&◌, ◌||◌, ◌∷◌, not, ℕ, List, [], Bool, true, false, cond, refl, ap, sym, arith, codes, if◌then◌else◌, Option, Some, None, ◌⊎◌, inl, inr, Ordering, Less, Equal, Greater}
use Rattle.std.specs.Prelude.{find, unwrap_or}
use Rattle.std.specs.List.{list_any}
use Rattle.std.specs.Cmp.Lexicographic.{slice_cmp, nat_list_cmp_total, nat_list_eq_equiv, texts_ties, bytes_decides}
use Rattle.std.specs.Ordering.{nat_cmp, is_lt, is_eq, ordering_reverse}
use Rattle.std.specs.Str.{bytes_eq}
use Rattle.std.proofs.lemmas.Bool.{and_from, and_parts}
use Rattle.std.proofs.lemmas.List.Sorted.{list_any-IsPermutation}
use Rattle.rfccase.specs.declared.casemappings.Casemapping.{Casemapping}
use Rattle.rfccase.specs.Casemapping.{folded_by, is_same_by, IsSameBy}
use Rattle.userfile.specs.Hostmasks.{is_match}
use Rattle.userfile.specs.Records.{Records}
use Rattle.userfile.specs.Shapes.{is_hostmask}
use Rattle.chanstate.specs.declared.member.Member.{Member}
use Rattle.chanstate.specs.Members.{is_called}
use Rattle.chanstate.specs.Views.{mapping_of, member_in, members_in}
use Rattle.procs.specs.declared.action.Action.{Action}
use Rattle.procs.specs.declared.call.Call.{Call}
use Rattle.procs.specs.declared.reply.ProcReply.{ProcReply}
use Rattle.procs.specs.Promises.{IsKept}
use Rattle.procs.specs.Seen.{Seen}
use Rattle.eggprocs.specs.declared.proc_name.ProcName.TheVariants as which
use Rattle.eggprocs.specs.Args.{nick_of, channel_of, mode_argument}
use Rattle.eggprocs.specs.Everyone.{address_of, flags_of_member}
use Rattle.eggprocs.specs.Guards.{is_guarded, hits_guarded, is_hit_hand, hits_hands, may_remove, may_remove_if, may_remove_itself, is_before, has_before, is_remover, removes, ban_undone}
use Rattle.eggprocs.specs.Hands.{is_hand, is_hand_if, is_hand_itself, comes_before, is_ahead, hands_ahead}
use Rattle.eggprocs.specs.Keeping.{is_change_here, is_by_bot, is_by_trusted, is_change_by_others, mode_back, is_hit, is_self}
use Rattle.eggprocs.specs.Procs.{wanted_by, ours}
use Rattle.eggprocs.specs.Rights.{is_protected}
use Rattle.eggprocs.specs.TurnLaws.{SeeTheSame, is_hit_if, hits_itself, OneRemoves, is_first_of_these, SomeoneRemoves, RemovesBansOnItself, LeavesBansToTheHit, LeavesOthersBansToTheFirst}
use Rattle.eggprocs.proofs.Firsts.{called-before, same-is, first-of}
use Rattle.eggprocs.proofs.LawLemmas.{alone-kept, does-nothing}
use Rattle.eggprocs.proofs.Lists.{any-more, none-counted, found-among}
use Rattle.eggprocs.proofs.RankLemmas.{hand-by, same-back, itself-among}

-- ---- who does nothing

-- `guard` does nothing if the bot does not remove the ban
silent : (call : Call) (seen : Seen) → removes (mode_argument call) call seen ≡ false → wanted_by which.Guard call seen ≡ []
unfolding wanted_by
silent call seen idle =
    let test : Bool = (is_change_by_others (codes "+b") call seen && is_hostmask (mode_argument call))
    && list_any (hits_guarded (mode_argument call) call seen) (members_in (channel_of call) seen.sight.channels) in
    ap (λ (b : Bool). if test then (if b then mode_back (codes "-b") call else []) else []) idle ∙ either test []
  where
    either : (b : Bool) (actions : List Action) → (if b then actions else actions) ≡ actions
    either true actions = refl
    either false actions = refl

-- what a hand removes is what the first of those removes that may
removes-hand : (mask : List ℕ) (call : Call) (seen : Seen) → is_hand_itself true call seen ≡ true
    → removes mask call seen ≡ is_remover (hits_hands mask call seen) mask call seen
removes-hand mask call seen hand = ap (λ (b : Bool). if b then is_remover (hits_hands mask call seen) mask call seen else true) hand

-- a bot that the ban does not hit is none of those that it hits
not-hit : (mask : List ℕ) (call : Call) (seen : Seen) → hits_itself mask call seen ≡ false → may_remove_itself true mask call seen ≡ false
not-hit mask call seen = by (member_in (channel_of call) seen.sight.channels.nick seen.sight.channels)
  where
    by : (own : Option Member) → is_hit_if mask seen own ≡ false → may_remove_if true mask call seen own ≡ false
    by None idle = refl
    by (Some member) idle = ap (λ (b : Bool). b && (is_hand true call seen member && not (is_same_by (mapping_of seen.sight.channels) (nick_of call) member.nick))) idle

pub guard-left-to-hit : LeavesBansToTheHit (codes "guard")
guard-left-to-hit call seen hand others hit =
    let mask : List ℕ = mode_argument call in
    does-nothing which.Guard call seen
    (silent call seen
    (removes-hand mask call seen hand
    ∙ ap (λ (b : Bool). is_remover b mask call seen) hit
    ∙ ap (λ (b : Bool). b && not (has_before true mask call seen seen.sight.channels.nick)) (not-hit mask call seen others)))

-- a hand of a rank above 0 has one before it
has-before : (mask : List ℕ) (call : Call) (seen : Seen) → 0 < hands_ahead true call seen seen.sight.channels.nick
    → has_before false mask call seen seen.sight.channels.nick ≡ true
has-before mask call seen above = by (list_any (is_ahead true call seen seen.sight.channels.nick) (members_in (channel_of call) seen.sight.channels)) refl
  where
    by : (some : Bool) → list_any (is_ahead true call seen seen.sight.channels.nick) (members_in (channel_of call) seen.sight.channels) ≡ some → some ≡ true
    by true is = refl
    by false none =
        let counted = none-counted (is_ahead true call seen seen.sight.channels.nick) (members_in (channel_of call) seen.sight.channels) none in
        absurd (omega (arith, above, counted))

pub guard-left-to-first : LeavesOthersBansToTheFirst (codes "guard")
guard-left-to-first call seen above others =
    does-nothing which.Guard call seen (silent call seen (by-hand (is_hand_itself true call seen) refl above))
  where
    mask : List ℕ
    mask = mode_argument call

    by-hits : (hits : Bool) → 0 < hands_ahead true call seen seen.sight.channels.nick → is_remover hits mask call seen ≡ false
    by-hits true ahead = ap (λ (b : Bool). b && not (has_before true mask call seen seen.sight.channels.nick)) (not-hit mask call seen others)
    by-hits false ahead = ap (λ (b : Bool). may_remove_itself false mask call seen && not b) (has-before mask call seen ahead) ∙ none (may_remove_itself false mask call seen)
      where
        none : (b : Bool) → (b && not true) ≡ false
        none true = refl
        none false = refl

    by-hand : (hand : Bool) → is_hand_itself true call seen ≡ hand → 0 < (if hand then hands_ahead true call seen seen.sight.channels.nick else 0)
        → removes mask call seen ≡ false
    by-hand true is ahead = removes-hand mask call seen is ∙ by-hits (hits_hands mask call seen) ahead
    by-hand false is ahead = absurd (omega (arith, ahead))

-- ---- one removes

-- what depends on the casemapping and the records alone is the same for two that see the same
alike : {X : Type 0} (f : Casemapping → Records → X) (call : Call) (one other : Seen) → SeeTheSame call one other
    → f (mapping_of one.sight.channels) one.sight.records ≡ f (mapping_of other.sight.channels) other.sight.records
alike f call one other same =
    ap (λ (records : Records). f (mapping_of one.sight.channels) records) same.records
    ∙ ap (λ (mapping : Casemapping). f mapping other.sight.records) same.mappings

-- the tests by the casemapping and the records
abbrev hit-by : List ℕ → Call → Casemapping → Records → Member → Bool
hit-by mask call mapping records member =
    is_match mapping mask (address_of member) && (hand-by true call mapping records member && not (is_same_by mapping (nick_of call) member.nick))

abbrev may-by : Bool → List ℕ → Call → Casemapping → Records → Member → Bool
may-by hits mask call mapping records member = if hits then hit-by mask call mapping records member else hand-by true call mapping records member

-- the ban hits the same
hits-same : (mask : List ℕ) (call : Call) (one other : Seen) → SeeTheSame call one other → hits_hands mask call one ≡ hits_hands mask call other
hits-same mask call one other same =
    alike (λ mapping records. list_any (hit-by mask call mapping records) (members_in (channel_of call) one.sight.channels)) call one other same
    ∙ list_any-IsPermutation (is_hit_hand mask call other) (members_in (channel_of call) one.sight.channels) (members_in (channel_of call) other.sight.channels) same.members

-- the bot itself is among those that may remove the ban
may-among : (hits : Bool) (mask : List ℕ) (call : Call) (seen : Seen) → may_remove_itself hits mask call seen ≡ true
    → list_any (λ member. is_called (mapping_of seen.sight.channels) seen.sight.channels.nick member && may_remove hits mask call seen member)
    (members_in (channel_of call) seen.sight.channels) ≡ true
may-among hits mask call seen itself = by (member_in (channel_of call) seen.sight.channels.nick seen.sight.channels) refl itself
  where
    by : (found : Option Member) → member_in (channel_of call) seen.sight.channels.nick seen.sight.channels ≡ found
        → may_remove_if hits mask call seen found ≡ true
        → list_any (λ member. is_called (mapping_of seen.sight.channels) seen.sight.channels.nick member && may_remove hits mask call seen member)
        (members_in (channel_of call) seen.sight.channels) ≡ true
    by None is may = cc
    by (Some member) is may =
        found-among (is_called (mapping_of seen.sight.channels) seen.sight.channels.nick) (may_remove hits mask call seen)
        (members_in (channel_of call) seen.sight.channels) member is may

-- another sees the one that may remove the ban and comes before it
seen-before : (hits : Bool) (mask : List ℕ) (call : Call) (one other : Seen) → SeeTheSame call one other → may_remove_itself hits mask call one ≡ true
    → comes_before (mapping_of one.sight.channels) one.sight.channels.nick other.sight.channels.nick ≡ true
    → has_before hits mask call other other.sight.channels.nick ≡ true
seen-before hits mask call one other same may before =
    sym (alike (λ mapping records. list_any (λ member. comes_before mapping member.nick other.sight.channels.nick && may-by hits mask call mapping records member)
    (members_in (channel_of call) one.sight.channels)) call one other same
    ∙ list_any-IsPermutation (is_before hits mask call other other.sight.channels.nick)
    (members_in (channel_of call) one.sight.channels) (members_in (channel_of call) other.sight.channels) same.members)
    ∙ any-more (λ member. is_called mapping one.sight.channels.nick member && may_remove hits mask call one member)
    (is_before hits mask call one other.sight.channels.nick) (members_in (channel_of call) one.sight.channels) passes (may-among hits mask call one may)
  where
    mapping : Casemapping
    mapping = mapping_of one.sight.channels

    passes : (member : Member) → (is_called mapping one.sight.channels.nick member && may_remove hits mask call one member) ≡ true
        → is_before hits mask call one other.sight.channels.nick member ≡ true
    passes member is =
        let parts = and_parts (is_called mapping one.sight.channels.nick member) (may_remove hits mask call one member) is in
        and_from (comes_before mapping member.nick other.sight.channels.nick) (may_remove hits mask call one member)
        (called-before mapping one.sight.channels.nick other.sight.channels.nick member parts.0 before) parts.1

-- so if one comes before the other, not both are first
not-both : (hits : Bool) (mask : List ℕ) (call : Call) (one other : Seen) → SeeTheSame call one other
    → is_remover hits mask call one ≡ true → is_remover hits mask call other ≡ true
    → comes_before (mapping_of one.sight.channels) one.sight.channels.nick other.sight.channels.nick ≡ true → ⊥
not-both hits mask call one other same first second before =
    let mine = (and_parts (may_remove_itself hits mask call one) (not (has_before hits mask call one one.sight.channels.nick)) first).0 in
    let none = (and_parts (may_remove_itself hits mask call other) (not (has_before hits mask call other other.sight.channels.nick)) second).1 in
    let there = seen-before hits mask call one other same mine before in
    let bad : false ≡ true = sym (ap not there) ∙ none in
    cc

both-are-one : (hits : Bool) (mask : List ℕ) (call : Call) (one other : Seen) → SeeTheSame call one other
    → is_remover hits mask call one ≡ true → is_remover hits mask call other ≡ true
    → IsSameBy (mapping_of one.sight.channels) one.sight.channels.nick other.sight.channels.nick
both-are-one hits mask call one other same first second = by (slice_cmp nat_cmp (lower one) (lower other)) refl
  where
    mapping : Casemapping
    mapping = mapping_of one.sight.channels

    lower : Seen → List ℕ
    lower seen = folded_by mapping seen.sight.channels.nick

    by : (o : Ordering) → slice_cmp nat_cmp (lower one) (lower other) ≡ o → IsSameBy mapping one.sight.channels.nick other.sight.channels.nick
    by Less is = absurd (not-both hits mask call one other same first second (ap is_lt is))
    by Equal is = (bytes_decides (lower one) (lower other)).0 (texts_ties (lower one) (lower other) ∙ ap is_eq is)
    by Greater is =
        let back = nat_list_cmp_total.antisymm (lower other) (lower one) ∙ ap ordering_reverse is in
        absurd (not-both hits mask call other one (same-back call one other same) second first
        (ap (λ (m : Casemapping). comes_before m other.sight.channels.nick one.sight.channels.nick) (sym same.mappings) ∙ ap is_lt back))

pub one-removes : OneRemoves (codes "guard")
one-removes call one other same mine theirs apart = λ a b kept-a kept-b.
    by a b (removes mask call one) (removes mask call other) refl refl kept-a kept-b
  where
    mask : List ℕ
    mask = mode_argument call

    by : (a b : ProcReply) (first second : Bool) → removes mask call one ≡ first → removes mask call other ≡ second
        → IsKept ours (codes "guard") call one a → IsKept ours (codes "guard") call other b → (a.actions ≡ []) ⊎ (b.actions ≡ [])
    by a b false second idle is kept-a kept-b = inl (does-nothing which.Guard call one (silent call one idle) a kept-a)
    by a b true false is idle kept-a kept-b = inr (does-nothing which.Guard call other (silent call other idle) b kept-b)
    by a b true true is is_too kept-a kept-b =
        elim (apart (both-are-one (hits_hands mask call one) mask call one other same (sym (removes-hand mask call one mine) ∙ is)
        (ap (λ (hits : Bool). is_remover hits mask call other) (hits-same mask call one other same) ∙ sym (removes-hand mask call other theirs) ∙ is_too))) [ ]

-- ---- some bot removes

pub someone-removes : SomeoneRemoves
someone-removes mask call seen itself =
    let first = first-of (mapping_of seen.sight.channels) (may_remove (hits_hands mask call seen) mask call seen) members (some (hits_hands mask call seen) refl) in
    first.any (is_first_of_these mask call seen)
    (and_from (may_remove (hits_hands mask call seen) mask call seen first.one) (not (has_before (hits_hands mask call seen) mask call seen first.one.nick))
    first.passes (ap not first.none))
  where
    members : List Member
    members = members_in (channel_of call) seen.sight.channels

    some : (hits : Bool) → hits_hands mask call seen ≡ hits → list_any (may_remove hits mask call seen) members ≡ true
    some true is = is
    some false is =
        any-more (λ member. is_called (mapping_of seen.sight.channels) seen.sight.channels.nick member && is_hand true call seen member)
        (is_hand true call seen) members
        (λ member both. (and_parts (is_called (mapping_of seen.sight.channels) seen.sight.channels.nick member) (is_hand true call seen member) both).1)
        (itself-among true call seen itself)

-- ---- a bot removes a ban that hits it

-- what is found passes the test
found-passes : {X : Type 0} (p : X → Bool) (xs : List X) (one : X) → find p xs ≡ Some one → p one ≡ true
found-passes p [] one is = cc
found-passes {X} p (x ∷ xs) one is = by (p x) refl (found-passes p xs one) is
  where
    by : (b : Bool) → p x ≡ b → (find p xs ≡ Some one → p one ≡ true) → cond b (Some x) (find p xs) ≡ Some one → p one ≡ true
    by true passes rest here = ap p (sym (ap (λ (o : Option X). unwrap_or o x) here)) ∙ passes
    by false passes rest here = rest here

guard-one : (call : Call) (seen : Seen) (own : Member) → member_in (channel_of call) seen.sight.channels.nick seen.sight.channels ≡ Some own
    → is_change_by_others (codes "+b") call seen ≡ true → is_hostmask (mode_argument call) ≡ true → is_hit (mode_argument call) seen own ≡ true
    → has_before true (mode_argument call) call seen seen.sight.channels.nick ≡ false → wanted_by which.Guard call seen ≡ mode_back (codes "-b") call
unfolding wanted_by
guard-one call seen own there change shape hit none =
    ap (λ (b : Bool). if b then ban_undone mask call seen else [])
    (and_from (is_change_by_others (codes "+b") call seen && is_hostmask mask) (list_any (hits_guarded mask call seen) members)
    (and_from (is_change_by_others (codes "+b") call seen) (is_hostmask mask) change shape)
    (any-more (λ member. is_called mapping nick member && is_hit mask seen member) (hits_guarded mask call seen) members guarded
    (found-among (is_called mapping nick) (is_hit mask seen) members own there hit)))
    ∙ ap (λ (b : Bool). if b then mode_back (codes "-b") call else []) (by-hand (is_hand_itself true call seen) refl)
  where
    mask : List ℕ
    mask = mode_argument call

    nick : List ℕ
    nick = seen.sight.channels.nick

    mapping : Casemapping
    mapping = mapping_of seen.sight.channels

    members : List Member
    members = members_in (channel_of call) seen.sight.channels

    self : (member : Member) → is_called mapping nick member ≡ true → is_self seen member ≡ true
    self member called = nat_list_eq_equiv.symm (folded_by mapping member.nick) (folded_by mapping nick) ∙ called

    guarded : (member : Member) → (is_called mapping nick member && is_hit mask seen member) ≡ true → hits_guarded mask call seen member ≡ true
    guarded member both =
        let parts = and_parts (is_called mapping nick member) (is_hit mask seen member) both in
        and_from (is_hit mask seen member) (is_guarded call seen member) parts.1
        (by (is_by_trusted call seen) (is_self seen member) (is_protected (flags_of_member call seen member)) (self member parts.0))
      where
        by : (trusted itself known : Bool) → itself ≡ true → (if trusted then itself else (itself || known)) ≡ true
        by true itself known is = is
        by false itself known is = ap (λ (b : Bool). b || known) is

    not-setter : not (is_same_by mapping (nick_of call) own.nick) ≡ true
    not-setter =
        ap (λ (text : List ℕ). not (bytes_eq (folded_by mapping (nick_of call)) text))
        (sym (same-is mapping nick own.nick (found-passes (is_called mapping nick) members own there)))
        ∙ (and_parts (is_change_here (codes "+b") call seen) (not (is_by_bot call seen)) change).1

    hit-hand : is_hand true call seen own ≡ true → is_hit_hand mask call seen own ≡ true
    hit-hand hand =
        and_from (is_hit mask seen own) (is_hand true call seen own && not (is_same_by mapping (nick_of call) own.nick)) hit
        (and_from (is_hand true call seen own) (not (is_same_by mapping (nick_of call) own.nick)) hand not-setter)

    some-hit : is_hand true call seen own ≡ true → hits_hands mask call seen ≡ true
    some-hit hand =
        any-more (λ member. is_called mapping nick member && is_hit_hand mask call seen member) (is_hit_hand mask call seen) members
        (λ member both. (and_parts (is_called mapping nick member) (is_hit_hand mask call seen member) both).1)
        (found-among (is_called mapping nick) (is_hit_hand mask call seen) members own there (hit-hand hand))

    by-hand : (hand : Bool) → is_hand_itself true call seen ≡ hand → removes mask call seen ≡ true
    by-hand false is = ap (λ (b : Bool). if b then is_remover (hits_hands mask call seen) mask call seen else true) is
    by-hand true is =
        let own-hand : is_hand true call seen own ≡ true = sym (ap (is_hand_if true call seen) there) ∙ is in
        removes-hand mask call seen is
        ∙ ap (λ (hits : Bool). is_remover hits mask call seen) (some-hit own-hand)
        ∙ and_from (may_remove_itself true mask call seen) (not (has_before true mask call seen nick))
        (ap (may_remove_if true mask call seen) there ∙ hit-hand own-hand) (ap not none)

pub removes-itself : RemovesBansOnItself (codes "guard")
removes-itself call seen change shape hit none reply kept =
    alone-kept which.Guard call seen reply refl kept ∙ by (member_in (channel_of call) seen.sight.channels.nick seen.sight.channels) refl hit
  where
    by : (own : Option Member) → member_in (channel_of call) seen.sight.channels.nick seen.sight.channels ≡ own → is_hit_if (mode_argument call) seen own ≡ true
        → wanted_by which.Guard call seen ≡ mode_back (codes "-b") call
    by None is idle = cc
    by (Some own) is hits = guard-one call seen own is change shape hits none
