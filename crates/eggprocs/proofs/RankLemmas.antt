-- The ranks of hands: two that see the same differ, one is first, and strangers count for nothing.
use Rattle.std.proofs.Common.{◌≡◌, ◌∙◌, ◌<◌, ◌&&◌, ◌||◌, ◌==◌, ◌∷◌, ◌++◌, not, ℕ, List, Bool, true, false, cond, refl, ap, sym, arith, if◌then◌else◌, Option, Some, None, Ordering, Less, Equal, Greater}
use Rattle.std.specs.Prelude.{find}
use Rattle.std.specs.List.{list_any, count_by}
use Rattle.std.specs.Cmp.Lexicographic.{slice_cmp, nat_list_cmp_total, nat_list_eq_equiv, texts_ties, bytes_decides}
use Rattle.std.specs.Ordering.{nat_cmp, is_lt, is_eq, ordering_reverse}
use Rattle.std.proofs.lemmas.Bool.{and_from, and_parts, and_right}
use Rattle.std.proofs.lemmas.List.Sorted.{sum_by-IsPermutation, IsPermutation-sym}
use Rattle.rfccase.specs.declared.casemappings.Casemapping.{Casemapping}
use Rattle.rfccase.specs.Casemapping.{folded_by, IsSameBy}
use Rattle.flagexpr.specs.Letters.{has_letter}
use Rattle.userfile.specs.Records.{Records}
use Rattle.userfile.specs.Persons.{flags_of}
use Rattle.procs.specs.Identity.{handle_by}
use Rattle.chanstate.specs.declared.member.Member.{Member}
use Rattle.chanstate.specs.Members.{is_called}
use Rattle.chanstate.specs.Views.{mapping_of, member_in, members_in}
use Rattle.procs.specs.declared.call.Call.{Call}
use Rattle.procs.specs.Seen.{Seen}
use Rattle.eggprocs.specs.declared.rights.TheConstants.{BOT}
use Rattle.eggprocs.specs.Args.{channel_of}
use Rattle.eggprocs.specs.Everyone.{address_of, flags_of_member}
use Rattle.eggprocs.specs.Hands.{is_hand, is_hand_if, is_hand_itself, comes_before, is_ahead, hands_ahead, rank}
use Rattle.eggprocs.specs.Keeping.{is_self}
use Rattle.eggprocs.specs.Rights.{has_bot}
use Rattle.eggprocs.specs.TurnLaws.{SeeTheSame, RanksRise, RanksDiffer, is_first_hand, SomeoneIsFirst, LoneIsFirst, UnknownIsFirst, StrangersCountNot}
use Rattle.eggprocs.proofs.Firsts.{not-before-itself, same-is, counts-apart, first-of}
use Rattle.eggprocs.proofs.Lists.{any-more, none-more, none-counted, count-without, find-without, found-among}

-- ---- records

-- whether a member is a hand, by the casemapping and the records
abbrev pub hand-by : Bool → Call → Casemapping → Records → Member → Bool
hand-by needs_op call mapping records member =
    (not needs_op || member.op) && has_letter
    (flags_of records.users (handle_by mapping records.users member.account (address_of member)) (channel_of call)).global BOT

-- whether a hand comes before a nick depends on the records and the casemapping alone
ahead-alike : (needs_op : Bool) (call : Call) (one other : Seen) (nick : List ℕ) (members : List Member) → one.sight.records ≡ other.sight.records
    → mapping_of one.sight.channels ≡ mapping_of other.sight.channels
    → count_by (is_ahead needs_op call one nick) members ≡ count_by (is_ahead needs_op call other nick) members
ahead-alike needs_op call one other nick members same mappings =
    ap (λ (records : Records). count_by (λ (member : Member).
    comes_before (mapping_of one.sight.channels) member.nick nick && hand-by needs_op call (mapping_of one.sight.channels) records member) members) same
    ∙ ap (λ (mapping : Casemapping). count_by (λ (member : Member).
    comes_before mapping member.nick nick && hand-by needs_op call mapping other.sight.records member) members) mappings

hand-alike : (needs_op : Bool) (call : Call) (one other : Seen) (member : Option Member) → one.sight.records ≡ other.sight.records
    → mapping_of one.sight.channels ≡ mapping_of other.sight.channels
    → is_hand_if needs_op call one member ≡ is_hand_if needs_op call other member
hand-alike needs_op call one other None same mappings = refl
hand-alike needs_op call one other (Some member) same mappings =
    ap (λ (records : Records). hand-by needs_op call (mapping_of one.sight.channels) records member) same
    ∙ ap (λ (mapping : Casemapping). hand-by needs_op call mapping other.sight.records member) mappings

-- the bot itself is among the hands
pub itself-among : (needs_op : Bool) (call : Call) (seen : Seen) → is_hand_itself needs_op call seen ≡ true
    → list_any (λ member. is_called (mapping_of seen.sight.channels) seen.sight.channels.nick member && is_hand needs_op call seen member)
    (members_in (channel_of call) seen.sight.channels) ≡ true
itself-among needs_op call seen itself = by (member_in (channel_of call) seen.sight.channels.nick seen.sight.channels) refl itself
  where
    by : (found : Option Member) → member_in (channel_of call) seen.sight.channels.nick seen.sight.channels ≡ found → is_hand_if needs_op call seen found ≡ true
        → list_any (λ member. is_called (mapping_of seen.sight.channels) seen.sight.channels.nick member && is_hand needs_op call seen member)
        (members_in (channel_of call) seen.sight.channels) ≡ true
    by None is hand = cc
    by (Some member) is hand =
        found-among (is_called (mapping_of seen.sight.channels) seen.sight.channels.nick) (is_hand needs_op call seen) (members_in (channel_of call) seen.sight.channels) member is hand

-- the rank of a hand
rank-itself : (needs_op : Bool) (call : Call) (seen : Seen) → is_hand_itself needs_op call seen ≡ true
    → rank needs_op call seen ≡ hands_ahead needs_op call seen seen.sight.channels.nick
rank-itself needs_op call seen itself = ap (λ (b : Bool). if b then hands_ahead needs_op call seen seen.sight.channels.nick else 0) itself

-- ---- ranks

-- fewer hands come before a hand than before a nick that it comes before
ranks-apart : (needs_op : Bool) (call : Call) (seen : Seen) (nick other : List ℕ) → comes_before (mapping_of seen.sight.channels) nick other ≡ true
    → list_any (λ member. is_called (mapping_of seen.sight.channels) nick member && is_hand needs_op call seen member) (members_in (channel_of call) seen.sight.channels) ≡ true
    → hands_ahead needs_op call seen nick < hands_ahead needs_op call seen other
ranks-apart needs_op call seen =
    counts-apart (mapping_of seen.sight.channels) (is_hand needs_op call seen) (members_in (channel_of call) seen.sight.channels)

-- the count is the same for another who sees the same
ahead-same : (needs_op : Bool) (call : Call) (one other : Seen) (nick : List ℕ) → SeeTheSame call one other
    → hands_ahead needs_op call other nick ≡ hands_ahead needs_op call one nick
ahead-same needs_op call one other nick same =
    ahead-alike needs_op call other one nick (members_in (channel_of call) other.sight.channels) (sym same.records) (sym same.mappings)
    ∙ sum_by-IsPermutation (λ member. cond (is_ahead needs_op call one nick member) 1 0)
    (members_in (channel_of call) one.sight.channels) (members_in (channel_of call) other.sight.channels) same.members

pub ranks-rise : (needs_op : Bool) → RanksRise needs_op
ranks-rise needs_op call one other same mine theirs before =
    let mine_is = rank-itself needs_op call one mine in
    let theirs_is = rank-itself needs_op call other theirs ∙ ahead-same needs_op call one other other.sight.channels.nick same in
    let less = ranks-apart needs_op call one one.sight.channels.nick other.sight.channels.nick before (itself-among needs_op call one mine) in
    omega (arith, mine_is, theirs_is, less)

pub same-back : (call : Call) (one other : Seen) → SeeTheSame call one other → SeeTheSame call other one
same-back call one other same = record {
  records = sym same.records;
  mappings = sym same.mappings;
  members = IsPermutation-sym (members_in (channel_of call) one.sight.channels) (members_in (channel_of call) other.sight.channels) same.members;
}

pub ranks-differ : (needs_op : Bool) → RanksDiffer needs_op
ranks-differ needs_op call one other same mine theirs equal =
    by (slice_cmp nat_cmp (lower one) (lower other)) refl
  where
    mapping : Casemapping
    mapping = mapping_of one.sight.channels

    lower : Seen → List ℕ
    lower seen = folded_by mapping seen.sight.channels.nick

    by : (o : Ordering) → slice_cmp nat_cmp (lower one) (lower other) ≡ o
        → IsSameBy mapping one.sight.channels.nick other.sight.channels.nick
    by Less is =
        let less = ranks-rise needs_op call one other same mine theirs (ap is_lt is) in
        absurd (omega (arith, less, equal))
    by Equal is = (bytes_decides (lower one) (lower other)).0 (texts_ties (lower one) (lower other) ∙ ap is_eq is)
    by Greater is =
        let back = nat_list_cmp_total.antisymm (lower other) (lower one) ∙ ap ordering_reverse is in
        let before = ap (λ (m : Casemapping). comes_before m other.sight.channels.nick one.sight.channels.nick) (sym same.mappings) ∙ ap is_lt back in
        let less = ranks-rise needs_op call other one (same-back call one other same) theirs mine before in
        absurd (omega (arith, less, equal))

-- ---- the first

pub someone-first : (needs_op : Bool) → SomeoneIsFirst needs_op
someone-first needs_op call seen itself =
    let mapping : Casemapping = mapping_of seen.sight.channels in
    let members : List Member = members_in (channel_of call) seen.sight.channels in
    let first = first-of mapping (is_hand needs_op call seen) members
    (any-more (λ member. is_called mapping seen.sight.channels.nick member && is_hand needs_op call seen member) (is_hand needs_op call seen) members
    (λ member is. (and_parts (is_called mapping seen.sight.channels.nick member) (is_hand needs_op call seen member) is).1) (itself-among needs_op call seen itself)) in
    first.any (is_first_hand needs_op call seen)
    (and_from (is_hand needs_op call seen first.one) (hands_ahead needs_op call seen first.one.nick == 0) first.passes
    (ap (λ (n : ℕ). n == 0) (none-counted (is_ahead needs_op call seen first.one.nick) members first.none)))

pub lone-first : (needs_op : Bool) → LoneIsFirst needs_op
lone-first needs_op call seen lone = by (is_hand_itself needs_op call seen)
  where
    members : List Member
    members = members_in (channel_of call) seen.sight.channels

    nick : List ℕ
    nick = seen.sight.channels.nick

    mapping : Casemapping
    mapping = mapping_of seen.sight.channels

    other : (member : Member) → is_ahead needs_op call seen nick member ≡ true → (not (is_self seen member) && is_hand needs_op call seen member) ≡ true
    other member ahead =
        let parts = and_parts (comes_before mapping member.nick nick) (is_hand needs_op call seen member) ahead in
        and_from (not (is_self seen member)) (is_hand needs_op call seen member) (another (is_self seen member) refl parts.0) parts.1
      where
        another : (self : Bool) → is_self seen member ≡ self → comes_before mapping member.nick nick ≡ true → not self ≡ true
        another false is before = refl
        another true is before = sym (not-before-itself mapping member.nick nick (same-is mapping member.nick nick is)) ∙ before

    by : (itself : Bool) → (if itself then hands_ahead needs_op call seen nick else 0) ≡ 0
    by false = refl
    by true = none-counted (is_ahead needs_op call seen nick) members
        (none-more (is_ahead needs_op call seen nick) (λ member. not (is_self seen member) && is_hand needs_op call seen member) members other lone)

pub unknown-first : (needs_op : Bool) → UnknownIsFirst needs_op
unknown-first needs_op call seen unknown = ap (λ (b : Bool). if b then hands_ahead needs_op call seen seen.sight.channels.nick else 0) unknown

-- ---- strangers

-- the rank by its parts
abbrev rank-by : Bool → Call → Seen → List ℕ → List Member → ℕ
rank-by needs_op call seen nick members =
    if is_hand_if needs_op call seen (find (is_called (mapping_of seen.sight.channels) nick) members) then count_by (is_ahead needs_op call seen nick) members else 0

rank-by-is : (needs_op : Bool) (call : Call) (seen : Seen)
    → rank needs_op call seen ≡ rank-by needs_op call seen seen.sight.channels.nick (members_in (channel_of call) seen.sight.channels)
rank-by-is needs_op call seen = refl

rank-by-alike : (needs_op : Bool) (call : Call) (one other : Seen) (nick : List ℕ) (members : List Member) → one.sight.records ≡ other.sight.records
    → mapping_of one.sight.channels ≡ mapping_of other.sight.channels
    → rank-by needs_op call one nick members ≡ rank-by needs_op call other nick members
rank-by-alike needs_op call one other nick members same mappings =
    let found : Casemapping → Option Member = λ mapping. find (is_called mapping nick) members in
    ap (λ (mapping : Casemapping). if is_hand_if needs_op call one (found mapping) then count_by (is_ahead needs_op call one nick) members else 0) mappings
    ∙ ap (λ (b : Bool). if b then count_by (is_ahead needs_op call one nick) members else 0)
    (hand-alike needs_op call one other (found (mapping_of other.sight.channels)) same mappings)
    ∙ ap (λ (n : ℕ). if is_hand_if needs_op call other (found (mapping_of other.sight.channels)) then n else 0)
    (ahead-alike needs_op call one other nick members same mappings)

rank-by-without : (needs_op : Bool) (call : Call) (seen : Seen) (nick : List ℕ) (before after : List Member) (stranger : Member)
    → is_called (mapping_of seen.sight.channels) nick stranger ≡ false → is_hand needs_op call seen stranger ≡ false
    → rank-by needs_op call seen nick (before ++ stranger ∷ after) ≡ rank-by needs_op call seen nick (before ++ after)
rank-by-without needs_op call seen nick before after stranger another no_hand =
    let called : Member → Bool = is_called (mapping_of seen.sight.channels) nick in
    ap (λ (found : Option Member). if is_hand_if needs_op call seen found then count_by (is_ahead needs_op call seen nick) (before ++ stranger ∷ after) else 0)
    (find-without called before after stranger another)
    ∙ ap (λ (n : ℕ). if is_hand_if needs_op call seen (find called (before ++ after)) then n else 0)
    (count-without (is_ahead needs_op call seen nick) before after stranger
    (and_right (comes_before (mapping_of seen.sight.channels) stranger.nick nick) (is_hand needs_op call seen stranger) no_hand))

pub strangers-none : (needs_op : Bool) → StrangersCountNot needs_op
strangers-none needs_op call without with_one before after stranger records mappings nicks are are_too another no_bot =
    let lower : List ℕ → List ℕ = folded_by (mapping_of with_one.sight.channels) in
    ap (rank-by needs_op call with_one with_one.sight.channels.nick) are_too
    ∙ rank-by-without needs_op call with_one with_one.sight.channels.nick before after stranger
    (nat_list_eq_equiv.symm (lower with_one.sight.channels.nick) (lower stranger.nick) ∙ another)
    (and_right (not needs_op || stranger.op) (has_bot (flags_of_member call with_one stranger)) no_bot)
    ∙ rank-by-alike needs_op call with_one without with_one.sight.channels.nick (before ++ after) (sym records) (sym mappings)
    ∙ ap (λ (nick : List ℕ). rank-by needs_op call without nick (before ++ after)) (sym nicks)
    ∙ ap (rank-by needs_op call without without.sight.channels.nick) (sym are)
