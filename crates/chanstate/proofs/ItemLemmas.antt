-- What one finds behind each item, and what stays true of the lists.
use Rattle.std.proofs.Common.{◌≡◌, ℕ, Bool, true, false, cond, ◌||◌, ◌&&◌, Option, Some, None, List, [], ◌∷◌, ◌++◌, refl, sym, ap, ◌∙◌}
use Rattle.std.specs.Prelude.{find, is_some}
use Rattle.std.specs.Option.{option_map}
use Rattle.std.proofs.lemmas.Bool.{cond-true, cond-false}
use Rattle.chanstate.specs.declared.member.Member.{Member}
use Rattle.chanstate.specs.declared.member.Mark.{Mark}
use Rattle.chanstate.specs.declared.member.Mark.TheVariants.{Op, Voice, HalfOp}
use Rattle.chanstate.specs.declared.channel.Channel.{Channel}
use Rattle.chanstate.specs.declared.state.ChanState.{ChanState}
use Rattle.rfccase.specs.Casemapping.{is_same_by}
use Rattle.chanstate.specs.Firsts.{first_removed, first_changed}
use Rattle.chanstate.specs.Members.{is_called, has_member, unmarked, with_mark, with_address, with_detail, with_marks_of, with_nick, arrived, listed, renamed}
use Rattle.chanstate.specs.Members.{without_namesake}
use Rattle.chanstate.specs.Channels.{is_named, opened, with_topic, with_members, on_channel, put_last}
use Rattle.chanstate.specs.Items.{Item, Welcomed, Announced, Joined, Left, Departed, Renamed, ModesSet, Marked, Titled, NamesTold, Listed, Addressed}
use Rattle.chanstate.specs.Items.{Told, ToldAtJoin, JoinsTell}
use Rattle.chanstate.specs.declared.detail.Detail.{Detail}
use Rattle.chanstate.specs.declared.detail.Detail.TheVariants.{Account, Address}
use Rattle.chanstate.specs.Steps.{step}
use Rattle.chanstate.specs.Views.{channel_in, members_of}
use Rattle.rfccase.proofs.SameLemmas.{is_same_by-left, is_same_by-right, is_same_by-apart}
use Rattle.chanstate.proofs.FindLemmas.{list_any-find, find-agree, find-changed_other, find-removed_same}
use Rattle.chanstate.proofs.FindLemmas.{find-changed_new, find-changed_old, find-map}
use Rattle.chanstate.proofs.DistinctLemmas.{Distinct, at_most_one, distinct-removed, distinct-changed, distinct-end, distinct-renamed, distinct-map}
use Rattle.chanstate.proofs.DistinctLemmas.{within-all, within-none}
use Rattle.chanstate.proofs.LookLemmas.{find-changed, find-removed, find-put_last, find-arrived, find-listed, come_as, rename_as, rename_as-none}
use Rattle.chanstate.proofs.LookLemmas.{rename_as-some}
use Rattle.rfccase.specs.declared.casemappings.Casemapping.{Casemapping}
use Rattle.chanstate.specs.Views.{mapping_of}

abbrev pub nick_of_member : Member → List ℕ
nick_of_member m = m.nick

abbrev pub name_of : Channel → List ℕ
name_of channel = channel.name

-- ---- a change of nick

ren_some : (mapping : Casemapping) (old new x : List ℕ) (ms : List Member) (m : Member) (b1 b2 b3 : Bool) → Distinct mapping nick_of_member ms → find (is_called mapping old) ms ≡ Some m →
    is_same_by mapping old new ≡ b1 → is_same_by mapping x new ≡ b2 → is_same_by mapping x old ≡ b3 →
    find (is_called mapping x) (first_changed (is_called mapping old) (with_nick new) (cond b1 ms (first_removed (is_called mapping new) ms)))
    ≡ cond b2 (Some (with_nick new m)) (cond b3 None (find (is_called mapping x) ms))
ren_some mapping old new x ms m true true b3 distinct found one two three =
    find-changed_new (is_called mapping x) (is_called mapping old) (with_nick new) (λ y. two) ms
    (within-all (is_called mapping x) (is_called mapping old) (λ y none. is_same_by-left mapping x old y.nick (is_same_by-right mapping old new x one ∙ two) ∙ none) ms)
    ∙ ap (option_map (with_nick new)) found
ren_some mapping old new x ms m true false b3 distinct found one two three =
    let apart : is_same_by mapping x old ≡ false = is_same_by-right mapping old new x one ∙ two in
    find-changed_other (is_called mapping x) (is_called mapping old) (with_nick new) (λ y same. is_same_by-apart mapping x old y.nick apart same) (λ y same. two) ms
    ∙ sym (cond-false b3 _ _ (sym three ∙ apart))
ren_some mapping old new x ms m false true b3 distinct found one two three =
    let rest = first_removed (is_called mapping new) ms in
    let gone : find (is_called mapping x) rest ≡ None = find-removed mapping nick_of_member x new ms distinct ∙ cond-true (is_same_by mapping x new) _ _ two in
    let kept : find (is_called mapping old) rest ≡ Some m = find-removed mapping nick_of_member old new ms distinct ∙ (cond-false (is_same_by mapping old new) _ _ one ∙ found) in
    find-changed_new (is_called mapping x) (is_called mapping old) (with_nick new) (λ y. two) rest
    (within-none (is_called mapping x) (is_called mapping old) rest (list_any-find (is_called mapping x) rest ∙ ap is_some gone))
    ∙ ap (option_map (with_nick new)) kept
ren_some mapping old new x ms m false false true distinct found one two three =
    let rest = first_removed (is_called mapping new) ms in
    let all = first_changed (is_called mapping old) (with_nick new) rest in
    find-agree (is_called mapping x) (is_called mapping old) (λ y. is_same_by-left mapping x old y.nick three) all
    ∙ find-changed_old (is_called mapping old) (with_nick new) (λ y. one) rest
    (at_most_one mapping nick_of_member old rest (distinct-removed mapping nick_of_member (is_called mapping new) ms distinct))
ren_some mapping old new x ms m false false false distinct found one two three =
    let rest = first_removed (is_called mapping new) ms in
    find-changed_other (is_called mapping x) (is_called mapping old) (with_nick new) (λ y same. is_same_by-apart mapping x old y.nick three same) (λ y same. two) rest
    ∙ (find-removed mapping nick_of_member x new ms distinct ∙ cond-false (is_same_by mapping x new) _ _ two)

ren_by : (mapping : Casemapping) (old new x : List ℕ) (ms : List Member) (was : Option Member) (h : Bool) → Distinct mapping nick_of_member ms → find (is_called mapping old) ms ≡ was
    → is_some was ≡ h →
    find (is_called mapping x) (cond h (first_changed (is_called mapping old) (with_nick new) (without_namesake mapping old new ms)) ms)
    ≡ rename_as mapping old new x was (find (is_called mapping x) ms)
ren_by mapping old new x ms None true distinct found is = cc
ren_by mapping old new x ms None false distinct found is = sym (rename_as-none mapping old new x _)
ren_by mapping old new x ms (Some m) true distinct found is =
    ren_some mapping old new x ms m (is_same_by mapping old new) (is_same_by mapping x new) (is_same_by mapping x old) distinct found refl refl refl ∙ sym (rename_as-some mapping old new x m _)
ren_by mapping old new x ms (Some m) false distinct found is = cc

pub find-renamed : (mapping : Casemapping) (old new x : List ℕ) (ms : List Member) → Distinct mapping nick_of_member ms
    → find (is_called mapping x) (renamed mapping old new ms) ≡ rename_as mapping old new x (find (is_called mapping old) ms) (find (is_called mapping x) ms)
find-renamed mapping old new x ms distinct = ren_by mapping old new x ms (find (is_called mapping old) ms) (has_member mapping old ms) distinct refl
    (sym (list_any-find (is_called mapping old) ms))

dis_ren : (mapping : Casemapping) (old new : List ℕ) (ms : List Member) (b : Bool) → Distinct mapping nick_of_member ms → is_same_by mapping old new ≡ b
    → Distinct mapping nick_of_member (first_changed (is_called mapping old) (with_nick new) (cond b ms (first_removed (is_called mapping new) ms)))
dis_ren mapping old new ms true distinct is =
    distinct-renamed mapping nick_of_member (with_nick new) old new (λ y. refl) ms distinct
    (within-all (is_called mapping new) (is_called mapping old) (λ y none. sym (is_same_by-left mapping old new y.nick is) ∙ none) ms)
dis_ren mapping old new ms false distinct is =
    let rest = first_removed (is_called mapping new) ms in
    let gone : find (is_called mapping new) rest ≡ None = find-removed_same (is_called mapping new) ms (at_most_one mapping nick_of_member new ms distinct) in
    distinct-renamed mapping nick_of_member (with_nick new) old new (λ y. refl) rest (distinct-removed mapping nick_of_member (is_called mapping new) ms distinct)
    (within-none (is_called mapping new) (is_called mapping old) rest (list_any-find (is_called mapping new) rest ∙ ap is_some gone))

either : {X : Type 0} (P : X → Type 0) (b : Bool) (x y : X) → P x → P y → P (cond b x y)
either P true x y one two = one
either P false x y one two = two

pub distinct-renamed_members : (mapping : Casemapping) (old new : List ℕ) (ms : List Member) → Distinct mapping nick_of_member ms → Distinct mapping nick_of_member (renamed mapping old new ms)
distinct-renamed_members mapping old new ms distinct =
    either (Distinct mapping nick_of_member) (has_member mapping old ms) _ ms (dis_ren mapping old new ms (is_same_by mapping old new) distinct refl) distinct

dis_come : (mapping : Casemapping) (one : Member) (f : Member → Member) → ((m : Member) → (f m).nick ≡ m.nick) → (ms : List Member) (h : Bool) → has_member mapping one.nick ms ≡ h
    → Distinct mapping nick_of_member ms →
    Distinct mapping nick_of_member (cond h (first_changed (is_called mapping one.nick) f ms) (ms ++ one ∷ []))
dis_come mapping one f keeps ms true is distinct = distinct-changed mapping nick_of_member (is_called mapping one.nick) f keeps ms distinct
dis_come mapping one f keeps ms false is distinct = distinct-end mapping nick_of_member ms one distinct is

pub distinct-arrived : (mapping : Casemapping) (one : Member) (ms : List Member) → Distinct mapping nick_of_member ms → Distinct mapping nick_of_member (arrived mapping one ms)
distinct-arrived mapping one ms distinct = dis_come mapping one (with_address one.user one.host) (λ m. refl) ms (has_member mapping one.nick ms) refl distinct

pub distinct-listed : (mapping : Casemapping) (one : Member) (ms : List Member) → Distinct mapping nick_of_member ms → Distinct mapping nick_of_member (listed mapping one ms)
distinct-listed mapping one ms distinct = dis_come mapping one (with_marks_of one) (λ m. refl) ms (has_member mapping one.nick ms) refl distinct

pub mark_keeps : (mark : Mark) (set : Bool) (m : Member) → (with_mark mark set m).nick ≡ m.nick
mark_keeps Op set m = refl
mark_keeps Voice set m = refl
mark_keeps HalfOp set m = refl

pub detail_keeps : (detail : Detail) (m : Member) → (with_detail detail m).nick ≡ m.nick
detail_keeps (Account account) m = refl
detail_keeps (Address user host) m = refl

-- ---- channels

-- the channel of a name after an item
abbrev pub channel_after : (mapping : Casemapping) → Item → List ℕ → List ℕ → Option Channel → Option Channel
channel_after mapping (Welcomed nick) me c o = None
channel_after mapping (Announced tokens) me c o = o
channel_after mapping (Joined nick user host d) me c o =
    cond (is_same_by mapping c d) (cond (is_same_by mapping nick me) (Some (opened d (unmarked nick user host)))
    (option_map (with_members (arrived mapping (unmarked nick user host))) o)) o
channel_after mapping (Left nick d) me c o = cond (is_same_by mapping c d) (cond (is_same_by mapping nick me) None (option_map (with_members (first_removed (is_called mapping nick))) o)) o
channel_after mapping (Departed nick) me c o = cond (is_same_by mapping nick me) None (option_map (with_members (first_removed (is_called mapping nick))) o)
channel_after mapping (Renamed old new) me c o = option_map (with_members (renamed mapping old new)) o
channel_after mapping (ModesSet channel modes arguments) me c o = o
channel_after mapping (Marked d mark set nick) me c o = cond (is_same_by mapping c d) (option_map (with_members (first_changed (is_called mapping nick) (with_mark mark set))) o) o
channel_after mapping (Titled d topic) me c o = cond (is_same_by mapping c d) (option_map (with_topic topic) o) o
channel_after mapping (NamesTold channel names) me c o = o
channel_after mapping (Listed d one) me c o = cond (is_same_by mapping c d) (option_map (with_members (listed mapping one)) o) o
channel_after mapping (Addressed d nick user host) me c o = cond (is_same_by mapping c d)
    (option_map (with_members (first_changed (is_called mapping nick) (with_address user host))) o) o
channel_after mapping (Told nick detail) me c o = option_map (with_members (first_changed (is_called mapping nick) (with_detail detail))) o
channel_after mapping (ToldAtJoin nick account) me c o = o
channel_after mapping (JoinsTell tell) me c o = o

on_channel_is : (mapping : Casemapping) (f : List Member → List Member) (c d : List ℕ) (chs : List Channel)
    → find (is_named mapping c) (on_channel mapping d f chs) ≡ cond (is_same_by mapping c d) (option_map (with_members f) (find (is_named mapping c) chs)) (find (is_named mapping c) chs)
on_channel_is mapping f c d chs = find-changed mapping name_of (with_members f) (λ ch. refl) c d chs

choose : (mapping : Casemapping) (c : List ℕ) (b e : Bool) (s t : ChanState) (o p q : Option Channel) → find (is_named mapping c) s.channels ≡ cond e p o
    → find (is_named mapping c) t.channels ≡ cond e q o → find (is_named mapping c) (cond b s t).channels ≡ cond e (cond b p q) o
choose mapping c true e s t o p q one two = one
choose mapping c false e s t o p q one two = two

depart_by : (mapping : Casemapping) (c : List ℕ) (b : Bool) (s t : ChanState) (o : Option Channel) → find (is_named mapping c) s.channels ≡ None
    → find (is_named mapping c) t.channels ≡ o → find (is_named mapping c) (cond b s t).channels ≡ cond b None o
depart_by mapping c true s t o none is = none
depart_by mapping c false s t o none is = is

-- by the casemapping before the item
pub channel_in-step : (item : Item) (s : ChanState) (c : List ℕ) → Distinct (mapping_of s) name_of s.channels
    → find (is_named (mapping_of s) c) (step item s).channels ≡ channel_after (mapping_of s) item s.nick c (channel_in c s)
channel_in-step (Welcomed nick) s c distinct = refl
channel_in-step (Announced tokens) s c distinct = refl
channel_in-step (Joined nick user host d) s c distinct =
    choose (mapping_of s) c (is_same_by (mapping_of s) nick s.nick) (is_same_by (mapping_of s) c d) _ _ (channel_in c s) _ _
    (find-put_last (mapping_of s) name_of c (opened d (unmarked nick user host)) s.channels distinct)
    (on_channel_is (mapping_of s) (arrived (mapping_of s) (unmarked nick user host)) c d s.channels)
channel_in-step (Left nick d) s c distinct =
    choose (mapping_of s) c (is_same_by (mapping_of s) nick s.nick) (is_same_by (mapping_of s) c d) _ _ (channel_in c s) _ _ (find-removed (mapping_of s) name_of c d s.channels distinct)
    (on_channel_is (mapping_of s) (first_removed (is_called (mapping_of s) nick)) c d s.channels)
channel_in-step (Departed nick) s c distinct =
    depart_by (mapping_of s) c (is_same_by (mapping_of s) nick s.nick) _ _ _ refl (find-map (is_named (mapping_of s) c) (is_named (mapping_of s) c) (with_members (first_removed (is_called (mapping_of s) nick))) (λ ch. refl) s.channels)
channel_in-step (Renamed old new) s c distinct = find-map (is_named (mapping_of s) c) (is_named (mapping_of s) c) (with_members (renamed (mapping_of s) old new)) (λ ch. refl) s.channels
channel_in-step (ModesSet channel modes arguments) s c distinct = refl
channel_in-step (Marked d mark set nick) s c distinct = on_channel_is (mapping_of s) (first_changed (is_called (mapping_of s) nick) (with_mark mark set)) c d s.channels
channel_in-step (Titled d topic) s c distinct = find-changed (mapping_of s) name_of (with_topic topic) (λ ch. refl) c d s.channels
channel_in-step (NamesTold channel names) s c distinct = refl
channel_in-step (Listed d one) s c distinct = on_channel_is (mapping_of s) (listed (mapping_of s) one) c d s.channels
channel_in-step (Addressed d nick user host) s c distinct = on_channel_is (mapping_of s) (first_changed (is_called (mapping_of s) nick) (with_address user host)) c d s.channels
channel_in-step (Told nick detail) s c distinct = find-map (is_named (mapping_of s) c) (is_named (mapping_of s) c) (with_members (first_changed (is_called (mapping_of s) nick) (with_detail detail))) (λ ch. refl) s.channels
channel_in-step (ToldAtJoin nick account) s c distinct = refl
channel_in-step (JoinsTell tell) s c distinct = refl

-- by the casemapping after it, if it is the same
pub channel_in-kept : (item : Item) (s : ChanState) (c : List ℕ) → mapping_of (step item s) ≡ mapping_of s → Distinct (mapping_of s) name_of s.channels
    → channel_in c (step item s) ≡ channel_after (mapping_of s) item s.nick c (channel_in c s)
channel_in-kept item s c kept distinct = ap (λ mapping. find (is_named mapping c) (step item s).channels) kept ∙ channel_in-step item s c distinct

-- ---- names stay distinct

distinct_put : (mapping : Casemapping) (one : Channel) (chs : List Channel) → Distinct mapping name_of chs → Distinct mapping name_of (put_last mapping one chs)
distinct_put mapping one chs distinct =
    let rest = first_removed (is_named mapping one.name) chs in
    let gone : find (is_named mapping one.name) rest ≡ None = find-removed_same (is_named mapping one.name) chs (at_most_one mapping name_of one.name chs distinct) in
    distinct-end mapping name_of rest one (distinct-removed mapping name_of (is_named mapping one.name) chs distinct) (list_any-find (is_named mapping one.name) rest ∙ ap is_some gone)

abbrev DistinctChannels : Casemapping → ChanState → Type 0
DistinctChannels mapping s = Distinct mapping name_of s.channels

distinct_on : (mapping : Casemapping) (f : List Member → List Member) (d : List ℕ) (chs : List Channel) → Distinct mapping name_of chs → Distinct mapping name_of (on_channel mapping d f chs)
distinct_on mapping f d chs distinct = distinct-changed mapping name_of (is_named mapping d) (with_members f) (λ ch. refl) chs distinct

pub distinct-step : (item : Item) (s : ChanState) → Distinct (mapping_of s) name_of s.channels → Distinct (mapping_of s) name_of (step item s).channels
distinct-step (Welcomed nick) s distinct = tt
distinct-step (Announced tokens) s distinct = distinct
distinct-step (Joined nick user host d) s distinct =
    either (DistinctChannels (mapping_of s)) (is_same_by (mapping_of s) nick s.nick) _ _ (distinct_put (mapping_of s) (opened d (unmarked nick user host)) s.channels distinct)
    (distinct_on (mapping_of s) (arrived (mapping_of s) (unmarked nick user host)) d s.channels distinct)
distinct-step (Left nick d) s distinct =
    either (DistinctChannels (mapping_of s)) (is_same_by (mapping_of s) nick s.nick) _ _ (distinct-removed (mapping_of s) name_of (is_named (mapping_of s) d) s.channels distinct)
    (distinct_on (mapping_of s) (first_removed (is_called (mapping_of s) nick)) d s.channels distinct)
distinct-step (Departed nick) s distinct =
    either (DistinctChannels (mapping_of s)) (is_same_by (mapping_of s) nick s.nick) (record s { channels = [] }) _ tt
    (distinct-map (mapping_of s) name_of (with_members (first_removed (is_called (mapping_of s) nick))) (λ ch. refl) s.channels distinct)
distinct-step (Renamed old new) s distinct = distinct-map (mapping_of s) name_of (with_members (renamed (mapping_of s) old new)) (λ ch. refl) s.channels distinct
distinct-step (ModesSet channel modes arguments) s distinct = distinct
distinct-step (Marked d mark set nick) s distinct = distinct_on (mapping_of s) (first_changed (is_called (mapping_of s) nick) (with_mark mark set)) d s.channels distinct
distinct-step (Titled d topic) s distinct = distinct-changed (mapping_of s) name_of (is_named (mapping_of s) d) (with_topic topic) (λ ch. refl) s.channels distinct
distinct-step (NamesTold channel names) s distinct = distinct
distinct-step (Listed d one) s distinct = distinct_on (mapping_of s) (listed (mapping_of s) one) d s.channels distinct
distinct-step (Addressed d nick user host) s distinct = distinct_on (mapping_of s) (first_changed (is_called (mapping_of s) nick) (with_address user host)) d s.channels distinct
distinct-step (Told nick detail) s distinct = distinct-map (mapping_of s) name_of (with_members (first_changed (is_called (mapping_of s) nick) (with_detail detail))) (λ ch. refl) s.channels distinct
distinct-step (ToldAtJoin nick account) s distinct = distinct
distinct-step (JoinsTell tell) s distinct = distinct

-- ---- nicks stay distinct

abbrev DistinctMembers : Casemapping → Option Channel → Type 0
DistinctMembers mapping o = Distinct mapping nick_of_member (members_of o)

members_by : (mapping : Casemapping) (f : List Member → List Member) → ((ms : List Member) → Distinct mapping nick_of_member ms → Distinct mapping nick_of_member (f ms)) → (o : Option Channel)
    → DistinctMembers mapping o → DistinctMembers mapping (option_map (with_members f) o)
members_by mapping f keeps None distinct = tt
members_by mapping f keeps (Some ch) distinct = keeps ch.members distinct

distinct_titled : (mapping : Casemapping) (topic : List ℕ) (o : Option Channel) → DistinctMembers mapping o → DistinctMembers mapping (option_map (with_topic topic) o)
distinct_titled mapping topic None distinct = tt
distinct_titled mapping topic (Some ch) distinct = distinct

pub members-after : (mapping : Casemapping) (item : Item) (me c : List ℕ) (o : Option Channel) → Distinct mapping nick_of_member (members_of o)
    → Distinct mapping nick_of_member (members_of (channel_after mapping item me c o))
members-after mapping (Welcomed nick) me c o distinct = tt
members-after mapping (Announced tokens) me c o distinct = distinct
members-after mapping (Joined nick user host d) me c o distinct =
    either (DistinctMembers mapping) (is_same_by mapping c d) _ o
    (either (DistinctMembers mapping) (is_same_by mapping nick me) (Some (opened d (unmarked nick user host))) _ (refl, tt)
    (members_by mapping (arrived mapping (unmarked nick user host)) (distinct-arrived mapping (unmarked nick user host)) o distinct))
    distinct
members-after mapping (Left nick d) me c o distinct =
    either (DistinctMembers mapping) (is_same_by mapping c d) _ o
    (either (DistinctMembers mapping) (is_same_by mapping nick me) None _ tt
    (members_by mapping (first_removed (is_called mapping nick)) (distinct-removed mapping nick_of_member (is_called mapping nick)) o distinct))
    distinct
members-after mapping (Departed nick) me c o distinct =
    either (DistinctMembers mapping) (is_same_by mapping nick me) None _ tt
    (members_by mapping (first_removed (is_called mapping nick)) (distinct-removed mapping nick_of_member (is_called mapping nick)) o distinct)
members-after mapping (Renamed old new) me c o distinct = members_by mapping (renamed mapping old new) (distinct-renamed_members mapping old new) o distinct
members-after mapping (ModesSet channel modes arguments) me c o distinct = distinct
members-after mapping (Marked d mark set nick) me c o distinct =
    either (DistinctMembers mapping) (is_same_by mapping c d) _ o
    (members_by mapping (first_changed (is_called mapping nick) (with_mark mark set))
    (distinct-changed mapping nick_of_member (is_called mapping nick) (with_mark mark set) (mark_keeps mark set)) o distinct) distinct
members-after mapping (Titled d topic) me c o distinct = either (DistinctMembers mapping) (is_same_by mapping c d) _ o (distinct_titled mapping topic o distinct) distinct
members-after mapping (NamesTold channel names) me c o distinct = distinct
members-after mapping (Listed d one) me c o distinct = either (DistinctMembers mapping) (is_same_by mapping c d) _ o (members_by mapping (listed mapping one) (distinct-listed mapping one) o distinct) distinct
members-after mapping (Addressed d nick user host) me c o distinct =
    either (DistinctMembers mapping) (is_same_by mapping c d) _ o
    (members_by mapping (first_changed (is_called mapping nick) (with_address user host))
    (distinct-changed mapping nick_of_member (is_called mapping nick) (with_address user host) (λ m. refl)) o distinct) distinct
members-after mapping (Told nick detail) me c o distinct = members_by mapping (first_changed (is_called mapping nick) (with_detail detail))
    (distinct-changed mapping nick_of_member (is_called mapping nick) (with_detail detail) (detail_keeps detail)) o distinct
members-after mapping (ToldAtJoin nick account) me c o distinct = distinct
members-after mapping (JoinsTell tell) me c o distinct = distinct

-- ---- members

-- the member of a nick after an item, by those before it
abbrev pub member_after : (mapping : Casemapping) → Item → List ℕ → Bool → List ℕ → (List ℕ → Option Member) → List ℕ → Option Member
member_after mapping (Welcomed nick) me here c look x = None
member_after mapping (Announced tokens) me here c look x = look x
member_after mapping (Joined nick user host d) me here c look x =
    cond (is_same_by mapping c d) (cond (is_same_by mapping nick me) (cond (is_same_by mapping x nick) (Some (unmarked nick user host)) None)
    (cond (here && is_same_by mapping x nick) (Some (come_as (unmarked nick user host) (with_address user host) (look x))) (look x))) (look x)
member_after mapping (Left nick d) me here c look x = cond (is_same_by mapping c d && (is_same_by mapping nick me || is_same_by mapping x nick)) None (look x)
member_after mapping (Departed nick) me here c look x = cond (is_same_by mapping nick me || is_same_by mapping x nick) None (look x)
member_after mapping (Renamed old new) me here c look x = rename_as mapping old new x (look old) (look x)
member_after mapping (ModesSet channel modes arguments) me here c look x = look x
member_after mapping (Marked d mark set nick) me here c look x = cond (is_same_by mapping c d && is_same_by mapping x nick) (option_map (with_mark mark set) (look x)) (look x)
member_after mapping (Titled d topic) me here c look x = look x
member_after mapping (NamesTold channel names) me here c look x = look x
member_after mapping (Listed d one) me here c look x = cond (is_same_by mapping c d && (here && is_same_by mapping x one.nick)) (Some (come_as one (with_marks_of one) (look x))) (look x)
member_after mapping (Addressed d nick user host) me here c look x = cond (is_same_by mapping c d && is_same_by mapping x nick) (option_map (with_address user host) (look x)) (look x)
member_after mapping (Told nick detail) me here c look x = cond (is_same_by mapping x nick) (option_map (with_detail detail) (look x)) (look x)
member_after mapping (ToldAtJoin nick account) me here c look x = look x
member_after mapping (JoinsTell tell) me here c look x = look x

nothing : {X : Type 0} (b : Bool) → ◌≡◌ {A = Option X} (cond b None None) None
nothing true = refl
nothing false = refl

m_joined : (mapping : Casemapping) (x d : List ℕ) (one : Member) (b1 b2 : Bool) (o : Option Channel) →
    find (is_called mapping x) (members_of (cond b1 (cond b2 (Some (opened d one)) (option_map (with_members (arrived mapping one)) o)) o)) ≡
    cond b1 (cond b2 (cond (is_same_by mapping x one.nick) (Some one) None)
    (cond (is_some o && is_same_by mapping x one.nick) (Some (come_as one (with_address one.user one.host) (find (is_called mapping x) (members_of o))))
    (find (is_called mapping x) (members_of o)))) (find (is_called mapping x) (members_of o))
m_joined mapping x d one true true o = refl
m_joined mapping x d one true false None = refl
m_joined mapping x d one true false (Some ch) = find-arrived mapping one x ch.members
m_joined mapping x d one false b2 o = refl

m_left : (mapping : Casemapping) (x nick : List ℕ) (b1 b2 : Bool) (o : Option Channel) → Distinct mapping nick_of_member (members_of o) →
    find (is_called mapping x) (members_of (cond b1 (cond b2 None (option_map (with_members (first_removed (is_called mapping nick))) o)) o))
    ≡ cond (b1 && (b2 || is_same_by mapping x nick)) None (find (is_called mapping x) (members_of o))
m_left mapping x nick true true o distinct = refl
m_left mapping x nick true false None distinct = sym (nothing (is_same_by mapping x nick))
m_left mapping x nick true false (Some ch) distinct = find-removed mapping nick_of_member x nick ch.members distinct
m_left mapping x nick false b2 o distinct = refl

m_changed : (mapping : Casemapping) (x nick : List ℕ) (f : Member → Member) → ((m : Member) → (f m).nick ≡ m.nick) → (b : Bool) (o : Option Channel) →
    find (is_called mapping x) (members_of (cond b (option_map (with_members (first_changed (is_called mapping nick) f)) o) o))
    ≡ cond (b && is_same_by mapping x nick) (option_map f (find (is_called mapping x) (members_of o))) (find (is_called mapping x) (members_of o))
m_changed mapping x nick f keeps true None = sym (nothing (is_same_by mapping x nick))
m_changed mapping x nick f keeps true (Some ch) = find-changed mapping nick_of_member f keeps x nick ch.members
m_changed mapping x nick f keeps false o = refl

m_titled : (mapping : Casemapping) (x topic : List ℕ) (b : Bool) (o : Option Channel)
    → find (is_called mapping x) (members_of (cond b (option_map (with_topic topic) o) o)) ≡ find (is_called mapping x) (members_of o)
m_titled mapping x topic true None = refl
m_titled mapping x topic true (Some ch) = refl
m_titled mapping x topic false o = refl

m_listed : (mapping : Casemapping) (x : List ℕ) (one : Member) (b : Bool) (o : Option Channel) →
    find (is_called mapping x) (members_of (cond b (option_map (with_members (listed mapping one)) o) o))
    ≡ cond (b && (is_some o && is_same_by mapping x one.nick)) (Some (come_as one (with_marks_of one) (find (is_called mapping x) (members_of o))))
    (find (is_called mapping x) (members_of o))
m_listed mapping x one true None = refl
m_listed mapping x one true (Some ch) = find-listed mapping one x ch.members
m_listed mapping x one false o = refl

m_renamed : (mapping : Casemapping) (x old new : List ℕ) (o : Option Channel) → Distinct mapping nick_of_member (members_of o) →
    find (is_called mapping x) (members_of (option_map (with_members (renamed mapping old new)) o))
    ≡ rename_as mapping old new x (find (is_called mapping old) (members_of o)) (find (is_called mapping x) (members_of o))
m_renamed mapping x old new None distinct = sym (rename_as-none mapping old new x None)
m_renamed mapping x old new (Some ch) distinct = find-renamed mapping old new x ch.members distinct

pub member-after : (mapping : Casemapping) (item : Item) (me c x : List ℕ) (o : Option Channel) → Distinct mapping nick_of_member (members_of o) →
    find (is_called mapping x) (members_of (channel_after mapping item me c o)) ≡ member_after mapping item me (is_some o) c (λ y. find (is_called mapping y) (members_of o)) x
member-after mapping (Welcomed nick) me c x o distinct = refl
member-after mapping (Announced tokens) me c x o distinct = refl
member-after mapping (Joined nick user host d) me c x o distinct = m_joined mapping x d (unmarked nick user host) (is_same_by mapping c d) (is_same_by mapping nick me) o
member-after mapping (Left nick d) me c x o distinct = m_left mapping x nick (is_same_by mapping c d) (is_same_by mapping nick me) o distinct
member-after mapping (Departed nick) me c x o distinct = m_left mapping x nick true (is_same_by mapping nick me) o distinct
member-after mapping (Renamed old new) me c x o distinct = m_renamed mapping x old new o distinct
member-after mapping (ModesSet channel modes arguments) me c x o distinct = refl
member-after mapping (Marked d mark set nick) me c x o distinct = m_changed mapping x nick (with_mark mark set) (mark_keeps mark set) (is_same_by mapping c d) o
member-after mapping (Titled d topic) me c x o distinct = m_titled mapping x topic (is_same_by mapping c d) o
member-after mapping (NamesTold channel names) me c x o distinct = refl
member-after mapping (Listed d one) me c x o distinct = m_listed mapping x one (is_same_by mapping c d) o
member-after mapping (Addressed d nick user host) me c x o distinct = m_changed mapping x nick (with_address user host) (λ m. refl) (is_same_by mapping c d) o
member-after mapping (Told nick detail) me c x o distinct = m_changed mapping x nick (with_detail detail) (detail_keeps detail) true o
member-after mapping (ToldAtJoin nick account) me c x o distinct = refl
member-after mapping (JoinsTell tell) me c x o distinct = refl
