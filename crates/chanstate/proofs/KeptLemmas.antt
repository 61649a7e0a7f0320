-- Changes that leave a list as it is, and which names and members a change leaves.
use Rattle.std.proofs.Common.{◌≡◌, ℕ, ◌<◌, suc, zero, Bool, true, false, cond, not, ◌||◌, ◌&&◌, List, [], ◌∷◌, length, get_or, map, filter, refl, sym, ap, ◌∙◌}
use Rattle.std.proofs.Common.{Option, None, Some, arith}
use Rattle.std.specs.Prelude.{find, is_some}
use Rattle.std.specs.List.{list_any}
use Rattle.std.proofs.lemmas.Bool.{cond-true, cond-false}
use Rattle.chanstate.specs.declared.member.Member.{Member}
use Rattle.chanstate.specs.declared.channel.Channel.{Channel}
use Rattle.chanstate.specs.declared.state.ChanState.{ChanState}
use Rattle.rfccase.specs.Casemapping.{is_same_by}
use Rattle.chanstate.specs.Firsts.{first_changed}
use Rattle.chanstate.specs.Members.{is_called, has_member, with_marks_of, listed, listed_each, shown_each, arrived, unmarked, renamed}
use Rattle.chanstate.specs.Channels.{is_named, is_held, with_members, on_channel, all_renamed}
use Rattle.chanstate.specs.Views.{channel_in, member_in, members_of}
use Rattle.chanstate.specs.Items.{Item, Joined, Left, NamesTold, Renamed, any_named, channels_in, channels_on, names_in}
use Rattle.chanstate.specs.Steps.{joined, step, each_step, steps}
use Rattle.chanstate.specs.Announced.{is_typed, with_join}
use Rattle.chanstate.specs.Plans.{joined_if}
use Rattle.chanstate.specs.declared.support.Support.{Support}
use Rattle.chanstate.specs.Memory.{adds, any_adds, join_adds, lacks, readdresses, respells, retitles}
use Rattle.std.specs.Prelude.{nat_eq}
use Rattle.std.specs.Cmp.Lexicographic.{pointwise}
use Rattle.std.proofs.lemmas.Slice.Eq.{bytes_eq-Decides}
use Rattle.chanstate.specs.Members.{with_address, with_nick}
use Rattle.chanstate.specs.Channels.{with_topic}
use Rattle.chanstate.proofs.BoolLemmas.{or-parts, or-left, not-false}
use Rattle.chanstate.proofs.FirstsLemmas.{first_changed-nowhere}
use Rattle.chanstate.proofs.TypedLemmas.{channels_on-is, steps-joins}
use Rattle.chanstate.proofs.FindLemmas.{any-agree, list_any-find}
use Rattle.rfccase.specs.declared.casemappings.Casemapping.{Casemapping}
use Rattle.chanstate.specs.Views.{mapping_of}

-- ---- a change that changes nothing

same_step : {X : Type 0} (b : Bool) (x y : X) (xs ys : List X) → (b ≡ true → y ≡ x) → (b ≡ false → ys ≡ xs) → cond b (y ∷ xs) (x ∷ ys) ≡ x ∷ xs
same_step true x y xs ys here there = ap (λ z. z ∷ xs) (here refl)
same_step false x y xs ys here there = ap (λ zs. x ∷ zs) (there refl)

pub first_changed-kept : {X : Type 0} (p : X → Bool) (f : X → X) (xs : List X) → ((x : X) → find p xs ≡ Some x → f x ≡ x) → first_changed p f xs ≡ xs
first_changed-kept p f [] kept = refl
first_changed-kept p f (x ∷ xs) kept =
    same_step (p x) x (f x) xs (first_changed p f xs)
    (λ is. kept x (cond-true (p x) _ _ is))
    (λ is. first_changed-kept p f xs (λ y found. kept y (cond-false (p x) _ _ is ∙ found)))

-- two changes that agree on what they find
same_change : {X : Type 0} (b : Bool) (x y z : X) (xs ys zs : List X) → (b ≡ true → y ≡ z) → (b ≡ false → ys ≡ zs) → cond b (y ∷ xs) (x ∷ ys) ≡ cond b (z ∷ xs) (x ∷ zs)
same_change true x y z xs ys zs here there = ap (λ w. w ∷ xs) (here refl)
same_change false x y z xs ys zs here there = ap (λ ws. x ∷ ws) (there refl)

first_changed-agree : {X : Type 0} (p : X → Bool) (f g : X → X) (xs : List X) → ((x : X) → find p xs ≡ Some x → f x ≡ g x)
    → first_changed p f xs ≡ first_changed p g xs
first_changed-agree p f g [] same = refl
first_changed-agree p f g (x ∷ xs) same =
    same_change (p x) x (f x) (g x) xs (first_changed p f xs) (first_changed p g xs)
    (λ is. same x (cond-true (p x) _ _ is))
    (λ is. first_changed-agree p f g xs (λ y found. same y (cond-false (p x) _ _ is ∙ found)))

-- ---- what a change leaves

any_step : {X : Type 0} (b : Bool) (p : X → Bool) (x y : X) (xs ys : List X) → p y ≡ p x → list_any p ys ≡ list_any p xs
    → list_any p (cond b (y ∷ xs) (x ∷ ys)) ≡ (p x || list_any p xs)
any_step true p x y xs ys one rest = ap (λ z. z || list_any p xs) one
any_step false p x y xs ys one rest = ap (λ z. p x || z) rest

pub any-kept : {X : Type 0} (p q : X → Bool) (f : X → X) → ((x : X) → p (f x) ≡ p x) → (xs : List X) → list_any p (first_changed q f xs) ≡ list_any p xs
any-kept p q f keeps [] = refl
any-kept p q f keeps (x ∷ xs) = any_step (q x) p x (f x) xs (first_changed q f xs) (keeps x) (any-kept p q f keeps xs)

-- a join of a channel that isn't held changes no channel
pub joined-nowhere : (nick user host channel : List ℕ) (s : ChanState) → is_same_by (mapping_of s) nick s.nick ≡ false
    → is_held (mapping_of s) channel s.channels ≡ false → joined nick user host channel s ≡ record s { support = with_join s.support }
joined-nowhere nick user host channel s other none =
    cond-false _ _ _ other
    ∙ ap (λ cs. record s { channels = cs; support = with_join s.support })
    (first_changed-nowhere (is_named (mapping_of s) channel) (with_members (arrived (mapping_of s) (unmarked nick user host))) s.channels none)

-- a JOIN that has been read once has been read
pub joined_again : (b : Bool) (sup : Support) → joined_if b (with_join sup) ≡ with_join sup
joined_again true sup = refl
joined_again false sup = refl

-- which joins take memory does not depend on what else the server has announced
joins_same : (nick : List ℕ) (names : List (List ℕ)) (s : ChanState)
    → list_any (λ name. join_adds nick name (record s { support = with_join s.support })) names ≡ list_any (λ name. join_adds nick name s) names
joins_same nick [] s = refl
joins_same nick (n ∷ ns) s = ap (λ b. join_adds nick n s || b) (joins_same nick ns s)

-- a topic or an address that is there already
pub same_text : (xs ys : List ℕ) → not (pointwise nat_eq xs ys) ≡ false → ys ≡ xs
same_text xs ys same = sym ((bytes_eq-Decides xs ys).0 (not-false _ same))

pub same_topic : (channel topic : List ℕ) (s : ChanState) → retitles topic (channel_in channel s) ≡ false
    → first_changed (is_named (mapping_of s) channel) (with_topic topic) s.channels ≡ s.channels
same_topic channel topic s same =
    first_changed-kept (is_named (mapping_of s) channel) (with_topic topic) s.channels
    (λ c found. ap (λ t. record c { topic = t }) (same_text c.topic topic (ap (retitles topic) (sym found) ∙ same)))

pub readdressed : (user host : List ℕ) (m : Member) → readdresses user host (Some m) ≡ false → with_address user host m ≡ m
readdressed user host m same =
    let parts = or-parts (not (pointwise nat_eq m.user user)) (not (pointwise nat_eq m.host host)) same in
    ap (λ u. record m { user = u; host = host }) (same_text m.user user parts.0) ∙ ap (λ h. record m { host = h }) (same_text m.host host parts.1)

pub same_address : (channel nick user host : List ℕ) (s : ChanState) → readdresses user host (member_in channel nick s) ≡ false
    → on_channel (mapping_of s) channel (first_changed (is_called (mapping_of s) nick) (with_address user host)) s.channels ≡ s.channels
same_address channel nick user host s same =
    first_changed-kept (is_named (mapping_of s) channel) (with_members (first_changed (is_called (mapping_of s) nick) (with_address user host))) s.channels
    (λ c found. ap (λ ms. record c { members = ms })
    (first_changed-kept (is_called (mapping_of s) nick) (with_address user host) c.members
    (λ m there. readdressed user host m (ap (readdresses user host) (sym there)
    ∙ (ap (λ o. readdresses user host (find (is_called (mapping_of s) nick) (members_of o))) (sym found) ∙ same)))))

-- a nick that is there already, wherever the old one is
pub some_same : {X : Type 0} {x y : X} → Some x ≡ Some y → x ≡ y
some_same e = cc

passes_step : {X : Type 0} (b : Bool) (p : X → Bool) (x y : X) (o : Option X) → p x ≡ b → (o ≡ Some y → p y ≡ true) → cond b (Some x) o ≡ Some y → p y ≡ true
passes_step true p x y o is rest found = ap p (sym (some_same found)) ∙ is
passes_step false p x y o is rest found = rest found

find-passes : {X : Type 0} (p : X → Bool) (xs : List X) (y : X) → find p xs ≡ Some y → p y ≡ true
find-passes p [] y found = cc
find-passes p (x ∷ xs) y found = passes_step (p x) p x y (find p xs) refl (find-passes p xs y) found

renamed_there : (mapping : Casemapping) (old new : List ℕ) (ms : List Member) (o : Option Member) → find (is_called mapping old) ms ≡ o → respells new o ≡ false → renamed mapping old new ms ≡ ms
renamed_there mapping old new ms None is same = cond-false _ _ _ (list_any-find (is_called mapping old) ms ∙ ap is_some is)
renamed_there mapping old new ms (Some m) is same =
    let spelled : new ≡ m.nick = same_text m.nick new same in
    let called : is_same_by mapping old new ≡ true = ap (is_same_by mapping old) spelled ∙ find-passes (is_called mapping old) ms m is in
    cond-true _ _ _ (list_any-find (is_called mapping old) ms ∙ ap is_some is)
    ∙ ap (first_changed (is_called mapping old) (with_nick new)) (cond-true _ _ _ called)
    ∙ first_changed-kept (is_called mapping old) (with_nick new) ms
    (λ x found. ap (λ nick. record x { nick = nick }) (spelled ∙ ap (λ (y : Member). y.nick) (some_same (sym is ∙ found))))

all_renamed_there : (mapping : Casemapping) (old new : List ℕ) (cs : List Channel) → list_any (λ c. respells new (find (is_called mapping old) c.members)) cs ≡ false
    → all_renamed mapping old new cs ≡ cs
all_renamed_there mapping old new [] none = refl
all_renamed_there mapping old new (c ∷ cs) none =
    let parts = or-parts (respells new (find (is_called mapping old) c.members)) (list_any (λ c. respells new (find (is_called mapping old) c.members)) cs) none in
    ap (λ ms. record c { members = ms } ∷ all_renamed mapping old new cs) (renamed_there mapping old new c.members (find (is_called mapping old) c.members) refl parts.0)
    ∙ ap (λ ds. c ∷ ds) (all_renamed_there mapping old new cs parts.1)

own_there : (b : Bool) (new nick : List ℕ) → (b && not (pointwise nat_eq nick new)) ≡ false → cond b new nick ≡ nick
own_there true new nick same = same_text nick new same
own_there false new nick same = refl

pub same_nick : (old new : List ℕ) (s : ChanState) → adds (Renamed old new) s ≡ false → step (Renamed old new) s ≡ s
same_nick old new s none =
    let parts = or-parts (is_same_by (mapping_of s) old s.nick && not (pointwise nat_eq s.nick new)) (list_any (λ c. respells new (find (is_called (mapping_of s) old) c.members)) s.channels) none in
    ap (λ nick. record s { nick = nick; channels = all_renamed (mapping_of s) old new s.channels }) (own_there (is_same_by (mapping_of s) old s.nick) new s.nick parts.0)
    ∙ ap (λ cs. record s { channels = cs }) (all_renamed_there (mapping_of s) old new s.channels parts.1)

-- ---- those who are listed while all of them are members

none_new_step : (mapping : Casemapping) (one : Member) (more ms : List Member) → has_member mapping one.nick ms ≡ true
    → listed_each mapping more (first_changed (is_called mapping one.nick) (with_marks_of one) ms) ≡ shown_each mapping more (first_changed (is_called mapping one.nick) (with_marks_of one) ms)
    → listed_each mapping more (listed mapping one ms) ≡ shown_each mapping more (first_changed (is_called mapping one.nick) (with_marks_of one) ms)
none_new_step mapping one more ms here rest = ap (listed_each mapping more) (cond-true _ _ _ here) ∙ rest

pub listed-members : (mapping : Casemapping) (names ms : List Member) → list_any (λ one. not (has_member mapping one.nick ms)) names ≡ false → listed_each mapping names ms ≡ shown_each mapping names ms
listed-members mapping [] ms none = refl
listed-members mapping (one ∷ more) ms none =
    let parts = or-parts (not (has_member mapping one.nick ms)) (list_any (λ one. not (has_member mapping one.nick ms)) more) none in
    let after = first_changed (is_called mapping one.nick) (with_marks_of one) ms in
    none_new_step mapping one more ms (not-false _ parts.0)
    (listed-members mapping more after
    (any-agree (λ x. not (has_member mapping x.nick after)) (λ x. not (has_member mapping x.nick ms))
    (λ x. ap not (any-kept (is_called mapping x.nick) (is_called mapping one.nick) (with_marks_of one) (λ m. refl) ms)) more ∙ parts.1))

-- ---- a piece of a list that names what takes memory

-- a piece that names a channel makes the list of them longer
pub named-piece : (p : List ℕ → Bool) (xs : List (List ℕ)) (i : ℕ) (x : List ℕ) → i < length xs → x ≡ get_or xs i x → p x ≡ true → 0 < length (filter p xs)
named-piece p [] i x less at is = absurd (let less : i < 0 = less in omega arith)
named-piece p (y ∷ ys) zero x less at is =
    ap_less (cond-true _ (y ∷ filter p ys) (filter p ys) (ap p (sym at) ∙ is))
  where
    ap_less : {zs : List (List ℕ)} → zs ≡ y ∷ filter p ys → 0 < length zs
    ap_less {zs = zs} e = let long : length zs ≡ suc (length (filter p ys)) = ap length e in omega (arith, long)
named-piece p (y ∷ ys) (suc i) x less at is =
    let less : suc i < suc (length ys) = less in
    step (p y) (named-piece p ys i x (omega arith) at is)
  where
    step : (b : Bool) → 0 < length (filter p ys) → 0 < length (cond b (y ∷ filter p ys) (filter p ys))
    step true more = omega arith
    step false more = more

-- one item alone
pub any_adds-one : (item : Item) (s : ChanState) → any_adds (item ∷ []) s ≡ adds item s
any_adds-one item s = by (adds item s)
  where
    by : (b : Bool) → (b || false) ≡ b
    by true = refl
    by false = refl

-- joins take memory if one of a channel on this server does
any_adds-typed : (nick user host : List ℕ) (names : List (List ℕ)) (s : ChanState)
    → any_adds (map (Joined nick user host) names) s ≡ list_any (λ name. join_adds nick name s) (filter (is_typed s.support) names)
any_adds-typed nick user host [] s = refl
any_adds-typed nick user host (n ∷ ns) s = by (is_typed s.support n) (any_adds-typed nick user host ns s)
  where
    more : Bool
    more = any_adds (map (Joined nick user host) ns) s

    left : List (List ℕ)
    left = filter (is_typed s.support) ns

    by : (b : Bool) → more ≡ list_any (λ name. join_adds nick name s) left
        → ((b && join_adds nick n s) || more) ≡ list_any (λ name. join_adds nick name s) (cond b (n ∷ left) left)
    by true rest = ap (λ z. join_adds nick n s || z) rest
    by false rest = rest

pub any_adds-joins : (nick user host list : List ℕ) (s : ChanState)
    → any_adds (map (Joined nick user host) (channels_in list)) s ≡ list_any (λ name. join_adds nick name s) (channels_on s.support list)
any_adds-joins nick user host list s =
    any_adds-typed nick user host (channels_in list) s ∙ ap (list_any (λ name. join_adds nick name s)) (channels_on-is s.support list)

-- the bot's joins take memory, if there are any
any_adds-all : (nick : List ℕ) (names : List (List ℕ)) (s : ChanState) → is_same_by (mapping_of s) nick s.nick ≡ true → 0 < length names
    → list_any (λ name. join_adds nick name s) names ≡ true
any_adds-all nick [] s own some = absurd (let some : 0 < 0 = some in omega arith)
any_adds-all nick (n ∷ ns) s own some =
    or-left (join_adds nick n s) (list_any (λ name. join_adds nick name s) ns) (or-left
    (is_same_by (mapping_of s) nick s.nick) (is_held (mapping_of s) n s.channels) own)

pub any_adds-own : (nick user host list : List ℕ) (s : ChanState) → is_same_by (mapping_of s) nick s.nick ≡ true → 0 < length (channels_on s.support list)
    → any_adds (map (Joined nick user host) (channels_in list)) s ≡ true
any_adds-own nick user host list s own some =
    any_adds-joins nick user host list s ∙ any_adds-all nick (channels_on s.support list) s own some

-- ---- items that take no memory

pub adds-none : (item : Item) (s : ChanState) → any_adds (item ∷ []) s ≡ false → adds item s ≡ false
adds-none item s none = (or-parts (adds item s) false none).0

none_joined : (nick user host : List ℕ) (names : List (List ℕ)) (s : ChanState) → list_any (λ name. join_adds nick name s) names ≡ false
    → each_step (map (Joined nick user host) names) s ≡ record s { support = joined_if (any_named names) s.support }
none_joined nick user host [] s none = refl
none_joined nick user host (n ∷ ns) s none =
    let parts = or-parts (join_adds nick n s) (list_any (λ name. join_adds nick name s) ns) none in
    let apart = or-parts (is_same_by (mapping_of s) nick s.nick) (is_held (mapping_of s) n s.channels) parts.0 in
    let next : ChanState = record s { support = with_join s.support } in
    ap (each_step (map (Joined nick user host) ns)) (joined-nowhere nick user host n s apart.0 apart.1)
    ∙ (none_joined nick user host ns next (joins_same nick ns s ∙ parts.1)
    ∙ ap (λ sup. record s { support = sup }) (joined_again (any_named ns) s.support))

pub joins_none : (nick user host list : List ℕ) (s : ChanState) → any_adds (map (Joined nick user host) (channels_in list)) s ≡ false
    → steps (map (Joined nick user host) (channels_in list)) s
    ≡ record s { support = joined_if (any_named (channels_on s.support list)) s.support }
joins_none nick user host list s none =
    steps-joins nick user host list s
    ∙ none_joined nick user host (channels_on s.support list) s (sym (any_adds-joins nick user host list s) ∙ none)

pub shown_none : (channel names : List ℕ) (s : ChanState) → adds (NamesTold channel names) s ≡ false
    → on_channel (mapping_of s) channel (shown_each (mapping_of s) (names_in s.support names)) s.channels ≡ on_channel (mapping_of s) channel (listed_each (mapping_of s) (names_in s.support names)) s.channels
shown_none channel names s none =
    let ones = names_in s.support names in
    first_changed-agree (is_named (mapping_of s) channel) (with_members (shown_each (mapping_of s) ones)) (with_members (listed_each (mapping_of s) ones)) s.channels
    (λ c found. ap (λ ms. record c { members = ms }) (sym (listed-members (mapping_of s) ones c.members
    (ap (λ o. list_any (λ one. lacks (mapping_of s) one.nick o) ones) (sym found) ∙ none))))

pub any_adds-left : (nick : List ℕ) (names : List (List ℕ)) (s : ChanState) → any_adds (map (Left nick) names) s ≡ false
any_adds-left nick [] s = refl
any_adds-left nick (n ∷ ns) s = any_adds-left nick ns s

pub lacks_none : (mapping : Casemapping) (names : List Member) → list_any (λ one. lacks mapping one.nick None) names ≡ false
lacks_none mapping [] = refl
lacks_none mapping (one ∷ more) = lacks_none mapping more
