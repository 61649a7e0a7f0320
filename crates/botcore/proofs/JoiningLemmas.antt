-- What a JOIN leaves of what the bot reads of its channels to judge who has joined.
use Rattle.std.proofs.Common.{◌≡◌, ℕ, Bool, true, false, cond, Option, None, Some, List, [], ◌∷◌, map, slice_get, refl, sym, ap, ◌∙◌}
use Rattle.std.specs.Prelude.{find, if◌then◌else◌, ◌++◌, codes}
use Rattle.std.specs.List.{filter_map}
use Rattle.std.specs.Option.{option_map}
use Rattle.std.proofs.lemmas.Bool.{cond-true, cond-false}
use Rattle.rfccase.specs.declared.casemappings.Casemapping.{Casemapping}
use Rattle.rfccase.specs.Casemapping.{is_same_by}
use Rattle.ircline.specs.Sources.{Source, Nobody, Server, Person}
use Rattle.chanstate.specs.declared.channel.Channel.{Channel}
use Rattle.chanstate.specs.declared.member.Member.{Member}
use Rattle.chanstate.specs.declared.state.ChanState.{ChanState}
use Rattle.chanstate.specs.declared.support.Support.{Support}
use Rattle.chanstate.specs.declared.detail.Detail.{Detail}
use Rattle.chanstate.specs.declared.detail.Detail.TheVariants.{Account, Address}
use Rattle.chanstate.specs.Channels.{is_named, with_members, on_channel, all_told}
use Rattle.chanstate.specs.Firsts.{first_changed}
use Rattle.chanstate.specs.Items.{Item, Joined, Told, ToldAtJoin, any_named, account_but, channels_in, channels_on, if_given, join_items, joined_as}
use Rattle.chanstate.specs.Plans.{joined_if}
use Rattle.chanstate.specs.Members.{is_called, has_member, arrived, unmarked, with_address, with_detail}
use Rattle.chanstate.specs.Steps.{each_step, step, steps}
use Rattle.chanstate.specs.Takes.{came_each}
use Rattle.chanstate.specs.Views.{is_op, mapping_of, members_of}
use Rattle.chanstate.proofs.ComeLemmas.{steps-own, steps-came}
use Rattle.chanstate.proofs.StepLemmas.{steps-append}
use Rattle.rfccase.proofs.SameLemmas.{is_same_by-sym}
use Rattle.chanstate.proofs.FindLemmas.{find-end, or_else}
use Rattle.chanstate.proofs.LookLemmas.{or_else-right}
use Rattle.botcore.specs.Automatic.{guarded_as, guarded, guarded_if, watched}

-- ---- one channel

-- what is read of the item that is found stays where one item changes and that stays of it
read_step : {X A : Type 0} (b : Bool) (read : Option X → A) (x y : X) (o : Option X) → read (Some y) ≡ read (Some x)
    → read (cond b (Some y) o) ≡ read (cond b (Some x) o)
read_step true read x y o same = same
read_step false read x y o same = refl

later_step : {X A : Type 0} (b : Bool) (read : Option X → A) (x : X) (o more : Option X) → read more ≡ read o
    → read (cond b (Some x) more) ≡ read (cond b (Some x) o)
later_step true read x o more same = refl
later_step false read x o more same = same

found_step : {X A : Type 0} (b : Bool) (p : X → Bool) (read : Option X → A) (x y : X) (xs ys : List X) → p y ≡ p x
    → read (Some y) ≡ read (Some x) → read (find p ys) ≡ read (find p xs)
    → read (find p (cond b (y ∷ xs) (x ∷ ys))) ≡ read (find p (x ∷ xs))
found_step true p read x y xs ys same_test same_read rest =
    ap (λ b. read (cond b (Some y) (find p xs))) same_test ∙ read_step (p x) read x y (find p xs) same_read
found_step false p read x y xs ys same_test same_read rest = later_step (p x) read x (find p xs) (find p ys) rest

found-changed : {X A : Type 0} (p q : X → Bool) (f : X → X) (read : Option X → A) → ((x : X) → p (f x) ≡ p x)
    → ((x : X) → read (Some (f x)) ≡ read (Some x)) → (xs : List X) → read (find p (first_changed q f xs)) ≡ read (find p xs)
found-changed p q f read same_test same_read [] = refl
found-changed p q f read same_test same_read (x ∷ xs) =
    found_step (q x) p read x (f x) xs (first_changed q f xs) (same_test x) (same_read x)
    (found-changed p q f read same_test same_read xs)

-- the same where each item changes
mapped_step : {X A : Type 0} (b : Bool) (read : Option X → A) (x y : X) (o more : Option X) → read (Some y) ≡ read (Some x)
    → read more ≡ read o → read (cond b (Some y) more) ≡ read (cond b (Some x) o)
mapped_step true read x y o more same rest = same
mapped_step false read x y o more same rest = rest

found-mapped : {X A : Type 0} (p : X → Bool) (f : X → X) (read : Option X → A) → ((x : X) → p (f x) ≡ p x)
    → ((x : X) → read (Some (f x)) ≡ read (Some x)) → (xs : List X) → read (find p (map f xs)) ≡ read (find p xs)
found-mapped p f read same_test same_read [] = refl
found-mapped p f read same_test same_read (x ∷ xs) =
    ap (λ b. read (cond b (Some (f x)) (find p (map f xs)))) (same_test x)
    ∙ mapped_step (p x) read x (f x) (find p xs) (find p (map f xs)) (same_read x) (found-mapped p f read same_test same_read xs)

-- one of two, of which the same is read
either : {X A : Type 0} (b : Bool) (read : X → A) (x y : X) (z : A) → read x ≡ z → read y ≡ z → read (cond b x y) ≡ z
either true read x y z first second = first
either false read x y z first second = second

-- whether a member is op stays where somebody else comes
op-arrived : (mapping : Casemapping) (one : Member) (nick : List ℕ) (members : List Member) → is_same_by mapping one.nick nick ≡ false
    → is_op (find (is_called mapping nick) (arrived mapping one members)) ≡ is_op (find (is_called mapping nick) members)
op-arrived mapping one nick members other =
    either (has_member mapping one.nick members) (λ (ms : List Member). is_op (find (is_called mapping nick) ms)) _ _ _
    (found-changed (is_called mapping nick) (is_called mapping one.nick) (with_address one.user one.host) is_op (λ m. refl) (λ m. refl) members)
    (ap is_op (find-end (is_called mapping nick) members one
    ∙ ap (or_else (find (is_called mapping nick) members)) (cond-false _ _ _ (is_same_by-sym mapping nick one.nick ∙ other))
    ∙ or_else-right (find (is_called mapping nick) members)))

-- it stays where the server tells an account or an address
op-told : (mapping : Casemapping) (detail : Detail) (nick me : List ℕ) (members : List Member)
    → is_op (find (is_called mapping me) (first_changed (is_called mapping nick) (with_detail detail) members))
    ≡ is_op (find (is_called mapping me) members)
op-told mapping (Account account) nick me members =
    found-changed (is_called mapping me) (is_called mapping nick) (with_detail (Account account)) is_op (λ m. refl) (λ m. refl) members
op-told mapping (Address user host) nick me members =
    found-changed (is_called mapping me) (is_called mapping nick) (with_detail (Address user host)) is_op (λ m. refl) (λ m. refl) members

-- ---- all channels

-- a channel as the bot spells it, if the bot, of this nick, is op there
abbrev judged : Casemapping → List ℕ → Option Channel → Option (List ℕ)
judged mapping me o = if is_op (find (is_called mapping me) (members_of o)) then option_map (λ channel. channel.name) o else None

judged-came : (mapping : Casemapping) (one : Member) (me name : List ℕ) (names : List (List ℕ)) (channels : List Channel)
    → is_same_by mapping one.nick me ≡ false
    → judged mapping me (find (is_named mapping name) (came_each mapping one names channels))
    ≡ judged mapping me (find (is_named mapping name) channels)
judged-came mapping one me name [] channels other = refl
judged-came mapping one me name (n ∷ ns) channels other =
    judged-came mapping one me name ns (on_channel mapping n (arrived mapping one) channels) other
    ∙ found-changed (is_named mapping name) (is_named mapping n) (with_members (arrived mapping one)) (judged mapping me) (λ c. refl)
    (λ c. ap (λ b. if b then Some c.name else None) (op-arrived mapping one me c.members other)) channels

judged-told : (mapping : Casemapping) (nick : List ℕ) (detail : Detail) (me name : List ℕ) (channels : List Channel)
    → judged mapping me (find (is_named mapping name) (all_told mapping nick detail channels))
    ≡ judged mapping me (find (is_named mapping name) channels)
judged-told mapping nick detail me name channels =
    found-mapped (is_named mapping name) (with_members (first_changed (is_called mapping nick) (with_detail detail))) (judged mapping me) (λ c. refl)
    (λ c. ap (λ b. if b then Some c.name else None) (op-told mapping detail nick me c.members)) channels

agree : {X Y : Type 0} (f g : X → Option Y) (xs : List X) → ((x : X) → f x ≡ g x) → filter_map f xs ≡ filter_map g xs
agree f g [] same = refl
agree f g (x ∷ xs) same =
    let first = same x in
    let rest = agree f g xs same in
    cc

-- ---- a JOIN

-- that a JOIN has been read does not change the casemapping
mapping-kept : (joined : Bool) (s : Support) → (joined_if joined s).casemapping ≡ s.casemapping
mapping-kept true s = refl
mapping-kept false s = refl

-- the channels on which the bot looks at who has joined
watched-joined : (nick user host : List ℕ) (o : Option (List ℕ)) (s : ChanState) (b : Bool)
    → is_same_by (mapping_of s) nick s.nick ≡ b
    → let t = steps (if_given o (λ list. map (Joined nick user host) (channels_in list))) s in
    (if is_same_by (mapping_of t) nick t.nick then [] else guarded_if t o)
    ≡ (if is_same_by (mapping_of s) nick s.nick then [] else guarded_if s o)
watched-joined nick user host None s b is = refl
watched-joined nick user host (Some list) s true own =
    ap (λ (t : ChanState). if is_same_by (mapping_of t) nick t.nick then [] else guarded t list)
    (steps-own nick user host list s own)
    ∙ cond-true _ _ _ (ap (λ (mapping : Casemapping). is_same_by mapping nick s.nick) (mapping-kept (any_named (channels_on s.support list)) s.support) ∙ own)
    ∙ sym (cond-true _ _ _ own)
watched-joined nick user host (Some list) s false other =
    let names = channels_in list in
    let joined = channels_on s.support list in
    let came = came_each (mapping_of s) (unmarked nick user host) joined s.channels in
    ap (λ (t : ChanState). if is_same_by (mapping_of t) nick t.nick then [] else guarded t list)
    (steps-came nick user host list s other)
    ∙ ap (λ (mapping : Casemapping). if is_same_by mapping nick s.nick then []
    else filter_map (λ name. judged mapping s.nick (find (is_named mapping name) came)) names) (mapping-kept (any_named joined) s.support)
    ∙ ap (λ found. if is_same_by (mapping_of s) nick s.nick then [] else found)
    (agree _ (guarded_as s) names (λ name. judged-came (mapping_of s) (unmarked nick user host) s.nick name joined s.channels other))

-- what a JOIN tells of an account changes none of this
abbrev told_if : Bool → List ℕ → List ℕ → List Item
told_if tells nick account = if tells then Told nick (Account account) ∷ [] else []

guarded-told : (nick account : List ℕ) (s : ChanState) (list : List ℕ) → guarded (step (Told nick (Account account)) s) list ≡ guarded s list
guarded-told nick account s list =
    agree (guarded_as (step (Told nick (Account account)) s)) (guarded_as s) (channels_in list)
    (λ name. judged-told (mapping_of s) nick (Account account) s.nick name s.channels)

watched-told : (tells : Bool) (nick account : List ℕ) (s : ChanState) (list : List ℕ)
    → let t = each_step (told_if tells nick account) s in
    (if is_same_by (mapping_of t) nick t.nick then [] else guarded t list)
    ≡ (if is_same_by (mapping_of s) nick s.nick then [] else guarded s list)
watched-told true nick account s list = ap (λ found. if is_same_by (mapping_of s) nick s.nick then [] else found) (guarded-told nick account s list)
watched-told false nick account s list = refl

mapping-told : (tells : Bool) (nick account : List ℕ) (s : ChanState) → mapping_of (each_step (told_if tells nick account) s) ≡ mapping_of s
mapping-told true nick account s = refl
mapping-told false nick account s = refl

watched-as : (nick user host : List ℕ) (o p : Option (List ℕ)) (s : ChanState)
    → let t = steps (if_given o (λ list. joined_as nick user host list p)) s in
    (if is_same_by (mapping_of t) nick t.nick then [] else guarded_if t o)
    ≡ (if is_same_by (mapping_of s) nick s.nick then [] else guarded_if s o)
watched-as nick user host None p s = refl
watched-as nick user host (Some list) None s = watched-joined nick user host (Some list) s (is_same_by (mapping_of s) nick s.nick) refl
watched-as nick user host (Some list) (Some text) s =
    let joins = map (Joined nick user host) (channels_in list) in
    let account = account_but (codes "*") text in
    ap (λ (t : ChanState). if is_same_by (mapping_of t) nick t.nick then [] else guarded t list)
    (steps-append joins (ToldAtJoin nick account ∷ []) s)
    ∙ watched-told (steps joins s).support.joins_tell nick account (steps joins s) list
    ∙ watched-joined nick user host (Some list) s (is_same_by (mapping_of s) nick s.nick) refl

pub watched-after : (who : Source) (params : List (List ℕ)) (s : ChanState)
    → watched who params (steps (join_items who params) s) ≡ watched who params s
watched-after Nobody params s = refl
watched-after (Server name) params s = refl
watched-after (Person nick user host) params s = watched-as nick user host (slice_get params 0) (slice_get params 1) s

-- the casemapping stays at a JOIN
mapping-joined : (nick user host : List ℕ) (o : Option (List ℕ)) (s : ChanState) (b : Bool)
    → is_same_by (mapping_of s) nick s.nick ≡ b
    → mapping_of (steps (if_given o (λ list. map (Joined nick user host) (channels_in list))) s) ≡ mapping_of s
mapping-joined nick user host None s b is = refl
mapping-joined nick user host (Some list) s true own =
    ap mapping_of (steps-own nick user host list s own) ∙ mapping-kept (any_named (channels_on s.support list)) s.support
mapping-joined nick user host (Some list) s false other =
    ap mapping_of (steps-came nick user host list s other) ∙ mapping-kept (any_named (channels_on s.support list)) s.support

mapping-as : (nick user host : List ℕ) (o p : Option (List ℕ)) (s : ChanState)
    → mapping_of (steps (if_given o (λ list. joined_as nick user host list p)) s) ≡ mapping_of s
mapping-as nick user host None p s = refl
mapping-as nick user host (Some list) None s = mapping-joined nick user host (Some list) s (is_same_by (mapping_of s) nick s.nick) refl
mapping-as nick user host (Some list) (Some text) s =
    let joins = map (Joined nick user host) (channels_in list) in
    let account = account_but (codes "*") text in
    ap mapping_of (steps-append joins (ToldAtJoin nick account ∷ []) s)
    ∙ mapping-told (steps joins s).support.joins_tell nick account (steps joins s)
    ∙ mapping-joined nick user host (Some list) s (is_same_by (mapping_of s) nick s.nick) refl

pub mapping-after : (who : Source) (params : List (List ℕ)) (s : ChanState)
    → mapping_of (steps (join_items who params) s) ≡ mapping_of s
mapping-after Nobody params s = refl
mapping-after (Server name) params s = refl
mapping-after (Person nick user host) params s = mapping-as nick user host (slice_get params 0) (slice_get params 1) s
