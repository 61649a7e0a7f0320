-- What is told of a nick on every channel.
use Rattle.std.proofs.Common.{◌≡◌, ℕ, suc, ◌≤◌, ◌+◌, Bool, true, false, cond, ◌||◌, ◌&&◌, None, Some, List, [], ◌∷◌, ◌++◌, length, map, filter}
use Rattle.std.proofs.Common.{refl, sym, ap, subst, eqb, ◌∙◌, arith}
use Rattle.std.specs.Prelude.{find}
use Rattle.std.specs.List.{list_any, slice_split}
use Rattle.std.proofs.lemmas.List.{length-append, length-map}
use Rattle.std.proofs.lemmas.List.Folds.{list_any-append}
use Rattle.std.proofs.lemmas.List.Elements.{filter-append}
use Rattle.rfccase.specs.Channels.{is_channel_name}
use Rattle.rfccase.specs.Casemapping.{is_same_by}
use Rattle.rfccase.specs.declared.casemappings.Casemapping.{Casemapping}
use Rattle.chanstate.specs.declared.member.Member.{Member}
use Rattle.chanstate.specs.declared.channel.Channel.{Channel}
use Rattle.chanstate.specs.declared.state.ChanState.{ChanState}
use Rattle.chanstate.specs.declared.support.Support.{Support}
use Rattle.chanstate.specs.declared.detail.Detail.{Detail}
use Rattle.chanstate.specs.declared.detail.Detail.TheVariants.{Account, Address}
use Rattle.chanstate.specs.declared.telling.Telling.{Telling}
use Rattle.chanstate.specs.Announced.{is_typed, with_join}
use Rattle.chanstate.specs.Channels.{is_named, opened, with_members, on_channel, put_last, all_told}
use Rattle.chanstate.specs.Firsts.{first_changed, first_removed}
use Rattle.chanstate.specs.Members.{is_called, unmarked, arrived, with_detail}
use Rattle.chanstate.specs.Items.{Item, Joined, Told, ToldAtJoin, Addressed, any_named, channels_in, channels_on}
use Rattle.chanstate.specs.Memory.{adds, any_adds, join_adds, retells, tells, readdresses}
use Rattle.chanstate.specs.Plans.{told, joined_if}
use Rattle.chanstate.specs.Seen.{who_seen}
use Rattle.chanstate.specs.Steps.{step, each_step, steps}
use Rattle.chanstate.specs.Takes.{on_place}
use Rattle.chanstate.specs.Tellings.{told_on, told_each}
use Rattle.chanstate.specs.Views.{mapping_of, member_in}
use Rattle.chanstate.proofs.BoolLemmas.{or-parts, or-left}
use Rattle.chanstate.proofs.KeptLemmas.{same_text, readdressed, first_changed-kept, same_address, joins_none, adds-none, any_adds-joins}
use Rattle.chanstate.proofs.StepLemmas.{steps-append}
use Rattle.chanstate.proofs.TypedLemmas.{one_support}

-- ---- one detail after the other

-- the last one first
pub told_each-end : (mapping : Casemapping) (nick : List ℕ) (ds : List Detail) (d : Detail) (cs : List Channel)
    → told_each mapping nick ds (on_place (length ds) (first_changed (is_called mapping nick) (with_detail d)) cs)
    ≡ told_each mapping nick (ds ++ d ∷ []) cs
told_each-end mapping nick [] d [] = refl
told_each-end mapping nick [] d (c ∷ cs) = refl
told_each-end mapping nick (e ∷ es) d [] = refl
told_each-end mapping nick (e ∷ es) d (c ∷ cs) = ap (λ z. told_on mapping nick e c ∷ z) (told_each-end mapping nick es d cs)

-- ---- enough copies

abbrev pub AllSame : Detail → List Detail → Type 0
AllSame d [] = Unit {0}
AllSame d (e ∷ es) = (e ≡ d) × AllSame d es

same-copies : {X : Type 0} (d : Detail) (xs : List X) → AllSame d (map (λ _. d) xs)
same-copies d [] = tt
same-copies d (x ∷ xs) = (refl, same-copies d xs)

same-more : (d : Detail) (ds es : List Detail) → AllSame d ds → AllSame d es → AllSame d (ds ++ es)
same-more d [] es one two = two
same-more d (x ∷ ds) es one two = (one.0, same-more d ds es one.1 two)

enough : (mapping : Casemapping) (nick : List ℕ) (d : Detail) (ds : List Detail) (cs : List Channel) → AllSame d ds → length cs ≤ length ds
    → told_each mapping nick ds cs ≡ all_told mapping nick d cs
enough mapping nick d [] [] same long = refl
enough mapping nick d (e ∷ es) [] same long = refl
enough mapping nick d [] (c ∷ cs) same long = absurd (let long : suc (length cs) ≤ 0 = long in omega arith)
enough mapping nick d (e ∷ es) (c ∷ cs) same long =
    let long : suc (length cs) ≤ suc (length es) = long in
    ap (λ x. told_on mapping nick x c ∷ told_each mapping nick es cs) same.0
    ∙ ap (λ z. told_on mapping nick d c ∷ z) (enough mapping nick d es cs same.1 (omega arith))

told-step : (t : Telling) (nick : List ℕ) (d : Detail) (s : ChanState) → t.nick ≡ nick → AllSame d t.details.items
    → length s.channels ≤ length t.details.items → told (Some t) s ≡ step (Told nick d) s
told-step t nick d s named same long =
    ap (λ cs. record s { channels = cs })
    (ap (λ n. told_each (mapping_of s) n t.details.items s.channels) named ∙ enough (mapping_of s) nick d t.details.items s.channels same long)

-- a copy for each channel
pub told-each : (t : Telling) (nick : List ℕ) (d : Detail) (cs : List Channel) (s : ChanState) → t.nick ≡ nick → t.details.items ≡ map (λ _. d) cs
    → length s.channels ≡ length cs → told (Some t) s ≡ step (Told nick d) s
told-each t nick d cs s named copies same =
    let long = ap length copies in
    let mapped = length-map cs (λ _. d) in
    told-step t nick d s named (subst (AllSame d) (sym copies) (same-copies d cs)) (omega (arith, long, mapped, same))

-- ---- nothing new

retold : (d : Detail) (m : Member) → retells d (Some m) ≡ false → with_detail d m ≡ m
retold (Account account) m same = ap (λ x. record m { account = x }) (same_text m.account account same)
retold (Address user host) m same = readdressed user host m same

all_told_there : (mapping : Casemapping) (nick : List ℕ) (d : Detail) (cs : List Channel)
    → list_any (λ c. retells d (find (is_called mapping nick) c.members)) cs ≡ false → all_told mapping nick d cs ≡ cs
all_told_there mapping nick d [] none = refl
all_told_there mapping nick d (c ∷ cs) none =
    let parts = or-parts (retells d (find (is_called mapping nick) c.members)) (list_any (λ c. retells d (find (is_called mapping nick) c.members)) cs) none in
    let kept = first_changed-kept (is_called mapping nick) (with_detail d) c.members (λ m found. retold d m (ap (retells d) (sym found) ∙ parts.0)) in
    ap (λ ms. record c { members = ms } ∷ all_told mapping nick d cs) kept
    ∙ ap (λ ds. c ∷ ds) (all_told_there mapping nick d cs parts.1)

pub same_told : (nick : List ℕ) (d : Detail) (s : ChanState) → tells nick d s ≡ false → step (Told nick d) s ≡ s
same_told nick d s none = ap (λ cs. record s { channels = cs }) (all_told_there (mapping_of s) nick d s.channels none)

-- ---- an answer to WHO

len-changed : {X : Type 0} (p : X → Bool) (f : X → X) (xs : List X) → length (first_changed p f xs) ≡ length xs
len-changed p f [] = refl
len-changed p f (x ∷ xs) = by (p x) (len-changed p f xs)
  where
    by : (b : Bool) → length (first_changed p f xs) ≡ length xs → length (cond b (f x ∷ xs) (x ∷ first_changed p f xs)) ≡ suc (length xs)
    by true rest = refl
    by false rest = ap suc rest

pub told-who : (t : Telling) (channel user host nick account : List ℕ) (s : ChanState) → t.nick ≡ nick
    → t.details.items ≡ map (λ _. Account account) s.channels
    → told (Some t) (step (Addressed channel nick user host) s) ≡ steps (who_seen channel user host nick account) s
told-who t channel user host nick account s named copies =
    told-each t nick (Account account) s.channels (step (Addressed channel nick user host) s) named copies
    (len-changed (is_named (mapping_of s) channel) _ s.channels)

pub same_who : (channel user host nick account : List ℕ) (s : ChanState) → any_adds (who_seen channel user host nick account) s ≡ false
    → steps (who_seen channel user host nick account) s ≡ s
same_who channel user host nick account s none =
    let parts = or-parts (readdresses user host (member_in channel nick s)) (any_adds (Told nick (Account account) ∷ []) s) none in
    ap (λ cs. step (Told nick (Account account)) (record s { channels = cs })) (same_address channel nick user host s parts.0)
    ∙ same_told nick (Account account) s (adds-none (Told nick (Account account)) s parts.1)

-- ---- what a JOIN tells

-- the channels of a list, of which there are no more than pieces
len-filter : {X : Type 0} (p : X → Bool) (xs : List X) → length (filter p xs) ≤ length xs
len-filter p [] = omega arith
len-filter p (x ∷ xs) = by (p x) (len-filter p xs)
  where
    by : (b : Bool) → length (filter p xs) ≤ length xs → length (cond b (x ∷ filter p xs) (filter p xs)) ≤ suc (length xs)
    by true rest = omega (arith, rest)
    by false rest = omega (arith, rest)

len-removed : {X : Type 0} (p : X → Bool) (xs : List X) → length (first_removed p xs) ≤ length xs
len-removed p [] = omega arith
len-removed p (x ∷ xs) = by (p x) (len-removed p xs)
  where
    by : (b : Bool) → length (first_removed p xs) ≤ length xs → length (cond b xs (x ∷ first_removed p xs)) ≤ suc (length xs)
    by true rest = omega arith
    by false rest = omega (arith, rest)

len-join : (nick user host n : List ℕ) (s : ChanState) → length (step (Joined nick user host n) s).channels ≤ suc (length s.channels)
len-join nick user host n s = by (is_same_by (mapping_of s) nick s.nick)
  where
    one : Channel
    one = opened n (unmarked nick user host)

    put : ChanState
    put = record s { channels = put_last (mapping_of s) one s.channels; support = with_join s.support }

    come : ChanState
    come = record s {
      channels = on_channel (mapping_of s) n (arrived (mapping_of s) (unmarked nick user host)) s.channels;
      support = with_join s.support;
    }

    by : (b : Bool) → length (cond b put come).channels ≤ suc (length s.channels)
    by true =
        let fewer = len-removed (is_named (mapping_of s) n) s.channels in
        let more = length-append (first_removed (is_named (mapping_of s) n) s.channels) (one ∷ []) in
        omega (arith, fewer, more)
    by false =
        let same = len-changed (is_named (mapping_of s) n) (with_members (arrived (mapping_of s) (unmarked nick user host))) s.channels in
        omega (arith, same)

-- after joins there are at most so many channels, and whether JOINs tell accounts stays
record After (s : ChanState) (n : ℕ) (next : ChanState) : Type 0 where
  long : length next.channels ≤ length s.channels + n
  tells : next.support.joins_tell ≡ s.support.joins_tell

after-joins : (nick user host : List ℕ) (names : List (List ℕ)) (s : ChanState) → After s (length names) (steps (map (Joined nick user host) names) s)
after-joins nick user host [] s = record { long = omega arith; tells = refl }
after-joins nick user host (n ∷ ns) s =
    by (is_typed s.support n) (after-joins nick user host ns (step (Joined nick user host n) s)) (after-joins nick user host ns s)
  where
    next : ChanState
    next = step (Joined nick user host n) s

    left : List Item
    left = map (Joined nick user host) ns

    by : (b : Bool) → After next (length ns) (steps left next) → After s (length ns) (steps left s)
        → After s (suc (length ns)) (steps left (each_step (cond b (Joined nick user host n ∷ []) []) s))
    by true rest other =
        let one = len-join nick user host n s in
        let long = rest.long in
        record {
          long = omega (arith, one, long);
          tells = rest.tells ∙ ap (λ (sup : Support). sup.joins_tell) (one_support (is_same_by (mapping_of s) nick s.nick) _ _ refl);
        }
    by false other rest =
        let long = rest.long in
        record { long = omega (arith, long); tells = rest.tells }

-- what a JOIN tells is read
read_at_join : (nick account : List ℕ) (b : Bool) (s : ChanState) → s.support.joins_tell ≡ b
    → steps (ToldAtJoin nick account ∷ []) s ≡ each_step (cond b (Told nick (Account account) ∷ []) []) s
read_at_join nick account b s is = ap (λ k. each_step (cond k (Told nick (Account account) ∷ []) []) s) is

abbrev pub joins_as : List ℕ → List ℕ → List ℕ → List ℕ → List ℕ → List Item
joins_as nick user host list account = map (Joined nick user host) (channels_in list) ++ ToldAtJoin nick account ∷ []

as-read : (nick user host list account : List ℕ) (b : Bool) (s : ChanState) → s.support.joins_tell ≡ b
    → steps (joins_as nick user host list account) s
    ≡ each_step (cond b (Told nick (Account account) ∷ []) []) (steps (map (Joined nick user host) (channels_in list)) s)
as-read nick user host list account b s is =
    let next = steps (map (Joined nick user host) (channels_in list)) s in
    let after = after-joins nick user host (channels_in list) s in
    steps-append (map (Joined nick user host) (channels_in list)) (ToldAtJoin nick account ∷ []) s
    ∙ read_at_join nick account b next (after.tells ∙ is)

-- no JOIN tells the account
pub untold-join : (nick user host list account : List ℕ) (s : ChanState) → s.support.joins_tell ≡ false
    → told None (steps (map (Joined nick user host) (channels_in list)) s) ≡ steps (joins_as nick user host list account) s
untold-join nick user host list account s off = sym (as-read nick user host list account false s off)

-- the account is told once for each channel and each piece
pub told-join : (t : Telling) (nick user host list account : List ℕ) (s : ChanState) → s.support.joins_tell ≡ true → t.nick ≡ nick
    → t.details.items ≡ map (λ _. Account account) s.channels ++ map (λ _. Account account) (slice_split (λ b. eqb b 44) list)
    → told (Some t) (steps (map (Joined nick user host) (channels_in list)) s) ≡ steps (joins_as nick user host list account) s
told-join t nick user host list account s on named copies =
    let d : Detail = Account account in
    let pieces = slice_split (λ b. eqb b 44) list in
    let next = steps (map (Joined nick user host) (channels_in list)) s in
    let after = after-joins nick user host (channels_in list) s in
    let long = after.long in
    let named_ones = len-filter is_channel_name pieces in
    let all = ap length copies in
    let both = length-append (map (λ (_ : Channel). d) s.channels) (map (λ (_ : List ℕ). d) pieces) in
    let first = length-map s.channels (λ (_ : Channel). d) in
    let second = length-map pieces (λ (_ : List ℕ). d) in
    told-step t nick d next named (subst (AllSame d) (sym copies) (same-more d _ _ (same-copies d s.channels) (same-copies d pieces)))
    (omega (arith, long, named_ones, all, both, first, second))
    ∙ sym (as-read nick user host list account true s on)

-- nothing new is told
quiet_by : (nick account : List ℕ) (k : Bool) (s : ChanState) → (k && tells nick (Account account) s) ≡ false
    → each_step (cond k (Told nick (Account account) ∷ []) []) s ≡ s
quiet_by nick account true s none = same_told nick (Account account) s none
quiet_by nick account false s none = refl

quiet : (nick account : List ℕ) (b : Bool) (s : ChanState) → (s.support.joins_tell && tells nick (Account account) s) ≡ false
    → steps (ToldAtJoin nick account ∷ []) (record s { support = joined_if b s.support }) ≡ record s { support = joined_if b s.support }
quiet nick account true s none = quiet_by nick account s.support.joins_tell (record s { support = with_join s.support }) none
quiet nick account false s none = quiet_by nick account s.support.joins_tell s none

pub joined_quietly : (nick user host list account : List ℕ) (s : ChanState) → any_adds (joins_as nick user host list account) s ≡ false
    → steps (joins_as nick user host list account) s ≡ record s { support = joined_if (any_named (channels_on s.support list)) s.support }
joined_quietly nick user host list account s none =
    let joins = map (Joined nick user host) (channels_in list) in
    let parts = or-parts (any_adds joins s) (any_adds (ToldAtJoin nick account ∷ []) s)
    (sym (list_any-append (λ item. adds item s) joins (ToldAtJoin nick account ∷ [])) ∙ none) in
    steps-append joins (ToldAtJoin nick account ∷ []) s
    ∙ ap (steps (ToldAtJoin nick account ∷ [])) (joins_none nick user host list s parts.0)
    ∙ quiet nick account (any_named (channels_on s.support list)) s (adds-none (ToldAtJoin nick account) s parts.1)

-- whether there may be something new
news_is : (a b k : Bool) → (a || b) ≡ false → (b || ((k && a) || false)) ≡ false
news_is true b k none = cc
news_is false true k none = cc
news_is false false true none = refl
news_is false false false none = refl

some_news : (a b : Bool) → (a || b) ≡ true → (b || ((true && a) || false)) ≡ true
some_news true true some = refl
some_news true false some = refl
some_news false true some = refl
some_news false false some = cc

adds-as : (nick user host list account : List ℕ) (s : ChanState)
    → any_adds (joins_as nick user host list account) s
    ≡ (list_any (λ name. join_adds nick name s) (channels_on s.support list) || ((s.support.joins_tell && tells nick (Account account) s) || false))
adds-as nick user host list account s =
    list_any-append (λ item. adds item s) (map (Joined nick user host) (channels_in list)) (ToldAtJoin nick account ∷ [])
    ∙ ap (λ b. b || ((s.support.joins_tell && tells nick (Account account) s) || false)) (any_adds-joins nick user host list s)

pub same-join : (nick user host list account : List ℕ) (s : ChanState)
    → (tells nick (Account account) s || list_any (λ name. join_adds nick name s) (channels_on s.support list)) ≡ false
    → told None (steps (map (Joined nick user host) (channels_in list)) s) ≡ steps (joins_as nick user host list account) s
same-join nick user host list account s none =
    let parts = or-parts (tells nick (Account account) s) (list_any (λ name. join_adds nick name s) (channels_on s.support list)) none in
    let all = adds-as nick user host list account s
    ∙ news_is (tells nick (Account account) s) (list_any (λ name. join_adds nick name s) (channels_on s.support list)) s.support.joins_tell none in
    joins_none nick user host list s (any_adds-joins nick user host list s ∙ parts.1) ∙ sym (joined_quietly nick user host list account s all)

pub news-join : (nick user host list account : List ℕ) (s : ChanState) → s.support.joins_tell ≡ true
    → (tells nick (Account account) s || list_any (λ name. join_adds nick name s) (channels_on s.support list)) ≡ true
    → any_adds (joins_as nick user host list account) s ≡ true
news-join nick user host list account s on some =
    adds-as nick user host list account s
    ∙ ap (λ k. list_any (λ name. join_adds nick name s) (channels_on s.support list) || ((k && tells nick (Account account) s) || false)) on
    ∙ some_news (tells nick (Account account) s) (list_any (λ name. join_adds nick name s) (channels_on s.support list)) some

pub joins-first : (nick user host list account : List ℕ) (s : ChanState) → any_adds (map (Joined nick user host) (channels_in list)) s ≡ true
    → any_adds (joins_as nick user host list account) s ≡ true
joins-first nick user host list account s some =
    list_any-append (λ item. adds item s) (map (Joined nick user host) (channels_in list)) (ToldAtJoin nick account ∷ [])
    ∙ or-left (any_adds (map (Joined nick user host) (channels_in list)) s) (any_adds (ToldAtJoin nick account ∷ []) s) some

-- one more piece of a list that brings nothing
pub piece_none : (p q : List ℕ → Bool) (xs : List (List ℕ)) (x : List ℕ) → list_any q (filter p xs) ≡ false → (p x && q x) ≡ false
    → list_any q (filter p (xs ++ x ∷ [])) ≡ false
piece_none p q xs x none fails =
    ap (list_any q) (filter-append p xs (x ∷ [])) ∙ list_any-append q (filter p xs) (filter p (x ∷ []))
    ∙ ap (λ b. b || list_any q (filter p (x ∷ []))) none ∙ by (p x) fails
  where
    alone : (b : Bool) → b ≡ false → (b || false) ≡ false
    alone true is = cc
    alone false is = refl

    by : (a : Bool) → (a && q x) ≡ false → list_any q (cond a (x ∷ []) []) ≡ false
    by true is = alone (q x) is
    by false is = refl

pub and-parts : (a b : Bool) → (a && b) ≡ true → (a ≡ true) × (b ≡ true)
and-parts true b is = (refl, is)
and-parts false b is = cc
