-- Those who come to channels.
use Rattle.std.proofs.Common.{◌≡◌, ◌<◌, ℕ, suc, zero, Bool, true, false, cond, ◌||◌, None, Some, List, [], ◌∷◌, ◌++◌, length, get_or, map, filter, refl, sym, ap, subst}
use Rattle.std.proofs.Common.{◌∙◌, arith}
use Rattle.std.specs.Prelude.{find}
use Rattle.std.specs.List.{list_any}
use Rattle.std.proofs.lemmas.Bool.{cond-true, cond-false}
use Rattle.std.proofs.lemmas.List.Elements.{filter-append}
use Rattle.std.proofs.lemmas.List.Folds.{list_any-append}
use Rattle.chanstate.specs.declared.member.Member.{Member}
use Rattle.chanstate.specs.declared.channel.Channel.{Channel}
use Rattle.chanstate.specs.Firsts.{first_changed}
use Rattle.chanstate.specs.Members.{is_called, has_member, with_address, arrived, unmarked}
use Rattle.chanstate.specs.declared.state.ChanState.{ChanState}
use Rattle.rfccase.specs.Casemapping.{is_same_by}
use Rattle.chanstate.specs.Channels.{is_held, on_channel, opened, put_last, put_each_last}
use Rattle.chanstate.specs.Items.{Joined, any_named, channels_in, channels_on}
use Rattle.chanstate.specs.Announced.{with_join}
use Rattle.chanstate.specs.Plans.{joined_if}
use Rattle.chanstate.specs.Memory.{any_adds, join_adds}
use Rattle.chanstate.specs.Steps.{each_step, steps}
use Rattle.chanstate.specs.Takes.{came_each}
use Rattle.chanstate.proofs.BoolLemmas.{or-left, or-right}
use Rattle.bytetext.proofs.Lists.{find-none}
use Rattle.rfccase.proofs.SameLemmas.{is_same_by-refl}
use Rattle.chanstate.proofs.FindLemmas.{find-end, or_else, or_else-none}
use Rattle.chanstate.proofs.KeptLemmas.{any-kept, any_adds-joins, joined_again, first_changed-kept, some_same}
use Rattle.chanstate.proofs.StepLemmas.{first_changed-twice}
use Rattle.chanstate.proofs.TypedLemmas.{steps-joins}
use Rattle.rfccase.specs.declared.casemappings.Casemapping.{Casemapping}
use Rattle.chanstate.specs.Views.{mapping_of}

-- one who has come is there, and comes with the same address
pub arrived-again : (mapping : Casemapping) (one : Member) (ms : List Member) → arrived mapping one (arrived mapping one ms) ≡ arrived mapping one ms
arrived-again mapping one ms = by (has_member mapping one.nick ms) refl
  where
    p : Member → Bool
    p = is_called mapping one.nick

    f : Member → Member
    f = with_address one.user one.host

    -- where nobody was
    last : (x : Member) → has_member mapping one.nick ms ≡ false → find p (ms ++ one ∷ []) ≡ Some x → f x ≡ x
    last x none found =
        let end : find p (ms ++ one ∷ []) ≡ Some one = find-end p ms one ∙ ap (λ o. or_else o (cond (p one) (Some one) None)) (find-none p ms none)
        ∙ or_else-none _ ∙ cond-true (p one) _ _ (is_same_by-refl mapping one.nick) in
        subst (λ y. f y ≡ y) (some_same (sym end ∙ found)) refl

    by : (b : Bool) → has_member mapping one.nick ms ≡ b → arrived mapping one (arrived mapping one ms) ≡ arrived mapping one ms
    by false is =
        let came : arrived mapping one ms ≡ ms ++ one ∷ [] = cond-false _ _ _ is in
        let there : has_member mapping one.nick (ms ++ one ∷ []) ≡ true =
        list_any-append p ms (one ∷ []) ∙ or-right (list_any p ms) (list_any p (one ∷ [])) (or-left (p one) false (is_same_by-refl mapping one.nick)) in
        ap (arrived mapping one) came ∙ cond-true _ _ _ there ∙ first_changed-kept p f (ms ++ one ∷ []) (λ x found. last x is found) ∙ sym came
    by true is =
        let came : arrived mapping one ms ≡ first_changed p f ms = cond-true _ _ _ is in
        let there : has_member mapping one.nick (first_changed p f ms) ≡ true = any-kept p p f (λ x. refl) ms ∙ is in
        ap (arrived mapping one) came ∙ cond-true _ _ _ there ∙ first_changed-twice p f f (λ x. refl) ms ∙ sym came

came-append : (mapping : Casemapping) (one : Member) (xs ys : List (List ℕ)) (cs : List Channel) → came_each mapping one (xs ++ ys) cs ≡ came_each mapping one ys (came_each mapping one xs cs)
came-append mapping one [] ys cs = refl
came-append mapping one (x ∷ xs) ys cs = came-append mapping one xs ys _

-- one more piece of a list, of which some name channels
pub came_more : (mapping : Casemapping) (one : Member) (p : List ℕ → Bool) (xs : List (List ℕ)) (x : List ℕ) (cs : List Channel)
    → came_each mapping one (filter p (x ∷ [])) (came_each mapping one (filter p xs) cs) ≡ came_each mapping one (filter p (xs ++ x ∷ [])) cs
came_more mapping one p xs x cs =
    sym (ap (λ ns. came_each mapping one ns cs) (filter-append p xs (x ∷ [])) ∙ came-append mapping one (filter p xs) (filter p (x ∷ [])) cs)

-- a piece that passes two tests is among those that pass the first
piece_step : (b : Bool) (q : List ℕ → Bool) (x : List ℕ) (xs : List (List ℕ)) → list_any q xs ≡ true → list_any q (cond b (x ∷ xs) xs) ≡ true
piece_step true q x xs is = or-right (q x) (list_any q xs) is
piece_step false q x xs is = is

pub any-piece : (p q : List ℕ → Bool) (xs : List (List ℕ)) (i : ℕ) (x : List ℕ) → i < length xs → x ≡ get_or xs i x → p x ≡ true → q x ≡ true
    → list_any q (filter p xs) ≡ true
any-piece p q [] i x less at is one = absurd (let less : i < 0 = less in omega arith)
any-piece p q (y ∷ ys) zero x less at is one =
    ap (list_any q) (cond-true _ (y ∷ filter p ys) (filter p ys) (ap p (sym at) ∙ is)) ∙ or-left (q y) (list_any q (filter p ys)) (ap q (sym at) ∙ one)
any-piece p q (y ∷ ys) (suc i) x less at is one =
    let less : suc i < suc (length ys) = less in
    piece_step (p y) q y (filter p ys) (any-piece p q ys i x (omega arith) at is one)

-- ---- the joins of a line

each_step-own : (nick user host : List ℕ) (names : List (List ℕ)) (s : ChanState) → is_same_by (mapping_of s) nick s.nick ≡ true
    → each_step (map (Joined nick user host) names) s
    ≡ record s {
      channels = put_each_last (mapping_of s) (map (λ name. opened name (unmarked nick user host)) names) s.channels;
      support = joined_if (any_named names) s.support;
    }
each_step-own nick user host [] s own = refl
each_step-own nick user host (n ∷ ns) s own =
    let one : Channel = opened n (unmarked nick user host) in
    let all = put_each_last (mapping_of s) (map (λ name. opened name (unmarked nick user host)) (n ∷ ns)) s.channels in
    ap (each_step (map (Joined nick user host) ns)) (cond-true _ _ _ own)
    ∙ (each_step-own nick user host ns (record s { channels = put_last (mapping_of s) one s.channels; support = with_join s.support }) own
    ∙ ap (λ sup. record s { channels = all; support = sup }) (joined_again (any_named ns) s.support))

-- the bot's joins put each of its channels last
pub steps-own : (nick user host list : List ℕ) (s : ChanState) → is_same_by (mapping_of s) nick s.nick ≡ true
    → let names = channels_on s.support list in
    steps (map (Joined nick user host) (channels_in list)) s
    ≡ record s {
      channels = put_each_last (mapping_of s) (map (λ name. opened name (unmarked nick user host)) names) s.channels;
      support = joined_if (any_named names) s.support;
    }
steps-own nick user host list s own =
    steps-joins nick user host list s ∙ each_step-own nick user host (channels_on s.support list) s own

each_step-came : (nick user host : List ℕ) (names : List (List ℕ)) (s : ChanState) → is_same_by (mapping_of s) nick s.nick ≡ false
    → each_step (map (Joined nick user host) names) s
    ≡ record s {
      channels = came_each (mapping_of s) (unmarked nick user host) names s.channels;
      support = joined_if (any_named names) s.support;
    }
each_step-came nick user host [] s other = refl
each_step-came nick user host (n ∷ ns) s other =
    let one : Member = unmarked nick user host in
    let all = came_each (mapping_of s) one (n ∷ ns) s.channels in
    ap (each_step (map (Joined nick user host) ns)) (cond-false _ _ _ other)
    ∙ (each_step-came nick user host ns
    (record s { channels = on_channel (mapping_of s) n (arrived (mapping_of s) one) s.channels; support = with_join s.support }) other
    ∙ ap (λ sup. record s { channels = all; support = sup }) (joined_again (any_named ns) s.support))

-- another's joins are comings
pub steps-came : (nick user host list : List ℕ) (s : ChanState) → is_same_by (mapping_of s) nick s.nick ≡ false
    → let names = channels_on s.support list in
    steps (map (Joined nick user host) (channels_in list)) s
    ≡ record s {
      channels = came_each (mapping_of s) (unmarked nick user host) names s.channels;
      support = joined_if (any_named names) s.support;
    }
steps-came nick user host list s other =
    steps-joins nick user host list s ∙ each_step-came nick user host (channels_on s.support list) s other

-- whether some piece of a list names a channel
pub any_named-some : (p : List ℕ → Bool) (xs : List (List ℕ)) → list_any p xs ≡ any_named (filter p xs)
any_named-some p [] = refl
any_named-some p (x ∷ xs) = by (p x) (any_named-some p xs)
  where
    by : (b : Bool) → list_any p xs ≡ any_named (filter p xs) → (b || list_any p xs) ≡ any_named (cond b (x ∷ filter p xs) (filter p xs))
    by true rest = refl
    by false rest = rest

pub any_named-long : (names : List (List ℕ)) → 0 < length names → any_named names ≡ true
any_named-long [] long = absurd (let long : 0 < 0 = long in omega arith)
any_named-long (name ∷ more) long = refl

some_joined : (nick : List ℕ) (names : List (List ℕ)) (s : ChanState) → list_any (λ name. is_held (mapping_of s) name s.channels) names ≡ true
    → list_any (λ name. join_adds nick name s) names ≡ true
some_joined nick [] s some = some
some_joined nick (n ∷ ns) s some = by (is_held (mapping_of s) n s.channels) refl (some_joined nick ns s)
  where
    here : Bool
    here = is_same_by (mapping_of s) nick s.nick

    rest : Bool
    rest = list_any (λ name. join_adds nick name s) ns

    later : (b : Bool) → b ≡ false → (b || list_any (λ name. is_held (mapping_of s) name s.channels) ns) ≡ true → list_any (λ name. is_held (mapping_of s) name s.channels) ns ≡ true
    later true none is = cc
    later false none is = is

    by : (b : Bool) → is_held (mapping_of s) n s.channels ≡ b → (list_any (λ name. is_held (mapping_of s) name s.channels) ns ≡ true → rest ≡ true)
        → ((here || is_held (mapping_of s) n s.channels) || rest) ≡ true
    by true is further = or-left (here || is_held (mapping_of s) n s.channels) rest (or-right here (is_held (mapping_of s) n s.channels) is)
    by false is further = or-right (here || is_held (mapping_of s) n s.channels) rest (further (later (is_held (mapping_of s) n s.channels) is some))

pub joins_some : (nick user host list : List ℕ) (s : ChanState)
    → list_any (λ name. is_held (mapping_of s) name s.channels) (channels_on s.support list) ≡ true
    → any_adds (map (Joined nick user host) (channels_in list)) s ≡ true
joins_some nick user host list s some = any_adds-joins nick user host list s ∙ some_joined nick (channels_on s.support list) s some
