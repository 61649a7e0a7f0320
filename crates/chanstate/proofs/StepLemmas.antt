-- The state after several items, one after the other.
use Rattle.std.proofs.Common.{◌≡◌, ℕ, ◌<◌, ◌+◌, Bool, true, false, cond, Option, List, [], ◌∷◌, ◌++◌, length, get_or, drop, map, refl, sym, ap, ◌∙◌}
use Rattle.std.specs.List.{filter_map, cons_option}
use Rattle.std.specs.Option.{option_to_list}
use Rattle.std.proofs.Common.{None, Some, filter, append_assoc, append-nil, arith}
use Rattle.std.proofs.lemmas.List.{map-append, at_drop_more}
use Rattle.std.proofs.lemmas.List.Elements.{filter-append}
use Rattle.std.proofs.lemmas.Bool.Decides.{nat_tests}
use Rattle.std.proofs.lemmas.Bool.{cond-true, cond-false}
use Rattle.chanstate.specs.declared.member.Member.{Member}
use Rattle.chanstate.specs.declared.state.ChanState.{ChanState}
use Rattle.chanstate.specs.Firsts.{first_changed}
use Rattle.chanstate.specs.Members.{listed, listed_each}
use Rattle.chanstate.specs.Channels.{is_named, with_members, on_channel}
use Rattle.chanstate.specs.declared.member.Mark.{Mark}
use Rattle.chanstate.specs.declared.support.Support.{Support}
use Rattle.chanstate.specs.Announced.{is_in}
use Rattle.chanstate.specs.Items.{Item, Listed, Single, marking, markings, mark_of, rank_of, is_letter, single_at, singles, sign_after, argument_of}
use Rattle.chanstate.specs.Items.{arguments_after, read_by}
use Rattle.chanstate.specs.Steps.{step, each_step, steps}
use Rattle.chanstate.specs.Views.{mapping_of}

each_step-append : (xs ys : List Item) (s : ChanState) → each_step (xs ++ ys) s ≡ each_step ys (each_step xs s)
each_step-append [] ys s = refl
each_step-append (x ∷ xs) ys s = each_step-append xs ys (step x s)

pub steps-append : (xs ys : List Item) (s : ChanState) → steps (xs ++ ys) s ≡ steps ys (steps xs s)
steps-append [] ys s = refl
steps-append (x ∷ xs) ys s = steps-append xs ys (each_step (read_by s.support x) s)

-- what each of a list stands for, read through a view of it
pub map-by : {X Y Z : Type 0} (g : Y → Z) (v : X → Y) (xs : List X) → map (λ x. g (v x)) xs ≡ map g (map v xs)
map-by g v [] = refl
map-by g v (x ∷ xs) = ap (λ rest. g (v x) ∷ rest) (map-by g v xs)

pub filter_map-by : {X Y Z : Type 0} (h : Y → Option Z) (v : X → Y) (xs : List X) → filter_map (λ x. h (v x)) xs ≡ filter_map h (map v xs)
filter_map-by h v [] = refl
filter_map-by h v (x ∷ xs) = ap (cons_option (h (v x))) (filter_map-by h v xs)

-- two changes of the same first element are one
twice : {X : Type 0} (p : X → Bool) (f g : X → X) (x : X) (xs : List X) (b : Bool) → p x ≡ b → p (f x) ≡ p x
    → first_changed p g (first_changed p f xs) ≡ first_changed p (λ y. g (f y)) xs →
    first_changed p g (cond b (f x ∷ xs) (x ∷ first_changed p f xs)) ≡ cond b (g (f x) ∷ xs) (x ∷ first_changed p (λ y. g (f y)) xs)
twice p f g x xs true is keeps rest = cond-true (p (f x)) _ _ (keeps ∙ is)
twice p f g x xs false is keeps rest = cond-false (p x) _ _ is ∙ ap (λ ys. x ∷ ys) rest

pub first_changed-twice : {X : Type 0} (p : X → Bool) (f g : X → X) → ((x : X) → p (f x) ≡ p x) → (xs : List X)
    → first_changed p g (first_changed p f xs) ≡ first_changed p (λ x. g (f x)) xs
first_changed-twice p f g keeps [] = refl
first_changed-twice p f g keeps (x ∷ xs) = twice p f g x xs (p x) refl (keeps x) (first_changed-twice p f g keeps xs)

-- a change that changes nothing
same_by : {X : Type 0} (x y : X) (xs ys : List X) (b : Bool) → y ≡ x → ys ≡ xs → cond b (y ∷ xs) (x ∷ ys) ≡ x ∷ xs
same_by x y xs ys true one rest = ap (λ z. z ∷ xs) one
same_by x y xs ys false one rest = ap (λ zs. x ∷ zs) rest

pub first_changed-same : {X : Type 0} (p : X → Bool) (f : X → X) → ((x : X) → f x ≡ x) → (xs : List X) → first_changed p f xs ≡ xs
first_changed-same p f same [] = refl
first_changed-same p f same (x ∷ xs) = same_by x (f x) xs (first_changed p f xs) (p x) (same x) (first_changed-same p f same xs)

-- the names of a listing, one after the other, are one change of the channel's members
pub each_step-listed : (channel : List ℕ) (names : List Member) (s : ChanState)
    → each_step (map (Listed channel) names) s ≡ record s { channels = on_channel (mapping_of s) channel (listed_each (mapping_of s) names) s.channels }
each_step-listed channel [] s = ap (λ cs. record s { channels = cs })
    (sym (first_changed-same (is_named (mapping_of s) channel) (with_members (listed_each (mapping_of s) [])) (λ c. refl) s.channels))
each_step-listed channel (one ∷ more) s =
    each_step-listed channel more (step (Listed channel one) s)
    ∙ ap (λ cs. record s { channels = cs })
    (first_changed-twice (is_named (mapping_of s) channel) (with_members (listed (mapping_of s) one)) (with_members (listed_each (mapping_of s) more)) (λ c. refl) s.channels)

-- one more piece of a list that is cut into pieces, of which some name what an item is about
pub pieces_more : (f : List ℕ → Item) (p : List ℕ → Bool) (xs : List (List ℕ)) (x : List ℕ) (s : ChanState)
    → steps (map f (filter p (x ∷ []))) (steps (map f (filter p xs)) s) ≡ steps (map f (filter p (xs ++ x ∷ []))) s
pieces_more f p xs x s =
    sym (ap (λ ns. steps (map f ns) s) (filter-append p xs (x ∷ [])) ∙ ap (λ items. steps items s) (map-append f (filter p xs) (filter p (x ∷ [])))
    ∙ steps-append (map f (filter p xs)) (map f (filter p (x ∷ []))) s)

-- ---- marks

pub markings-append : (sup : Support) (channel : List ℕ) (xs ys : List Single)
    → markings sup channel (xs ++ ys) ≡ markings sup channel xs ++ markings sup channel ys
markings-append sup channel [] ys = refl
markings-append sup channel (x ∷ xs) ys =
    let one = marking channel x.on x.argument (rank_of sup x.letter) in
    ap (λ rest. one ++ rest) (markings-append sup channel xs ys)
    ∙ sym (append_assoc one (markings sup channel xs) (markings sup channel ys))

-- one more byte of a mode string
pub markings_more : (sup : Support) (channel : List ℕ) (on : Bool) (string : List ℕ) (i d : ℕ) (arguments : List (List ℕ)) (s next : ChanState)
    → i < length string → let b = get_or string i d in
    next ≡ each_step (markings sup channel (option_to_list (single_at sup on b arguments))) s →
    each_step (markings sup channel (singles sup (sign_after on b) (drop (i + 1) string) (arguments_after sup on b arguments))) next
    ≡ each_step (markings sup channel (singles sup on (drop i string) arguments)) s
markings_more sup channel on string i d arguments s next less is =
    let b = get_or string i d in
    let one = option_to_list (single_at sup on b arguments) in
    let rest = singles sup (sign_after on b) (drop (i + 1) string) (arguments_after sup on b arguments) in
    ap (each_step (markings sup channel rest)) is
    ∙ (sym (ap (λ items. each_step items s) (markings-append sup channel one rest)
    ∙ each_step-append (markings sup channel one) (markings sup channel rest) s)
    ∙ sym (at_drop_more (λ bs. each_step (markings sup channel (singles sup on bs arguments)) s) string i d less))

-- the single mode of a byte that stands for a mark
marked_by : (sup : Support) (channel : List ℕ) (on : Bool) (b : ℕ) (arguments : List (List ℕ)) (letter : Bool) (o : Option Mark)
    → rank_of sup b ≡ o → (letter ≡ false → o ≡ None)
    → markings sup channel (option_to_list (cond letter (Some (record { on = on; letter = b; argument = argument_of sup on b arguments })) None))
    ≡ marking channel on (argument_of sup on b arguments) o
marked_by sup channel on b arguments true o is sign = ap (λ w. marking channel on (argument_of sup on b arguments) w ++ []) is
    ∙ append-nil (marking channel on (argument_of sup on b arguments) o)
marked_by sup channel on b arguments false o is sign = ap (marking channel on (argument_of sup on b arguments)) (sym (sign refl))

sign_marks_none : (b : ℕ) → is_letter b ≡ false → mark_of b ≡ None
sign_marks_none b sign = grind (arith, nat_tests)

sign_ranks_none : (sup : Support) (b : ℕ) → is_letter b ≡ false → rank_of sup b ≡ None
sign_ranks_none sup b sign = by (is_in b sup.ranks)
  where
    by : (ranked : Bool) → cond ranked (mark_of b) None ≡ None
    by true = sign_marks_none b sign
    by false = refl

pub marked : (sup : Support) (channel : List ℕ) (on : Bool) (b : ℕ) (arguments : List (List ℕ)) (o : Option Mark) → rank_of sup b ≡ o
    → markings sup channel (option_to_list (single_at sup on b arguments)) ≡ marking channel on (argument_of sup on b arguments) o
marked sup channel on b arguments o is =
    marked_by sup channel on b arguments (is_letter b) o is (λ sign. sym is ∙ sign_ranks_none sup b sign)
