-- The items of a mask as codes: one more of them, their parts, and their lower cases.
use Rattle.std.proofs.Common.{◌≡◌, ℕ, ◌+◌, ◌-◌, ◌<◌, ◌≤◌, List, [], ◌∷◌, ◌++◌, length, take, drop, map, set, refl, sym, subst, ap, ◌∙◌, arith}
use Rattle.std.specs.Prelude.{cond, true, false}
use Rattle.std.specs.Option.{is_some}
use Rattle.std.specs.List.{fold}
use Rattle.std.proofs.lemmas.List.{map-append, append_assoc, append-nil, take_more_set, drop-take, drop-map}
use Rattle.wildmask.specs.declared.items.Item.{Item}
use Rattle.wildmask.specs.declared.items.Item.TheVariants.{Literal, AnyByte, AnyText, NoSpace, Spaces}
use Rattle.wildmask.specs.Signatures.{lower_literal}
use Rattle.wildmask.specs.Items.{is_literal}
use Rattle.wildmask.specs.Codes.{lower, decoded, items_in}
use Rattle.wildmask.specs.Tails.{bytes_of, end_key, front_len, tail_of}
use Rattle.wildmask.specs.Walks.{AllLower, AllOne}
use Rattle.wildmask.proofs.RunLemmas.{AllLower-left, AllLower-right, items_in-split}
use Rattle.wildmask.proofs.TailLemmas.{AllLiteral, AllOne-literal, last_literals, bytes_of-literals}
use Rattle.rfccase.specs.declared.casemappings.Casemapping.{Casemapping}

pub one_code_more : (mapping : Casemapping) (codes : List ℕ) (len code : ℕ) (item : Item) (rest others all : List Item) → len < length codes → decoded code ≡ lower mapping item
    → rest ≡ item ∷ others → items_in (take len codes) ++ map (lower mapping) rest ≡ all
    → items_in (take (len + 1) (set codes len code)) ++ map (lower mapping) others ≡ all
one_code_more mapping codes len code item rest others all within is first so_far =
    ap (λ xs. items_in xs ++ map (lower mapping) others) (take_more_set codes len code within)
    ∙ ap (λ xs. xs ++ map (lower mapping) others) (map-append decoded (take len codes) (code ∷ []))
    ∙ append_assoc (items_in (take len codes)) (decoded code ∷ []) (map (lower mapping) others)
    ∙ ap (λ i. items_in (take len codes) ++ i ∷ map (lower mapping) others) is
    ∙ ap (λ xs. items_in (take len codes) ++ map (lower mapping) xs) (sym first)
    ∙ so_far

pub no_code_more : (mapping : Casemapping) (codes : List ℕ) (len : ℕ) (rest all : List Item) → rest ≡ [] → items_in (take len codes) ++ map (lower mapping) rest ≡ all
    → items_in (take len codes) ≡ all
no_code_more mapping codes len rest all none so_far = sym (append-nil (items_in (take len codes)))
    ∙ ap (λ xs. items_in (take len codes) ++ map (lower mapping) xs) (sym none) ∙ so_far

-- the codes after the last special item
pub end_is_literal : (codes end : List ℕ) (front : ℕ) → front ≡ front_len (items_in codes) → end ≡ drop front codes → AllLiteral (items_in end)
end_is_literal codes end front is after =
    let whole : items_in end ≡ drop (front_len (items_in codes)) (items_in codes) = ap items_in (after ∙ ap (λ n. drop n codes) is)
    ∙ sym (drop-map decoded (front_len (items_in codes)) codes) in
    subst AllLiteral (sym whole) (last_literals (items_in codes))

pub end_is_one : (codes end : List ℕ) (front : ℕ) → front ≡ front_len (items_in codes) → end ≡ drop front codes → AllOne (items_in end)
end_is_one codes end front is after = AllOne-literal (items_in end) (end_is_literal codes end front is after)

pub parts_are : (codes first end : List ℕ) (front : ℕ) → first ≡ take front codes → end ≡ drop front codes → items_in codes ≡ items_in first ++ items_in end
parts_are codes first end front before after = items_in-split codes front ∙ ap (λ xs. items_in xs ++ items_in (drop front codes)) (sym before)
    ∙ ap (λ xs. items_in first ++ items_in xs) (sym after)

pub first_is_lower : (mapping : Casemapping) (codes first end : List ℕ) (front : ℕ) → first ≡ take front codes → end ≡ drop front codes → AllLower mapping (items_in codes)
    → AllLower mapping (items_in first)
first_is_lower mapping codes first end front before after all =
    AllLower-left mapping (items_in first) (items_in end) (subst (AllLower mapping) (parts_are codes first end front before after) all)

pub end_is_lower : (mapping : Casemapping) (codes first end : List ℕ) (front : ℕ) → first ≡ take front codes → end ≡ drop front codes → AllLower mapping (items_in codes)
    → AllLower mapping (items_in end)
end_is_lower mapping codes first end front before after all =
    AllLower-right mapping (items_in first) (items_in end) (subst (AllLower mapping) (parts_are codes first end front before after) all)

-- the key of the last codes is the tail
pub tail_is : (codes : List ℕ) (len front : ℕ) → front ≤ len → front ≡ front_len (items_in (take len codes))
    → end_key 120 (take (len - front) (drop front codes)) ≡ tail_of (items_in (take len codes))
tail_is codes len front within is =
    let at : front + (len - front) ≡ len = omega arith in
    let end : drop front (take len codes) ≡ take (len - front) (drop front codes) = ap (λ n. drop front (take n codes)) (sym at)
    ∙ drop-take front (len - front) codes in
    let items : drop (front_len (items_in (take len codes))) (items_in (take len codes)) ≡ items_in (drop front (take len codes)) =
    ap (λ n. drop n (items_in (take len codes))) (sym is) ∙ drop-map decoded front (take len codes) in
    let literals : AllLiteral (items_in (drop front (take len codes))) = end_is_literal (take len codes) (drop front (take len codes)) front is refl in
    let bytes : bytes_of (drop (front_len (items_in (take len codes))) (items_in (take len codes))) ≡ take (len - front) (drop front codes) =
    ap bytes_of items ∙ bytes_of-literals (drop front (take len codes)) literals ∙ end in
    ap (λ xs. end_key 16 xs) (sym bytes)

-- ---- literals

-- so many literals, and those of these items
abbrev pub counted_from : ℕ → List Item → ℕ
counted_from n items = fold (λ n item. n + cond (is_literal item) 1 0) n items

is_literal-some : (item : Item) → is_some (lower_literal item) ≡ is_literal item
is_literal-some (Literal b) = refl
is_literal-some AnyByte = refl
is_literal-some AnyText = refl
is_literal-some NoSpace = refl
is_literal-some Spaces = refl

-- a literal counts
pub counted_one : (n : ℕ) (item : Item) (others : List Item) → is_some (lower_literal item) ≡ true → counted_from (n + 1) others ≡ counted_from n (item ∷ others)
counted_one n item others is = ap (λ b. counted_from (n + cond b 1 0) others) (sym is ∙ is_literal-some item)

-- and what is special doesn't
pub counted_none : (n : ℕ) (item : Item) (others : List Item) → is_some (lower_literal item) ≡ false → counted_from n others ≡ counted_from n (item ∷ others)
counted_none n item others is = ap (λ m. counted_from m others) (omega arith) ∙ ap (λ b. counted_from (n + cond b 1 0) others) (sym is ∙ is_literal-some item)
