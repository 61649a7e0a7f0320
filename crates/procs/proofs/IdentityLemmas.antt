-- Which hostmasks find a person by account, and which by nick!user@host.
use Rattle.std.proofs.Common.{◌≡◌, ◌↔◌, ◌⊎◌, inl, inr, ℕ, zero, suc, ◌+◌, ◌≤◌, nat_lt, nat_le, Bool, true, false, not, ◌&&◌, ◌||◌, ◌==◌, cond, if◌then◌else◌, List, [], ◌∷◌, ◌++◌}
use Rattle.std.proofs.Common.{length, map, filter, take, drop, Option, Some, None, refl, sym, ap, subst, ◌∙◌, arith, ne_eqb, true≢false, eqb-true, eq-eqb}
use Rattle.std.specs.Prelude.{codes}
use Rattle.std.specs.Bool.{Decides}
use Rattle.std.specs.Cmp.Lexicographic.{bytes_decides}
use Rattle.std.specs.List.{list_any, list_all, after_first, position_or_len, starts_with}
use Rattle.std.specs.Option.{is_none, option_map}
use Rattle.std.specs.Str.{bytes_eq}
use Rattle.std.proofs.lemmas.Bool.{and_parts, or_parts, or_right, false_from_ne_true}
use Rattle.std.proofs.lemmas.Bool.Decides.{nat_tests}
use Rattle.std.proofs.lemmas.List.{map-append}
use Rattle.rfccase.specs.Casemapping.{low_by, folded_by, IsSameBy}
use Rattle.rfccase.specs.declared.casemappings.Casemapping.{Casemapping}
use Rattle.rfccase.specs.declared.casemappings.Casemapping.TheVariants.{Ascii, StrictRfc1459, Rfc1459}
use Rattle.wildmask.specs.declared.items.Item.{Item}
use Rattle.wildmask.specs.declared.items.Item.TheVariants.{Literal, AnyByte, AnyText, NoSpace, Spaces}
use Rattle.wildmask.specs.declared.items.MaskKind.TheVariants.{Host}
use Rattle.wildmask.specs.Items.{item_of, items_of, is_special}
use Rattle.wildmask.specs.Matching.{Takes, Matches}
use Rattle.wildmask.specs.Masks.{host_mask, host_fault, is_match_by, is_person_mask, is_account_mask, is_account_byte, is_hostmask as is_any_hostmask}
use Rattle.wildmask.specs.declared.faults.MaskFault.TheVariants.{MaskEmpty, MaskTooLong, NotAHostmask}
use Rattle.wildmask.proofs.TestLemmas.{is_match_by-Decides}
use Rattle.userfile.specs.declared.user.User.{User}
use Rattle.userfile.specs.Hostmasks.{is_match, literals}
use Rattle.userfile.specs.Persons.{Claim, claim, claims_of, claims, is_most, decider, handle_or_star, handle_of}
use Rattle.userfile.specs.Shapes.{is_hostmask, is_person}
use Rattle.procs.specs.declared.limits.TheConstants.{MAX_ACCOUNT}
use Rattle.procs.specs.Identity.{account_claim, is_account, is_known_account, claim_by, handle_by, has_bang, with_less, without}

-- ---- bytes

-- the ! is the lower case of itself alone
bang-low : (mapping : Casemapping) → low_by mapping 33 ≡ 33
bang-low Ascii = refl
bang-low StrictRfc1459 = refl
bang-low Rfc1459 = refl

bang-alone : (mapping : Casemapping) (b : ℕ) → low_by mapping b ≡ 33 → b ≡ 33
bang-alone Ascii b h = grind (arith, nat_tests)
bang-alone StrictRfc1459 b h = grind (arith, nat_tests)
bang-alone Rfc1459 b h = grind (arith, nat_tests)

has_bang-drop : (n : ℕ) (text : List ℕ) → has_bang (drop n text) ≡ true → has_bang text ≡ true
has_bang-drop zero text h = h
has_bang-drop (suc n) [] h = h
has_bang-drop (suc n) (x ∷ text) h = or_right (x == 33) (has_bang text) (has_bang-drop n text h)

-- ---- what finds no nick!user@host

-- each item is a literal, and none is the !
abbrev ArePlain : List Item → Type 0
ArePlain [] = Unit {0}
ArePlain (Literal b ∷ items) = ((b == 33) ≡ false) × ArePlain items
ArePlain (AnyByte ∷ items) = ⊥
ArePlain (AnyText ∷ items) = ⊥
ArePlain (NoSpace ∷ items) = ⊥
ArePlain (Spaces ∷ items) = ⊥

plain-match : (mapping : Casemapping) (items : List Item) (text : List ℕ) → ArePlain items → Matches mapping items text → has_bang text ≡ false
plain-match mapping [] text plain m = ap has_bang m
plain-match mapping (Literal b ∷ items) text plain m = by m.0 text m.1.0 m.1.1 (plain-match mapping items (drop m.0 text) plain.1 m.1.2)
  where
    other : (x : ℕ) → low_by mapping x ≡ low_by mapping b → (x == 33) ≡ false
    other x same = ne_eqb x 33 (λ e. true≢false
        (sym (eq-eqb b 33 (bang-alone mapping b (sym same ∙ ap (low_by mapping) e ∙ bang-low mapping))) ∙ plain.0))

    by : (cut : ℕ) (text : List ℕ) → cut ≤ length text → Takes mapping (Literal b) (take cut text) → has_bang (drop cut text) ≡ false
        → has_bang text ≡ false
    by zero text within taken rest = rest
    by (suc zero) [] within taken rest = absurd (omega arith)
    by (suc zero) (x ∷ text) within taken rest =
        let same : low_by mapping x ≡ low_by mapping b = cc in ap (λ t. t || has_bang text) (other x same) ∙ rest
    by (suc (suc k)) [] within taken rest = absurd (omega arith)
    by (suc (suc k)) (x ∷ []) within taken rest = absurd (omega arith)
    by (suc (suc k)) (x ∷ y ∷ text) within taken rest = cc
plain-match mapping (AnyByte ∷ items) text plain m = absurd plain
plain-match mapping (AnyText ∷ items) text plain m = absurd plain
plain-match mapping (NoSpace ∷ items) text plain m = absurd plain
plain-match mapping (Spaces ∷ items) text plain m = absurd plain

-- a byte that is a literal in a hostmask, and not the !
abbrev is_plain : ℕ → Bool
is_plain b = not (b == 33) && (not (b == 42) && not (b == 63))

plain-item : (b : ℕ) → is_plain b ≡ true → (item_of Host b ≡ Literal b) × ((b == 33) ≡ false)
plain-item b = by (b == 33) (b == 42) (b == 63) (b == 37) (b == 126)
  where
    by : (bang star question percent tilde : Bool) → (not bang && (not star && not question)) ≡ true
        → ((if question then AnyByte else
        (if star then AnyText else (if percent && false then NoSpace else (if tilde && false then Spaces else Literal b)))) ≡ Literal b)
        × (bang ≡ false)
    by true star question percent tilde h = cc
    by false true question percent tilde h = cc
    by false false true percent tilde h = cc
    by false false false true true h = (refl, refl)
    by false false false true false h = (refl, refl)
    by false false false false true h = (refl, refl)
    by false false false false false h = (refl, refl)

plain-items : (mask : List ℕ) → list_all is_plain mask ≡ true → ArePlain (items_of Host mask)
plain-items [] h = tt
plain-items (b ∷ []) h =
    let one = plain-item b (and_parts (is_plain b) true h).0 in subst (λ (i : Item). ArePlain (i ∷ [])) (sym one.0) (one.1, tt)
plain-items (b ∷ c ∷ text) h = by (b == 92 && is_special c) (plain-items text (and_parts _ _ parts.1).1) (plain-items (c ∷ text) parts.1)
  where
    parts : (is_plain b ≡ true) × (list_all is_plain (c ∷ text) ≡ true)
    parts = and_parts _ _ h

    by : (t : Bool) → ArePlain (items_of Host text) → ArePlain (items_of Host (c ∷ text))
        → ArePlain (if t then Literal c ∷ items_of Host text else item_of Host b ∷ items_of Host (c ∷ text))
    by true after rest = ((plain-item c (and_parts _ _ parts.1).0).1, after)
    by false after rest =
        let one = plain-item b parts.0 in subst (λ (i : Item). ArePlain (i ∷ items_of Host (c ∷ text))) (sym one.0) (one.1, rest)

plain-byte : (b : ℕ) → is_account_byte b ≡ true → is_plain b ≡ true
plain-byte b = by (nat_lt 32 b) (b == 33) (b == 64) (b == 42) (b == 63)
  where
    by : (high bang at star question : Bool) → (high && not (bang || at || star || question)) ≡ true
        → (not bang && (not star && not question)) ≡ true
    by false bang at star question h = cc
    by true true at star question h = cc
    by true false true star question h = cc
    by true false false true question h = cc
    by true false false false true h = cc
    by true false false false false h = refl

plain-bytes : (name : List ℕ) → list_all is_account_byte name ≡ true → list_all is_plain name ≡ true
plain-bytes [] h = refl
plain-bytes (b ∷ name) h =
    let parts = and_parts _ _ h in ap (λ t. t && list_all is_plain name) (plain-byte b parts.0) ∙ plain-bytes name parts.1

no_front : (front rest : Bool) → (front && false && rest) ≡ true → ⊥
no_front true rest h = cc
no_front false rest h = cc

account_mask-plain : (mask : List ℕ) → is_account_mask mask ≡ true → list_all is_plain mask ≡ true
account_mask-plain [] h = cc
account_mask-plain (a ∷ []) h = absurd (no_front _ _ h)
account_mask-plain (a ∷ b ∷ []) h = absurd (no_front _ _ h)
account_mask-plain (a ∷ b ∷ c ∷ name) h =
    let parts = and_parts (starts a b c && nat_lt 3 (length (a ∷ b ∷ c ∷ name))) (list_all is_account_byte name) h in
    let front = and_parts (starts a b c) (nat_lt 3 (length (a ∷ b ∷ c ∷ name))) parts.0 in
    let is : codes "$a:" ≡ a ∷ b ∷ c ∷ [] = (bytes_decides (codes "$a:") (a ∷ b ∷ c ∷ [])).0 front.0 in
    ap (λ (text : List ℕ). list_all is_plain (text ++ name)) (sym is) ∙ plain-bytes name parts.1
  where
    starts : ℕ → ℕ → ℕ → Bool
    starts a b c = starts_with (λ x y. x == y) (a ∷ b ∷ c ∷ name) (codes "$a:")

-- a hostmask of an account matches no text with a !
pub account_mask-misses : (mapping : Casemapping) (mask text : List ℕ) → is_account_mask mask ≡ true → has_bang text ≡ true
    → is_match mapping mask text ≡ false
unfolding is_match
account_mask-misses mapping mask text account bang = false_from_ne_true _
    (λ hit. true≢false (sym bang
    ∙ plain-match mapping (items_of Host mask) text (plain-items mask (account_mask-plain mask account))
    ((is_match_by-Decides mapping (host_mask mask) text).0 hit)))

-- ---- what finds no account

-- one of these items is the literal !
abbrev HasBang : List Item → Type 0
HasBang [] = ⊥
HasBang (item ∷ items) = (item ≡ Literal 33) ⊎ HasBang items

bang-match : (mapping : Casemapping) (items : List Item) (text : List ℕ) → HasBang items → Matches mapping items text → has_bang text ≡ true
bang-match mapping [] text has m = absurd has
bang-match mapping (item ∷ items) text has m = elim has [
  | inl here ↦ by m.0 text m.1.0 (subst (λ (i : Item). Takes mapping i (take m.0 text)) here m.1.1)
  | inr later ↦ has_bang-drop m.0 text (bang-match mapping items (drop m.0 text) later m.1.2)
]
  where
    by : (cut : ℕ) (text : List ℕ) → cut ≤ length text → Takes mapping (Literal 33) (take cut text) → has_bang text ≡ true
    by zero text within taken = cc
    by (suc k) [] within taken = absurd (omega arith)
    by (suc k) (x ∷ text) within taken =
        let same : low_by mapping x ≡ low_by mapping 33 = cc in
        ap (λ t. t || has_bang text) (eq-eqb x 33 (bang-alone mapping x (same ∙ bang-low mapping)))

bang-items : (mask : List ℕ) → has_bang mask ≡ true → HasBang (items_of Host mask)
bang-items [] h = cc
bang-items (b ∷ []) h = by (b == 33) refl h
  where
    by : (t : Bool) → (b == 33) ≡ t → (t || false) ≡ true → HasBang (items_of Host (b ∷ []))
    by true e h = inl (ap (item_of Host) (eqb-true b 33 e))
    by false e h = cc
bang-items (b ∷ c ∷ text) h = by (b == 33) refl (b == 92 && is_special c) refl h (bang-items text) (bang-items (c ∷ text))
  where
    by : (t : Bool) → (b == 33) ≡ t → (escaped : Bool) → (b == 92 && is_special c) ≡ escaped → (t || has_bang (c ∷ text)) ≡ true
        → (has_bang text ≡ true → HasBang (items_of Host text)) → (has_bang (c ∷ text) ≡ true → HasBang (items_of Host (c ∷ text)))
        → HasBang (if escaped then Literal c ∷ items_of Host text else item_of Host b ∷ items_of Host (c ∷ text))
    by true e true is h after rest =
        let none : (b == 92 && is_special c) ≡ false = ap (λ n. n == 92 && is_special c) (eqb-true b 33 e) in cc
    by true e false is h after rest = inl (ap (item_of Host) (eqb-true b 33 e))
    by false e true is h after rest = inr (after (ap (λ t. t || has_bang text) (sym other) ∙ h))
      where
        other : (c == 33) ≡ false
        other = ne_eqb c 33 (λ same. true≢false (sym (and_parts (b == 92) (is_special c) is).1 ∙ ap is_special same))
    by false e false is h after rest = inr (rest h)

first-none : (p q : ℕ → Bool) (text : List ℕ) → list_any p text ≡ false → list_any q (after_first p text) ≡ false
first-none p q [] h = refl
first-none p q (x ∷ text) h =
    let parts = or_parts (p x) (list_any p text) h in
    let places : 1 + position_or_len p text + 1 ≡ suc (position_or_len p text + 1) = omega arith in
    ap (λ t. list_any q (drop (cond (not t) (1 + position_or_len p text) 0 + 1) (x ∷ text))) parts.0
    ∙ ap (λ n. list_any q (drop n (x ∷ text))) places ∙ first-none p q text parts.1

person_mask-bang : (mask : List ℕ) → is_person_mask mask ≡ true → has_bang mask ≡ true
person_mask-bang mask h = by (has_bang mask) refl
  where
    by : (t : Bool) → has_bang mask ≡ t → t ≡ true
    by true e = refl
    by false e = absurd (true≢false (sym (and_parts _ _ h).1 ∙ first-none (λ b. b == 33) (λ b. b == 64) mask e))

-- a hostmask nick!user@host matches no text without a !
pub person_mask-misses : (mapping : Casemapping) (mask text : List ℕ) → is_person_mask mask ≡ true → has_bang text ≡ false
    → is_match mapping mask text ≡ false
unfolding is_match
person_mask-misses mapping mask text person none = false_from_ne_true _
    (λ hit. true≢false
    (sym (bang-match mapping (items_of Host mask) text (bang-items mask (person_mask-bang mask person))
    ((is_match_by-Decides mapping (host_mask mask) text).0 hit)) ∙ none))

-- ---- hostmasks that match nobody say nothing

module _ (mapping : Casemapping) (who : List ℕ) (test : List ℕ → Bool)
    (misses : (mask : List ℕ) → test mask ≡ true → is_match mapping mask who ≡ false) where
  abbrev less : User → User
  less = with_less test

  abbrev less_claim : Claim → Claim
  less_claim c = claim c.literals (less c.user)

  claims_of-less : (user : User) (masks : List (List ℕ))
      → claims_of mapping who (less user) (filter (λ mask. not (test mask)) masks) ≡ map less_claim (claims_of mapping who user masks)
  claims_of-less user [] = refl
  claims_of-less user (mask ∷ masks) = by (test mask) refl (is_match mapping mask who) refl (claims_of-less user masks)
    where
      hits : List ℕ → Bool
      hits m = is_match mapping m who

      kept : List ℕ → Bool
      kept m = not (test m)

      by : (t : Bool) → test mask ≡ t → (hit : Bool) → is_match mapping mask who ≡ hit
          → claims_of mapping who (less user) (filter (λ mask. not (test mask)) masks) ≡ map less_claim (claims_of mapping who user masks)
          → map (λ m. claim (literals m) (less user)) (filter (λ m. is_match mapping m who)
          (cond (not t) (mask ∷ filter (λ m. not (test m)) masks) (filter (λ m. not (test m)) masks)))
          ≡ map less_claim (map (λ m. claim (literals m) user)
          (cond hit (mask ∷ filter (λ m. is_match mapping m who) masks) (filter (λ m. is_match mapping m who) masks)))
      by true e true is rest = absurd (true≢false (sym is ∙ misses mask e))
      by true e false is rest = rest
      by false e true is rest =
          ap (λ t. map (λ m. claim (literals m) (less user)) (cond t
          (mask ∷ filter (λ m. is_match mapping m who) (filter (λ m. not (test m)) masks))
          (filter (λ m. is_match mapping m who) (filter (λ m. not (test m)) masks)))) is
          ∙ ap (λ cs. claim (literals mask) (less user) ∷ cs) rest
      by false e false is rest =
          ap (λ t. map (λ m. claim (literals m) (less user)) (cond t
          (mask ∷ filter (λ m. is_match mapping m who) (filter (λ m. not (test m)) masks))
          (filter (λ m. is_match mapping m who) (filter (λ m. not (test m)) masks)))) is
          ∙ rest

  claims-less : (users : List User) → claims mapping who (without test users) ≡ map less_claim (claims mapping who users)
  claims-less [] = refl
  claims-less (user ∷ users) =
      ap (λ cs. cs ++ claims mapping who (without test users)) (claims_of-less user user.masks)
      ∙ ap (λ cs. map less_claim (claims_of mapping who user user.masks) ++ cs) (claims-less users)
      ∙ sym (map-append less_claim (claims_of mapping who user user.masks) (claims mapping who users))

  most-less : (n : ℕ) (cs : List Claim) → is_most n (map less_claim cs) ≡ is_most n cs
  most-less n [] = refl
  most-less n (c ∷ cs) = ap (λ t. nat_le c.literals n && t) (most-less n cs)

  decider-less : (cs : List Claim) → decider (map less_claim cs) ≡ option_map less (decider cs)
  unfolding decider
  decider-less [] = refl
  decider-less (c ∷ cs) =
      ap (λ t. if t then Some (less c.user) else decider (map less_claim cs)) (most-less c.literals cs) ∙ by (is_most c.literals cs) (decider-less cs)
    where
      by : (t : Bool) → decider (map less_claim cs) ≡ option_map less (decider cs)
          → (if t then Some (less c.user) else decider (map less_claim cs)) ≡ option_map less (if t then Some c.user else decider cs)
      by true rest = refl
      by false rest = rest

  star-less : (found : Option User) → handle_or_star (option_map less found) ≡ handle_or_star found
  star-less None = refl
  star-less (Some user) = refl

  -- so they can be left out
  pub handle-less : (users : List User) → handle_of mapping users who ≡ handle_of mapping (without test users) who
  handle-less users = sym (ap (λ cs. handle_or_star (decider cs)) (claims-less users)
      ∙ ap handle_or_star (decider-less (claims mapping who users)) ∙ star-less (decider (claims mapping who users)))

-- ---- the laws

pub handle_by-claim : (mapping : Casemapping) (users : List User) (account who : List ℕ)
    → handle_by mapping users account who ≡ handle_of mapping users (claim_by mapping users account who)
unfolding handle_by claim_by
handle_by-claim mapping users account who = by (is_known_account mapping users account)
  where
    by : (t : Bool) → (if t then handle_of mapping users (account_claim account) else handle_of mapping users who)
        ≡ handle_of mapping users (if t then account_claim account else who)
    by true = refl
    by false = refl

-- whose account is not a user's is found by nick!user@host
handle_by-unknown : (mapping : Casemapping) (users : List User) (account who : List ℕ) → is_known_account mapping users account ≡ false
    → handle_by mapping users account who ≡ handle_of mapping users who
unfolding handle_by
handle_by-unknown mapping users account who none =
    ap (λ t. if t then handle_of mapping users (account_claim account) else handle_of mapping users who) none

-- and no hostmask of an account says who that is
pub handle_by-address : (mapping : Casemapping) (users : List User) (account who : List ℕ) → is_known_account mapping users account ≡ false
    → has_bang who ≡ true → handle_by mapping users account who ≡ handle_of mapping (without is_account_mask users) who
handle_by-address mapping users account who none bang =
    handle_by-unknown mapping users account who none
    ∙ handle-less mapping who is_account_mask (λ mask account. account_mask-misses mapping mask who account bang) users

-- nobody's account is empty
pub known-empty : (mapping : Casemapping) (users : List User) → is_known_account mapping users [] ≡ false
unfolding is_known_account is_account
known-empty mapping users = refl

no_bang : (name : List ℕ) → list_all is_account_byte name ≡ true → has_bang name ≡ false
no_bang [] h = refl
no_bang (b ∷ name) h =
    let parts = and_parts _ _ h in ap (λ t. t || has_bang name) (by (nat_lt 32 b) (b == 33) parts.0) ∙ no_bang name parts.1
  where
    by : (high bang : Bool) → (high && not (bang || (b == 64) || (b == 42) || (b == 63))) ≡ true → bang ≡ false
    by false bang h = cc
    by true true h = cc
    by true false h = refl

account-bytes : (account : List ℕ) → is_account account ≡ true → list_all is_account_byte account ≡ true
unfolding is_account
account-bytes account good = (and_parts (not (length account == 0) && nat_le (length account) MAX_ACCOUNT) _ good).1

known-account : (mapping : Casemapping) (users : List User) (account : List ℕ) → is_known_account mapping users account ≡ true
    → is_account account ≡ true
unfolding is_known_account
known-account mapping users account known =
    (and_parts (is_account account) (not (bytes_eq (handle_of mapping users (account_claim account)) (codes "*"))) known).0

-- who has an account that is a user's is found by hostmasks of accounts alone, whatever the address
pub handle_by-account : (mapping : Casemapping) (users : List User) (account who : List ℕ) → is_known_account mapping users account ≡ true
    → handle_by mapping users account who ≡ handle_of mapping (without is_person_mask users) (account_claim account)
unfolding handle_by
handle_by-account mapping users account who known =
    ap (λ t. if t then handle_of mapping users (account_claim account) else handle_of mapping users who) known
    ∙ handle-less mapping (account_claim account) is_person_mask
    (λ mask person. person_mask-misses mapping mask (account_claim account) person none) users
  where
    none : has_bang (account_claim account) ≡ false
    none = no_bang account (account-bytes account (known-account mapping users account known))

-- ---- the names of accounts

abbrev AreLiteral : List Item → Type 0
AreLiteral [] = Unit {0}
AreLiteral (Literal b ∷ items) = AreLiteral items
AreLiteral (AnyByte ∷ items) = ⊥
AreLiteral (AnyText ∷ items) = ⊥
AreLiteral (NoSpace ∷ items) = ⊥
AreLiteral (Spaces ∷ items) = ⊥

abbrev literals_in : List ℕ → List Item
literals_in text = map (λ b. Literal b) text

-- the items of a hostmask without ! * ? and backslash are its bytes
literal-items : (mask : List ℕ) → list_all is_plain mask ≡ true → list_any (λ b. b == 92) mask ≡ false → items_of Host mask ≡ literals_in mask
literal-items [] h none = refl
literal-items (b ∷ []) h none = ap (λ i. i ∷ []) (plain-item b (and_parts (is_plain b) true h).0).0
literal-items (b ∷ c ∷ text) h none =
    let parts = and_parts _ _ h in
    let apart = or_parts _ _ none in
    ap (λ t. if t && is_special c then Literal c ∷ items_of Host text else item_of Host b ∷ items_of Host (c ∷ text)) apart.0
    ∙ ap (λ i. i ∷ items_of Host (c ∷ text)) (plain-item b parts.0).0 ∙ ap (λ is. Literal b ∷ is) (literal-items (c ∷ text) parts.1 apart.1)

-- literals match a text of the same lower cases, and no other
literals-match : (mapping : Casemapping) (name text : List ℕ) → Matches mapping (literals_in name) text → IsSameBy mapping name text
literals-match mapping [] text m = ap (folded_by mapping) (sym m)
literals-match mapping (b ∷ name) text m = by m.0 text m.1.0 m.1.1 (literals-match mapping name (drop m.0 text) m.1.2)
  where
    by : (cut : ℕ) (text : List ℕ) → cut ≤ length text → Takes mapping (Literal b) (take cut text) → IsSameBy mapping name (drop cut text)
        → IsSameBy mapping (b ∷ name) text
    by zero text within taken rest = cc
    by (suc zero) [] within taken rest = absurd (omega arith)
    by (suc zero) (x ∷ text) within taken rest = cc
    by (suc (suc k)) [] within taken rest = absurd (omega arith)
    by (suc (suc k)) (x ∷ []) within taken rest = absurd (omega arith)
    by (suc (suc k)) (x ∷ y ∷ text) within taken rest = cc

match-literals : (mapping : Casemapping) (name text : List ℕ) → IsSameBy mapping name text → Matches mapping (literals_in name) text
match-literals mapping [] [] same = refl
match-literals mapping [] (x ∷ text) same = cc
match-literals mapping (b ∷ name) [] same = cc
match-literals mapping (b ∷ name) (x ∷ text) same =
    let first : low_by mapping b ≡ low_by mapping x = cc in
    let rest : IsSameBy mapping name text = cc in
    (1, (omega arith, ap (λ n. n ∷ []) (sym first), match-literals mapping name text rest))

pub match-names : (mapping : Casemapping) (name account : List ℕ) → is_account name ≡ true → list_any (λ b. b == 92) name ≡ false
    → (is_match mapping (account_claim name) (account_claim account) ≡ true) ↔ IsSameBy mapping name account
unfolding is_match
match-names mapping name account good none = (
  λ hit. ap (drop 3) (literals-match mapping (account_claim name) (account_claim account)
      (subst (λ is. Matches mapping is (account_claim account)) items (decides.0 hit))),
  λ same. decides.1 (subst (λ is. Matches mapping is (account_claim account)) (sym items)
      (match-literals mapping (account_claim name) (account_claim account) (ap (λ text. folded_by mapping (account_claim []) ++ text) same))),
)
  where
    items : items_of Host (account_claim name) ≡ literals_in (account_claim name)
    items = literal-items (account_claim name) (plain-bytes name (account-bytes name good)) none

    decides : Decides (is_match_by mapping (host_mask (account_claim name)) (account_claim account))
        (Matches mapping (items_of Host (account_claim name)) (account_claim account))
    decides = is_match_by-Decides mapping (host_mask (account_claim name)) (account_claim account)

-- ---- a claim is a person

no_wildcards : (name : List ℕ) → list_all is_account_byte name ≡ true → list_all (λ b. not (b == 42) && not (b == 63)) name ≡ true
no_wildcards [] h = refl
no_wildcards (b ∷ name) h =
    let parts = and_parts _ _ h in
    ap (λ t. t && list_all (λ c. not (c == 42) && not (c == 63)) name) (and_parts (not (b == 33)) _ (plain-byte b parts.0)).1
    ∙ no_wildcards name parts.1

account-length : (account : List ℕ) → is_account account ≡ true
    → (not (length account == 0) ≡ true) × (nat_le (length account) MAX_ACCOUNT ≡ true)
unfolding is_account
account-length account good =
    and_parts (not (length account == 0)) (nat_le (length account) MAX_ACCOUNT)
    (and_parts (not (length account == 0) && nat_le (length account) MAX_ACCOUNT) (list_all is_account_byte account) good).0

claim-mask : (account : List ℕ) → is_account account ≡ true → is_account_mask (account_claim account) ≡ true
claim-mask account good =
    let some : not (length account == 0) ≡ true = (account-length account good).0 in
    let long : nat_lt 3 (length (account_claim account)) ≡ true = grind (arith, nat_tests) in
    ap (λ t. t && list_all is_account_byte account) long ∙ account-bytes account good

claim-person : (account : List ℕ) → is_account account ≡ true → is_person (account_claim account) ≡ true
unfolding is_person is_hostmask
claim-person account good =
    let little : nat_le (length account) MAX_ACCOUNT ≡ true = (account-length account good).1 in
    let short : nat_lt 120 (length (account_claim account)) ≡ false = grind (arith, nat_tests) in
    let whole : is_any_hostmask (account_claim account) ≡ true = or_right (is_person_mask (account_claim account)) _ (claim-mask account good) in
    let full : (length (account_claim account) == 0) ≡ false = grind (arith, nat_tests) in
    let host : is_none (host_fault (account_claim account)) ≡ true =
    ap (λ t. is_none (if t then Some MaskEmpty
    else (if nat_lt 120 (length (account_claim account)) then Some MaskTooLong
    else (if is_any_hostmask (account_claim account) then None else Some NotAHostmask)))) full
    ∙ ap (λ t. is_none (if t then Some MaskTooLong else (if is_any_hostmask (account_claim account) then None else Some NotAHostmask))) short
    ∙ ap (λ t. is_none (if t then None else Some NotAHostmask)) whole in
    ap (λ t. t && list_all (λ b. not (b == 42) && not (b == 63)) (account_claim account)) host
    ∙ no_wildcards account (account-bytes account good)

pub claim_by-person : (mapping : Casemapping) (users : List User) (account who : List ℕ) → is_person who ≡ true
    → is_person (claim_by mapping users account who) ≡ true
unfolding claim_by
claim_by-person mapping users account who person = by (is_known_account mapping users account) refl
  where
    by : (t : Bool) → is_known_account mapping users account ≡ t → is_person (if t then account_claim account else who) ≡ true
    by true known = claim-person account (known-account mapping users account known)
    by false known = person
