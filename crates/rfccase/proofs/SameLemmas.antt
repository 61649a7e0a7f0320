-- Texts that are the same by casemapping, and folded texts as keys: for callers.
use Rattle.std.proofs.Common.{◌≡◌, ◌≢◌, ◌↔◌, ℕ, ◌<◌, ◌++◌, true, false, List, [], ◌∷◌, length, nat_eq, get_or, refl, sym, ◌∙◌, ap, arith}
use Rattle.std.specs.Bool.{Decides}
use Rattle.std.proofs.lemmas.Bool.Decides.{nat_tests, same_from_decides}
use Rattle.std.proofs.lemmas.List.{get_or-map, length-map, map-append}
use Rattle.std.specs.Cmp.Lexicographic.{pointwise, bytes_decides}
use Rattle.rfccase.specs.Casemapping.{low, folded, IsSame, is_same, low_by, folded_by, IsSameBy, is_same_by}
use Rattle.rfccase.specs.declared.casemappings.Casemapping.{Casemapping}
use Rattle.rfccase.specs.declared.casemappings.Casemapping.TheVariants.{Ascii, StrictRfc1459, Rfc1459}

-- ---- being the same is an equivalence

pub IsSame-refl : (a : List ℕ) → IsSame a a
IsSame-refl a = refl

pub IsSame-sym : (a b : List ℕ) → IsSame a b → IsSame b a
IsSame-sym a b h = sym h

pub IsSame-trans : (a b c : List ℕ) → IsSame a b → IsSame b c → IsSame a c
IsSame-trans a b c h k = h ∙ k

-- ---- folded texts

pub length-folded : (text : List ℕ) → length (folded text) ≡ length text
length-folded text = length-map text low

pub folded-append : (a b : List ℕ) → folded (a ++ b) ≡ folded a ++ folded b
folded-append a b = map-append low a b

-- a lower case is its own
pub low-low : (b : ℕ) → low (low b) ≡ low b
low-low b = grind (arith, nat_tests)

pub folded-folded : (text : List ℕ) → folded (folded text) ≡ folded text
folded-folded [] = refl
folded-folded (b ∷ text) = cc (low-low b, folded-folded text)

-- the test and the relation agree, and so do both orders of the test
pub is_same-Decides : (a b : List ℕ) → Decides (is_same a b) (IsSame a b)
is_same-Decides a b = bytes_decides (folded a) (folded b)

pub is_same-sym : (a b : List ℕ) → is_same a b ≡ is_same b a
is_same-sym a b = same_from_decides _ _ (is_same-Decides a b) (λ h. sym ((is_same-Decides b a).0 h), λ h. (is_same-Decides b a).1 (sym h))

-- a text is the same as itself, and texts that are the same are the same as the same texts
pub is_same-refl : (a : List ℕ) → is_same a a ≡ true
is_same-refl a = (is_same-Decides a a).1 refl

pub is_same-left : (a b c : List ℕ) → is_same a b ≡ true → is_same a c ≡ is_same b c
is_same-left a b c is = ap (λ (text : List ℕ). pointwise nat_eq text (folded c)) ((is_same-Decides a b).0 is)

pub is_same-right : (a b c : List ℕ) → is_same a b ≡ true → is_same c a ≡ is_same c b
is_same-right a b c is = ap (λ (text : List ℕ). pointwise nat_eq (folded c) text) ((is_same-Decides a b).0 is)

-- a text is not the same as one of two that are the same if it is not the same as the other
pub is_same-apart : (a b c : List ℕ) → is_same a b ≡ false → is_same b c ≡ true → is_same a c ≡ false
is_same-apart a b c apart is = sym (is_same-right b c a is) ∙ apart

-- two keys are equal exactly where their texts are the same
pub equal_keys : (a b : List ℕ) → (pointwise nat_eq (folded a) (folded b) ≡ true) ↔ IsSame a b
equal_keys a b = bytes_decides (folded a) (folded b)

-- ---- by a server's casemapping

pub length-folded_by : (mapping : Casemapping) (text : List ℕ) → length (folded_by mapping text) ≡ length text
length-folded_by mapping text = length-map text (low_by mapping)

pub low_by-low_by : (mapping : Casemapping) (b : ℕ) → low_by mapping (low_by mapping b) ≡ low_by mapping b
low_by-low_by Ascii b = grind (arith, nat_tests)
low_by-low_by StrictRfc1459 b = grind (arith, nat_tests)
low_by-low_by Rfc1459 b = grind (arith, nat_tests)

-- a space is the lower case of itself alone
pub low_by-space : (mapping : Casemapping) (b : ℕ) → low_by mapping b ≡ 32 → b ≡ 32
low_by-space Ascii b h = grind (arith, nat_tests)
low_by-space StrictRfc1459 b h = grind (arith, nat_tests)
low_by-space Rfc1459 b h = grind (arith, nat_tests)

-- whatever is the same by a casemapping is the same by RFC 2812
pub low-low_by : (mapping : Casemapping) (b : ℕ) → low (low_by mapping b) ≡ low b
low-low_by Ascii b = grind (arith, nat_tests)
low-low_by StrictRfc1459 b = grind (arith, nat_tests)
low-low_by Rfc1459 b = grind (arith, nat_tests)

pub folded-folded_by : (mapping : Casemapping) (text : List ℕ) → folded (folded_by mapping text) ≡ folded text
folded-folded_by mapping [] = refl
folded-folded_by mapping (b ∷ text) = cc (low-low_by mapping b, folded-folded_by mapping text)

pub IsSame-from : (mapping : Casemapping) (a b : List ℕ) → IsSameBy mapping a b → IsSame a b
IsSame-from mapping a b same = sym (folded-folded_by mapping a) ∙ ap folded same ∙ folded-folded_by mapping b

pub is_same_by-Decides : (mapping : Casemapping) (a b : List ℕ) → Decides (is_same_by mapping a b) (IsSameBy mapping a b)
is_same_by-Decides mapping a b = bytes_decides (folded_by mapping a) (folded_by mapping b)

-- the test is an equivalence
pub is_same_by-sym : (mapping : Casemapping) (a b : List ℕ) → is_same_by mapping a b ≡ is_same_by mapping b a
is_same_by-sym mapping a b = same_from_decides _ _ (is_same_by-Decides mapping a b)
    (λ h. sym ((is_same_by-Decides mapping b a).0 h), λ h. (is_same_by-Decides mapping b a).1 (sym h))

pub is_same_by-refl : (mapping : Casemapping) (a : List ℕ) → is_same_by mapping a a ≡ true
is_same_by-refl mapping a = (is_same_by-Decides mapping a a).1 refl

pub is_same_by-left : (mapping : Casemapping) (a b c : List ℕ) → is_same_by mapping a b ≡ true → is_same_by mapping a c ≡ is_same_by mapping b c
is_same_by-left mapping a b c is = ap (λ (text : List ℕ). pointwise nat_eq text (folded_by mapping c)) ((is_same_by-Decides mapping a b).0 is)

pub is_same_by-right : (mapping : Casemapping) (a b c : List ℕ) → is_same_by mapping a b ≡ true → is_same_by mapping c a ≡ is_same_by mapping c b
is_same_by-right mapping a b c is = ap (λ (text : List ℕ). pointwise nat_eq (folded_by mapping c) text) ((is_same_by-Decides mapping a b).0 is)

pub is_same_by-apart : (mapping : Casemapping) (a b c : List ℕ) → is_same_by mapping a b ≡ false → is_same_by mapping b c ≡ true → is_same_by mapping a c ≡ false
is_same_by-apart mapping a b c apart is = sym (is_same_by-right mapping b c a is) ∙ apart

-- texts whose bytes differ at an index are not the same
pub differ_at_by : (mapping : Casemapping) (a b : List ℕ) (i : ℕ) → i < length a → i < length b
    → low_by mapping (get_or a i 0) ≢ low_by mapping (get_or b i 0) → IsSameBy mapping a b → ⊥
differ_at_by mapping a b i ha hb ne same =
    ne (sym (get_or-map (low_by mapping) a i 0 0 ha) ∙ ap (λ (xs : List ℕ). get_or xs i 0) same ∙ get_or-map (low_by mapping) b i 0 0 hb)

-- whatever is the same by A to Z alone is the same by every casemapping
pub low_by-ascii : (mapping : Casemapping) (b : ℕ) → low_by mapping (low_by Ascii b) ≡ low_by mapping b
low_by-ascii Ascii b = grind (arith, nat_tests)
low_by-ascii StrictRfc1459 b = grind (arith, nat_tests)
low_by-ascii Rfc1459 b = grind (arith, nat_tests)
