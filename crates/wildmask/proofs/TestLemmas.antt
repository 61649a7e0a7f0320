-- The test of items against a text is the relation.
use Rattle.std.proofs.Common.{◌≡◌, ◌≢◌, ℕ, zero, suc, ◌≤◌, Bool, true, false, not, ◌&&◌, ◌||◌, ◌==◌, List, [], ◌∷◌, length, take, drop, refl, sym, ap, ◌∙◌, arith, All, inl, inr, true≢false}
use Rattle.std.specs.Bool.{Decides}
use Rattle.std.specs.List.{list_all}
use Rattle.std.specs.Cmp.Lexicographic.{bytes_decides}
use Rattle.std.proofs.lemmas.Bool.{cases_lt, eqb-true}
use Rattle.std.proofs.lemmas.Bool.Decides.{Decides-eqb, Decides-ltb}
use Rattle.rfccase.specs.Casemapping.{folded_by}
use Rattle.rfccase.specs.declared.casemappings.Casemapping.{Casemapping}
use Rattle.rfccase.specs.declared.casemappings.Casemapping.TheVariants.{Rfc1459}
use Rattle.wildmask.specs.declared.items.Item.{Item}
use Rattle.wildmask.specs.declared.items.Item.TheVariants.{Literal, AnyByte, AnyText, NoSpace, Spaces}
use Rattle.wildmask.specs.Matching.{Takes, Matches}
use Rattle.wildmask.specs.Tests.{takes, some_upto, items_match}
use Rattle.wildmask.specs.Masks.{GivenMask, IsMatch, IsMatchBy, is_match, is_match_by, mask_items}

both : {P Q : Type 0} (a b : Bool) → Decides a P → Decides b Q → Decides (a && b) (P × Q)
both true b p q = (λ h. (p.0 refl, q.0 h), λ h. q.1 h.1)
both false b p q = (λ h. cc, λ h. cc (p.1 h.0))

-- a test of each element decides the same of all of them
Decides-list_all : {P : ℕ → Type 0} (p : ℕ → Bool) → ((c : ℕ) → Decides (p c) (P c)) → (xs : List ℕ) → Decides (list_all p xs) (All P xs)
Decides-list_all p told [] = (λ h k d lt. absurd (omega arith), λ h. refl)
Decides-list_all {P} p told (x ∷ xs) = by (p x) (list_all p xs) (told x) (Decides-list_all p told xs)
  where
    by : (b t : Bool) → Decides b (P x) → Decides t (All P xs) → Decides (b && t) (All P (x ∷ xs))
    by true t here rest = (λ h. first (here.0 refl) (rest.0 h), λ all. rest.1 (λ k d lt. all (suc k) d (omega arith)))
      where
        first : P x → All P xs → All P (x ∷ xs)
        first h r zero d lt = h
        first h r (suc k) d lt = r k d (omega arith)
    by false t here rest = (λ h. cc, λ all. here.1 (all 0 x (omega arith)))

-- a test of each cut decides whether there is one
Decides-some_upto : (P Q : ℕ → Type 0) (test : ℕ → Bool) → ((k : ℕ) → Decides (test k) (P k × Q k)) → (n : ℕ)
    → Decides (some_upto test n) ((k : ℕ) × ((k ≤ n) × P k × Q k))
Decides-some_upto P Q test told zero = (λ h. (0, (omega arith, ((told 0).0 h).0, ((told 0).0 h).1)), λ w. at_zero w.0 w.1)
  where
    at_zero : (k : ℕ) → ((k ≤ 0) × P k × Q k) → test 0 ≡ true
    at_zero zero h = (told 0).1 (h.1, h.2)
    at_zero (suc k) h = absurd (omega arith)
Decides-some_upto P Q test told (suc n) = by (test (suc n)) refl (Decides-some_upto P Q test told n)
  where
    by : (b : Bool) → test (suc n) ≡ b → Decides (some_upto test n) ((k : ℕ) × ((k ≤ n) × P k × Q k))
        → Decides (b || some_upto test n) ((k : ℕ) × ((k ≤ suc n) × P k × Q k))
    by true here rest = (λ h. (suc n, (omega arith, ((told (suc n)).0 here).0, ((told (suc n)).0 here).1)), λ w. refl)
    by false none rest = (
      λ h. let w = rest.0 h in (w.0, (omega (arith, w.1.0), w.1.1, w.1.2)),
      λ w. elim (cases_lt w.0 (suc n)) [ inl below ↦ rest.1 (w.0, (omega arith, w.1.1, w.1.2)) | inr above ↦ absurd (last w.0 w.1 above) ],
    )
      where
        last : (k : ℕ) → ((k ≤ suc n) × P k × Q k) → suc n ≤ k → ⊥
        last k h above = let e : k ≡ suc n = omega arith in true≢false (sym ((told k).1 (h.1, h.2)) ∙ ap test e ∙ none)

takes-Decides : (mapping : Casemapping) (item : Item) (text : List ℕ) → Decides (takes mapping item text) (Takes mapping item text)
takes-Decides mapping (Literal b) text = bytes_decides (folded_by mapping text) (folded_by mapping (b ∷ []))
takes-Decides mapping AnyByte text = Decides-eqb (length text) 1
takes-Decides mapping AnyText text = (λ h. tt, λ h. refl)
takes-Decides mapping NoSpace text = Decides-list_all (λ c. not (c == 32)) (λ c. Decides-no_space c) text
  where
    negated : {P : Type 0} (b : Bool) → Decides b P → Decides (not b) (P → ⊥)
    negated true d = (λ h. cc, λ n. absurd (n (d.0 refl)))
    negated false d = (λ h p. cc (d.1 p), λ n. refl)

    Decides-no_space : (c : ℕ) → Decides (not (c == 32)) (c ≢ 32)
    Decides-no_space c = negated (c == 32) (Decides-eqb c 32)
takes-Decides mapping Spaces text = both _ _ (Decides-ltb 0 (length text)) (Decides-list_all (λ c. c == 32) (λ c. Decides-eqb c 32) text)

pub items_match-Decides : (mapping : Casemapping) (items : List Item) (text : List ℕ) → Decides (items_match mapping items text) (Matches mapping items text)
items_match-Decides mapping [] text = empty text
  where
    empty : (text : List ℕ) → Decides (length text == 0) (text ≡ [])
    empty [] = (λ h. refl, λ h. refl)
    empty (x ∷ xs) = (λ h. absurd (omega (arith, eqb-true (length (x ∷ xs)) 0 h)), λ h. cc)
items_match-Decides mapping (item ∷ others) text =
    Decides-some_upto (λ cut. Takes mapping item (take cut text)) (λ cut. Matches mapping others (drop cut text)) _
    (λ cut. both _ _ (takes-Decides mapping item (take cut text)) (items_match-Decides mapping others (drop cut text))) (length text)

-- a mask's test is its relation
pub is_match_by-Decides : (mapping : Casemapping) (mask : GivenMask) (text : List ℕ) → Decides (is_match_by mapping mask text) (IsMatchBy mapping mask text)
unfolding is_match_by
is_match_by-Decides mapping mask text = items_match-Decides mapping (mask_items mask) text

pub is_match-Decides : (mask : GivenMask) (text : List ℕ) → Decides (is_match mask text) (IsMatch mask text)
is_match-Decides mask text = is_match_by-Decides Rfc1459 mask text
