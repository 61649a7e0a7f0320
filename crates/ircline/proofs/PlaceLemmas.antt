-- The parts of a text at the first byte that passes a test, by the place of that byte.
use Rattle.std.proofs.Common.{◌≡◌, ℕ, zero, suc, ◌<◌, Bool, true, false, List, [], ◌∷◌, length, get_or, take, drop, refl, ap, arith, sym, ◌∙◌, ◌≤◌, inl, inr}
use Rattle.std.proofs.lemmas.Bool.{cases_Bool, false_from_ne_true, or_left, or_right, or_from}
use Rattle.std.specs.List.{list_any}
use Rattle.std.specs.Prelude.{Option, Some, None}
use Rattle.bstr.specs.Find.{IsFirstByte, is_byte}
use Rattle.ircline.specs.Words.{up_to, from_first, holds, before, behind}

none_of : (test : ℕ → Bool) (text : List ℕ) → ((k : ℕ) → k < length text → test (get_or text k 0) ≡ true → ⊥)
    → (up_to test text ≡ text) × (from_first test text ≡ [])
none_of test [] none = (refl, refl)
none_of test (b ∷ bs) none =
    let fails : test b ≡ false = false_from_ne_true (test b) (λ e. none 0 (omega arith) e) in
    let more = none_of test bs (λ k lt e. none (suc k) (omega arith) e) in
    (rw fails (ap (λ (r : List ℕ). b ∷ r) more.0), rw fails more.1)

parts_at : (test : ℕ → Bool) (text : List ℕ) (i : ℕ) → i < length text → ((k : ℕ) → k < i → test (get_or text k 0) ≡ true → ⊥)
    → test (get_or text i 0) ≡ true → (up_to test text ≡ take i text) × (from_first test text ≡ drop i text)
parts_at test [] i lt none here = absurd (omega arith)
parts_at test (b ∷ bs) zero lt none here = (rw here refl, rw here refl)
parts_at test (b ∷ bs) (suc i) lt none here =
    let fails : test b ≡ false = false_from_ne_true (test b) (λ e. none 0 (omega arith) e) in
    let more = parts_at test bs i (omega arith) (λ k l e. none (suc k) (omega arith) e) here in
    (rw fails (ap (λ (r : List ℕ). b ∷ r) more.0), rw fails more.1)

-- what a search answers when there is no such byte
pub parts_none : (test : ℕ → Bool) (text : List ℕ) → IsFirstByte test text None → (up_to test text ≡ text) × (from_first test text ≡ [])
parts_none test text first = none_of test text (λ k lt e. first k (omega arith) lt e)

-- what it answers at such a byte
pub parts_some : (test : ℕ → Bool) (text : List ℕ) (i : ℕ) → IsFirstByte test text (Some i)
    → (up_to test text ≡ take i text) × (from_first test text ≡ drop i text)
parts_some test text i first = parts_at test text i first.0.high (λ k lt e. first.0.before k (omega arith) lt e) first.1

any_at : (test : ℕ → Bool) (text : List ℕ) (i : ℕ) → i < length text → test (get_or text i 0) ≡ true → list_any test text ≡ true
any_at test [] i lt here = absurd (omega arith)
any_at test (b ∷ bs) zero lt here = or_left (test b) (list_any test bs) here
any_at test (b ∷ bs) (suc i) lt here = or_right (test b) (list_any test bs) (any_at test bs i (omega arith) here)

any_none : (test : ℕ → Bool) (text : List ℕ) → ((k : ℕ) → k < length text → test (get_or text k 0) ≡ true → ⊥) → list_any test text ≡ false
any_none test [] none = refl
any_none test (b ∷ bs) none =
    or_from (test b) (list_any test bs) (false_from_ne_true (test b) (λ e. none 0 (omega arith) e)) (any_none test bs (λ k lt e. none (suc k) (omega arith) e))

-- a search for one byte, that is not there
pub halves_none : (byte : ℕ) (text : List ℕ) → IsFirstByte (is_byte byte) text None
    → (holds byte text ≡ false) × (before byte text ≡ text) × (behind byte text ≡ [])
halves_none byte text first =
    let parts = parts_none (is_byte byte) text first in
    (any_none (is_byte byte) text (λ k lt e. first k (omega arith) lt e), parts.0, ap (λ (r : List ℕ). drop 1 r) parts.1)

-- a search for one byte, and where it is
pub halves_some : (byte : ℕ) (text : List ℕ) (i : ℕ) → IsFirstByte (is_byte byte) text (Some i)
    → (holds byte text ≡ true) × (take i text ≡ before byte text) × (drop 1 (drop i text) ≡ behind byte text)
halves_some byte text i first =
    let parts = parts_some (is_byte byte) text i first in
    (any_at (is_byte byte) text i first.0.high first.1, sym parts.0, ap (λ (r : List ℕ). drop 1 r) (sym parts.1))

-- the answer of a search is that of a search by an equal test
pub first_same : (f g : ℕ → Bool) (text : List ℕ) (r : Option ℕ) → ((b : ℕ) → f b ≡ g b) → IsFirstByte f text r → IsFirstByte g text r
first_same f g text None same h = λ k low high e. h k low high (same _ ∙ e)
first_same f g text (Some i) same h =
    (record { low = h.0.low; high = h.0.high; before = λ k low high e. h.0.before k low high (same _ ∙ e) }, sym (same _) ∙ h.1)

pub length-from_first : (test : ℕ → Bool) (text : List ℕ) → length (from_first test text) ≤ length text
length-from_first test [] = omega arith
length-from_first test (b ∷ bs) =
    elim (cases_Bool (test b)) [ inl passes ↦ rw passes (omega arith) | inr fails ↦ rw fails (omega (arith, length-from_first test bs)) ]
