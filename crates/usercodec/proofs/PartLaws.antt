-- Parts of spellings: what is read is spelled so, and what is spelled so is read. One part and its test, what is made of it, and
-- one part after another. For callers.
use Rattle.std.proofs.Common.{◌≡◌, ℕ, Bool, true, cond, List, ◌++◌, Ok, Err, refl, ap, subst, sym, ◌∙◌, append_assoc}
use Rattle.usercodec.specs.declared.fault.CodecFault.TheVariants.{NotCanonical}
use Rattle.usercodec.specs.Fields.{Reading, ◌>>=◌, checked}
use Rattle.usercodec.specs.Changes.{both, made}
use Rattle.usercodec.proofs.Steps.{IsBytes, bind_ok, guard_ok, ok_is, Takes, Takes-then}

-- values, how they are spelled and read, and which of them have a spelling
pub record IsPart {A : Type 0} (read : List ℕ → Reading A) (spelling : A → List ℕ) (IsGood : A → Type 0) : Type 0 where
  pub takes : (bytes : List ℕ) (x : A) (rest : List ℕ) → IsBytes bytes → read bytes ≡ Ok (x, rest) → Takes bytes (spelling x) rest × IsGood x
  pub again : (x : A) (rest : List ℕ) → IsGood x → read (spelling x ++ rest) ≡ Ok (x, rest)

-- ---- a part and its test

pub checked_part : {A : Type 0} {read : List ℕ → Reading A} {spelling : A → List ℕ} {IsGood : A → Type 0} → IsPart read spelling IsGood
    → (test : A → Bool) → IsPart (λ bytes. checked test (read bytes)) spelling (λ x. IsGood x × (test x ≡ true))
checked_part {A = A} {read = read} {spelling = spelling} {IsGood = IsGood} part test = record { takes = takes; again = again }
  where
    takes : (bytes : List ℕ) (x : A) (rest : List ℕ) → IsBytes bytes → checked test (read bytes) ≡ Ok (x, rest)
        → Takes bytes (spelling x) rest × (IsGood x × (test x ≡ true))
    takes bytes x rest fits e =
        let a = bind_ok (read bytes) (λ y. cond (test y.0) (Ok y) (Err NotCanonical)) (x, rest) e in
        let g = guard_ok (test a.0.0) NotCanonical a.0 (x, rest) a.2 in
        let t = part.takes bytes a.0.0 a.0.1 fits a.1 in
        subst (λ (p : A × List ℕ). Takes bytes (spelling p.0) p.1 × (IsGood p.0 × (test p.0 ≡ true))) g.1 (t.0, (t.1, g.0))

    again : (x : A) (rest : List ℕ) → (IsGood x × (test x ≡ true)) → checked test (read (spelling x ++ rest)) ≡ Ok (x, rest)
    again x rest good = rw (part.again x rest good.0, good.1) refl

-- ---- what is made of a value, which tells the value
pub made_part : {A B : Type 0} {read : List ℕ → Reading A} {spelling : A → List ℕ} {IsGood : A → Type 0} → IsPart read spelling IsGood
    → (to : A → B) (from : B → A) → ((y : B) → to (from y) ≡ y) → (spelled : B → List ℕ) → ((x : A) → spelled (to x) ≡ spelling x)
    → ((y : B) → spelled y ≡ spelling (from y)) → (Fits : B → Type 0) → ((x : A) → IsGood x → Fits (to x)) → ((y : B) → Fits y → IsGood (from y))
    → IsPart (λ bytes. made to (read bytes)) spelled Fits
made_part {A = A} {B = B} {read = read} {spelling = spelling} {IsGood = IsGood} part to from back spelled there here Fits fit good = record {
  takes =
      takes;
  again = again;
}
  where
    takes : (bytes : List ℕ) (y : B) (rest : List ℕ) → IsBytes bytes → made to (read bytes) ≡ Ok (y, rest) → Takes bytes (spelled y) rest × Fits y
    takes bytes y rest fits e =
        let a = bind_ok (read bytes) (λ x. Ok (to x.0, x.1)) (y, rest) e in
        let t = part.takes bytes a.0.0 a.0.1 fits a.1 in
        let took : Takes bytes (spelled (to a.0.0)) a.0.1 = subst (λ (b : List ℕ). Takes bytes b a.0.1) (sym (there a.0.0)) t.0 in
        subst (λ (p : B × List ℕ). Takes bytes (spelled p.0) p.1 × Fits p.0) (ok_is (to a.0.0, a.0.1) (y, rest) a.2) (took, fit a.0.0 t.1)

    again : (y : B) (rest : List ℕ) → Fits y → made to (read (spelled y ++ rest)) ≡ Ok (y, rest)
    again y rest fits =
        ap (λ b. made to (read (b ++ rest))) (here y) ∙ ap (made to) (part.again (from y) rest (good y fits)) ∙ ap (λ z. Ok (z, rest)) (back y)

-- ---- one part and then another

pub both_part : {A B : Type 0} {first : List ℕ → Reading A} {second : List ℕ → Reading B} {a_bytes : A → List ℕ} {b_bytes : B → List ℕ} {GoodA : A → Type 0}
    {GoodB : B → Type 0}
    → IsPart first a_bytes GoodA → IsPart second b_bytes GoodB
    → IsPart (both first second) (λ x. a_bytes x.0 ++ b_bytes x.1) (λ x. GoodA x.0 × GoodB x.1)
both_part {A = A} {B = B} {first = first} {second = second} {a_bytes = a_bytes} {b_bytes = b_bytes} {GoodA = GoodA} {GoodB = GoodB} part_a part_b =
    record { takes = takes; again = again }
  where
    takes : (bytes : List ℕ) (x : A × B) (rest : List ℕ) → IsBytes bytes → both first second bytes ≡ Ok (x, rest)
        → Takes bytes (a_bytes x.0 ++ b_bytes x.1) rest × (GoodA x.0 × GoodB x.1)
    takes bytes x rest fits e =
        let a = bind_ok (first bytes) (λ y. second y.1 >>= λ z. Ok ((y.0, z.0), z.1)) (x, rest) e in
        let b = bind_ok (second a.0.1) (λ z. Ok ((a.0.0, z.0), z.1)) (x, rest) a.2 in
        let t = part_a.takes bytes a.0.0 a.0.1 fits a.1 in
        let u = part_b.takes a.0.1 b.0.0 b.0.1 t.0.rest_fits b.1 in
        let whole = Takes-then bytes (a_bytes a.0.0) a.0.1 (b_bytes b.0.0) b.0.1 t.0 u.0 in
        let same = ok_is ((a.0.0, b.0.0), b.0.1) (x, rest) b.2 in
        subst (λ (p : (A × B) × List ℕ). Takes bytes (a_bytes p.0.0 ++ b_bytes p.0.1) p.1 × (GoodA p.0.0 × GoodB p.0.1)) same (whole, (t.1, u.1))

    again : (x : A × B) (rest : List ℕ) → (GoodA x.0 × GoodB x.1) → both first second ((a_bytes x.0 ++ b_bytes x.1) ++ rest) ≡ Ok (x, rest)
    again x rest good =
        let grouped : (a_bytes x.0 ++ b_bytes x.1) ++ rest ≡ a_bytes x.0 ++ (b_bytes x.1 ++ rest) = append_assoc (a_bytes x.0) (b_bytes x.1) rest in
        ap (both first second) grouped ∙ rw (part_a.again x.0 (b_bytes x.1 ++ rest) good.0, part_b.again x.1 rest good.1) refl
