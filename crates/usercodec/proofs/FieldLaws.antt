-- Each field: what is read is spelled so, what is spelled so is read, and what was told stays.
use Rattle.std.proofs.Common.{◌≡◌, ℕ, zero, suc, ◌^◌, ◌<◌, ◌≤◌, nat_le, Bool, true, false, cond, eqb, ltb, List, [], ◌∷◌, ◌++◌, length, take, drop, Ok, Err, refl, sym}
use Rattle.std.proofs.Common.{ap, subst, ◌∙◌, arith}
use Rattle.std.specs.Int.{Width, w16, w32, w64, byte_len, from_be_bytes, to_be_bytes}
use Rattle.std.proofs.lemmas.Bool.{ltb-false, le-ltb}
use Rattle.std.proofs.lemmas.Bool.Decides.{nat_tests}
use Rattle.std.proofs.lemmas.List.{take_at, drop_at, take-append-drop, length-append, length-take, take-append-le, drop-append-le}
use Rattle.std.proofs.lemmas.Nat.{be_bytes_2, be_bytes_4, be_bytes_8}
use Rattle.std.proofs.lemmas.Nat.{from_be_bytes-to_be_bytes_2, from_be_bytes-to_be_bytes_4, from_be_bytes-to_be_bytes_8}
use Rattle.usercodec.specs.declared.fault.CodecFault.TheVariants.{Short, NotCanonical}
use Rattle.usercodec.specs.Fields.{number, text, mark, Reading, checked, bytes_at, byte_at, number_at, text_at, mark_at}
use Rattle.usercodec.specs.Changes.{both, made}
use Rattle.usercodec.specs.Laws.{Stays}
use Rattle.usercodec.proofs.Steps.{IsBytes, IsBytes-drop, IsBytes-take, bind_ok, kept_ok, ok_is, Takes, Takes-then, stays_bind}
use Rattle.usercodec.proofs.Steps.{stays_checked, NoTag, no_tag_bind, no_tag_if}
use Rattle.usercodec.proofs.PartLaws.{IsPart, checked_part, both_part}

-- values of a sort, which more bytes leave as they are
pub record IsSort {A : Type 0} (read : List ℕ → Reading A) (spelling : A → List ℕ) (IsGood : A → Type 0) : Type 0 where
  pub part : IsPart read spelling IsGood
  pub stays : (bytes more : List ℕ) → Stays (read bytes) (read (bytes ++ more)) more

-- a field, which knows of no tags
pub record IsField {A : Type 0} (read : List ℕ → Reading A) (spelling : A → List ℕ) (IsGood : A → Type 0) : Type 0 where
  pub laws : IsSort read spelling IsGood
  pub no_tag : (bytes : List ℕ) → NoTag (read bytes)

-- ---- bytes

pub bytes_takes : (count : ℕ) (bytes front rest : List ℕ) → IsBytes bytes → bytes_at count bytes ≡ Ok (front, rest)
    → Takes bytes front rest × (length front ≡ count) × (front ≡ take count bytes)
unfolding bytes_at
bytes_takes count bytes front rest fits e =
    let g = kept_ok (ltb (length bytes) count) Short (take count bytes, drop count bytes) (front, rest) e in
    let long : count ≤ length bytes = ltb-false _ _ g.0 in
    let front_is : take count bytes ≡ front = ap (λ (p : List ℕ × List ℕ). p.0) g.1 in
    let rest_is : drop count bytes ≡ rest = ap (λ (p : List ℕ × List ℕ). p.1) g.1 in
    let len : length (take count bytes) ≡ count = omega (arith, length-take count bytes) in
    let parts : bytes ≡ front ++ rest = rw (← front_is, ← rest_is) (sym (take-append-drop count bytes)) in
    (record { parts = parts; rest_fits = rw (← rest_is) (IsBytes-drop count bytes fits) }, ap length (sym front_is) ∙ len, sym front_is)

pub bytes_again : (front rest : List ℕ) → bytes_at (length front) (front ++ rest) ≡ Ok (front, rest)
unfolding bytes_at
bytes_again front rest =
    let long : ltb (length (front ++ rest)) (length front) ≡ false = le-ltb _ _ (omega (arith, length-append front rest)) in
    rw (long, take_at front rest (length front) refl, drop_at front rest (length front) refl) refl

bytes_stays : (count : ℕ) (bytes more : List ℕ) → Stays (bytes_at count bytes) (bytes_at count (bytes ++ more)) more
unfolding bytes_at
bytes_stays count bytes more = by (ltb (length bytes) count) refl
  where
    by : (test : Bool) → ltb (length bytes) count ≡ test
        → Stays (cond test (Err Short) (Ok (take count bytes, drop count bytes))) (bytes_at count (bytes ++ more)) more
    by true e = tt
    by false e =
        let le : count ≤ length bytes = ltb-false _ _ e in
        let long : ltb (length (bytes ++ more)) count ≡ false = le-ltb _ _ (omega (arith, length-append bytes more)) in
        rw (long, take-append-le, drop-append-le) refl

bytes_no_tag : (count : ℕ) (bytes : List ℕ) → NoTag (bytes_at count bytes)
unfolding bytes_at
bytes_no_tag count bytes = no_tag_if (ltb (length bytes) count) _ _ tt tt

-- ---- one byte

pub byte_field : IsField byte_at (λ byte. byte ∷ []) (λ byte. byte < 256)
unfolding byte_at
byte_field = record { laws = record { part = record { takes = takes; again = again }; stays = stays }; no_tag = no_tag }
  where
    takes : (bytes : List ℕ) (x : ℕ) (rest : List ℕ) → IsBytes bytes → byte_at bytes ≡ Ok (x, rest) → Takes bytes (x ∷ []) rest × (x < 256)
    takes [] x rest fits e = absurd cc
    takes (b ∷ bytes) x rest fits e =
        let same = ok_is (b, bytes) (x, rest) e in
        subst (λ (p : ℕ × List ℕ). Takes (b ∷ bytes) (p.0 ∷ []) p.1 × (p.0 < 256)) same
        (record { parts = refl; rest_fits = λ i. fits (suc i) }, fits 0)

    again : (x : ℕ) (rest : List ℕ) → x < 256 → byte_at ((x ∷ []) ++ rest) ≡ Ok (x, rest)
    again x rest good = refl

    stays : (bytes more : List ℕ) → Stays (byte_at bytes) (byte_at (bytes ++ more)) more
    stays [] more = tt
    stays (b ∷ bytes) more = refl

    no_tag : (bytes : List ℕ) → NoTag (byte_at bytes)
    no_tag [] = tt
    no_tag (b ∷ bytes) = tt

-- ---- numbers

-- numbers of a width, below a limit
record IsWide (width : Width) (limit : ℕ) : Type 0 where
  len : (n : ℕ) → length (to_be_bytes width n) ≡ byte_len width
  back : (bytes : List ℕ) → length bytes ≡ byte_len width → IsBytes bytes → to_be_bytes width (from_be_bytes width bytes) ≡ bytes
  again : (n : ℕ) → n < limit → from_be_bytes width (to_be_bytes width n) ≡ n
  below : (bytes : List ℕ) → IsBytes bytes → from_be_bytes width bytes < limit

wide16 : IsWide w16 (2 ^ 16)
wide16 = record {
  len = λ n. refl;
  back = λ bytes len fits. be_bytes_2 bytes _ len fits refl;
  again = λ n lt. from_be_bytes-to_be_bytes_2 n lt;
  below = λ bytes fits. omega (arith, fits 0, fits 1);
}

wide32 : IsWide w32 (2 ^ 32)
wide32 = record {
  len = λ n. refl;
  back = λ bytes len fits. be_bytes_4 bytes _ len fits refl;
  again = λ n lt. from_be_bytes-to_be_bytes_4 n lt;
  below = λ bytes fits. omega (arith, fits 0, fits 1, fits 2, fits 3);
}

wide64 : IsWide w64 (2 ^ 64)
wide64 = record {
  len = λ n. refl;
  back = λ bytes len fits. be_bytes_8 bytes _ len fits refl;
  again = λ n lt. from_be_bytes-to_be_bytes_8 n lt;
  below = λ bytes fits. omega (arith, fits 0, fits 1, fits 2, fits 3, fits 4, fits 5, fits 6, fits 7);
}

number_field : (width : Width) (limit : ℕ) → IsWide width limit → IsField (number_at width) (number width) (λ n. n < limit)
unfolding number_at
number_field width limit wide = record { laws = record { part = record { takes = takes; again = again }; stays = stays }; no_tag = no_tag }
  where
    takes : (bytes : List ℕ) (n : ℕ) (rest : List ℕ) → IsBytes bytes → number_at width bytes ≡ Ok (n, rest) → Takes bytes (number width n) rest × (n < limit)
    takes bytes n rest fits e =
        let a = bind_ok (bytes_at (byte_len width) bytes) (λ digits. Ok (from_be_bytes width digits.0, digits.1)) (n, rest) e in
        let t = bytes_takes (byte_len width) bytes a.0.0 a.0.1 fits a.1 in
        let digits_fit : IsBytes a.0.0 = subst IsBytes (sym t.2) (IsBytes-take (byte_len width) bytes fits) in
        let back : to_be_bytes width (from_be_bytes width a.0.0) ≡ a.0.0 = wide.back a.0.0 t.1 digits_fit in
        let same = ok_is (from_be_bytes width a.0.0, a.0.1) (n, rest) a.2 in
        let took : Takes bytes (number width (from_be_bytes width a.0.0)) a.0.1 = subst (λ (d : List ℕ). Takes bytes d a.0.1) (sym back) t.0 in
        subst (λ (p : ℕ × List ℕ). Takes bytes (number width p.0) p.1 × (p.0 < limit)) same (took, wide.below a.0.0 digits_fit)

    again : (n : ℕ) (rest : List ℕ) → n < limit → number_at width (number width n ++ rest) ≡ Ok (n, rest)
    again n rest lt =
        let same : bytes_at (byte_len width) (number width n ++ rest) ≡ Ok (number width n, rest) =
        ap (λ (k : ℕ). bytes_at k (number width n ++ rest)) (sym (wide.len n)) ∙ bytes_again (number width n) rest in
        rw (same, wide.again n lt) refl

    stays : (bytes more : List ℕ) → Stays (number_at width bytes) (number_at width (bytes ++ more)) more
    stays bytes more = stays_bind (bytes_at (byte_len width) bytes) _ _ more (bytes_stays (byte_len width) bytes more) (λ digits. refl)

    no_tag : (bytes : List ℕ) → NoTag (number_at width bytes)
    no_tag bytes = no_tag_bind (bytes_at (byte_len width) bytes) _ (bytes_no_tag (byte_len width) bytes) (λ digits. tt)

pub field16 : IsField (number_at w16) (number w16) (λ n. n < 2 ^ 16)
field16 = number_field w16 (2 ^ 16) wide16

pub field32 : IsField (number_at w32) (number w32) (λ n. n < 2 ^ 32)
field32 = number_field w32 (2 ^ 32) wide32

pub field64 : IsField (number_at w64) (number w64) (λ n. n < 2 ^ 64)
field64 = number_field w64 (2 ^ 64) wide64

-- ---- texts

pub text_field : IsField text_at text (λ bytes. length bytes < 256)
unfolding text_at byte_at
text_field = record { laws = record { part = record { takes = takes; again = again }; stays = stays }; no_tag = no_tag }
  where
    takes : (bytes x rest : List ℕ) → IsBytes bytes → text_at bytes ≡ Ok (x, rest) → Takes bytes (text x) rest × (length x < 256)
    takes bytes x rest fits e =
        let a = bind_ok (byte_at bytes) (λ count. bytes_at count.0 count.1) (x, rest) e in
        let t = byte_field.laws.part.takes bytes a.0.0 a.0.1 fits a.1 in
        let u = bytes_takes a.0.0 a.0.1 x rest t.0.rest_fits a.2 in
        let both = Takes-then bytes (a.0.0 ∷ []) a.0.1 x rest t.0 u.0 in
        (subst (λ (k : ℕ). Takes bytes (k ∷ x) rest) (sym u.1) both, omega (arith, t.1, u.1))

    again : (x rest : List ℕ) → length x < 256 → text_at (text x ++ rest) ≡ Ok (x, rest)
    again x rest lt = bytes_again x rest

    stays : (bytes more : List ℕ) → Stays (text_at bytes) (text_at (bytes ++ more)) more
    stays bytes more = stays_bind (byte_at bytes) _ _ more (byte_field.laws.stays bytes more) (λ count. bytes_stays count.0 count.1 more)

    no_tag : (bytes : List ℕ) → NoTag (text_at bytes)
    no_tag bytes = no_tag_bind (byte_at bytes) _ (byte_field.no_tag bytes) (λ count. bytes_no_tag count.0 count.1)

-- ---- a field and its test

-- a field that has to pass a test too
pub also_field : {A : Type 0} {read : List ℕ → Reading A} {spelling : A → List ℕ} {IsGood : A → Type 0} → IsField read spelling IsGood
    → (test : A → Bool) → IsField (λ bytes. checked test (read bytes)) spelling (λ x. IsGood x × (test x ≡ true))
also_field {read = read} field test = record { laws = record { part = checked_part field.laws.part test; stays = stays }; no_tag = no_tag }
  where
    stays : (bytes more : List ℕ) → Stays (checked test (read bytes)) (checked test (read (bytes ++ more))) more
    stays bytes more = stays_checked test (read bytes) _ more (field.laws.stays bytes more)

    no_tag : (bytes : List ℕ) → NoTag (checked test (read bytes))
    no_tag bytes = no_tag_bind (read bytes) _ (field.no_tag bytes) (λ y. no_tag_if (test y.0) (Ok y) (Err NotCanonical) tt tt)

-- the same field, its good values said in another way
pub same_field : {A : Type 0} {read : List ℕ → Reading A} {spelling : A → List ℕ} {IsGood IsFit : A → Type 0} → IsField read spelling IsGood
    → ((x : A) → IsGood x → IsFit x) → ((x : A) → IsFit x → IsGood x) → IsField read spelling IsFit
same_field field to from = record {
  laws = record {
    part = record {
      takes = λ bytes x rest fits e. (let t = field.laws.part.takes bytes x rest fits e in (t.0, to x t.1));
      again = λ x rest fit. field.laws.part.again x rest (from x fit);
    };
    stays = field.laws.stays;
  };
  no_tag = field.no_tag;
}

-- a field whose test says all
pub checked_field : {A : Type 0} {read : List ℕ → Reading A} {spelling : A → List ℕ} {IsGood : A → Type 0} → IsField read spelling IsGood
    → (test : A → Bool) → ((x : A) → test x ≡ true → IsGood x) → IsField (λ bytes. checked test (read bytes)) spelling (λ x. test x ≡ true)
checked_field field test good = same_field (also_field field test) (λ x p. p.1) (λ x passes. (good x passes, passes))

-- ---- one field and then another

pub both_field : {A B : Type 0} {first : List ℕ → Reading A} {second : List ℕ → Reading B} {a_bytes : A → List ℕ} {b_bytes : B → List ℕ}
    {GoodA : A → Type 0} {GoodB : B → Type 0}
    → IsField first a_bytes GoodA → IsField second b_bytes GoodB
    → IsField (both first second) (λ x. a_bytes x.0 ++ b_bytes x.1) (λ x. GoodA x.0 × GoodB x.1)
both_field {first = first} {second = second} field_a field_b =
    record { laws = record { part = both_part field_a.laws.part field_b.laws.part; stays = stays }; no_tag = no_tag }
  where
    stays : (bytes more : List ℕ) → Stays (both first second bytes) (both first second (bytes ++ more)) more
    stays bytes more =
        stays_bind (first bytes) _ _ more (field_a.laws.stays bytes more) (λ y. stays_bind (second y.1) _ _ more (field_b.laws.stays y.1 more) (λ z. refl))

    no_tag : (bytes : List ℕ) → NoTag (both first second bytes)
    no_tag bytes = no_tag_bind (first bytes) _ (field_a.no_tag bytes) (λ y. no_tag_bind (second y.1) _ (field_b.no_tag y.1) (λ z. tt))

-- ---- what is made of a field, which tells the field

pub made_field : {A B : Type 0} {read : List ℕ → Reading A} {spelling : A → List ℕ} {IsGood : A → Type 0} → IsField read spelling IsGood
    → (to : A → B) (from : B → A) → ((y : B) → to (from y) ≡ y) → (spelled : B → List ℕ) → ((x : A) → IsGood x → spelled (to x) ≡ spelling x)
    → ((y : B) → spelled y ≡ spelling (from y)) → (Fits : B → Type 0) → ((x : A) → IsGood x → Fits (to x)) → ((y : B) → Fits y → IsGood (from y))
    → IsField (λ bytes. made to (read bytes)) spelled Fits
made_field {A = A} {B = B} {read = read} {spelling = spelling} {IsGood = IsGood} field to from back spelled there here Fits fit good =
    record { laws = record { part = record { takes = takes; again = again }; stays = stays }; no_tag = no_tag }
  where
    takes : (bytes : List ℕ) (y : B) (rest : List ℕ) → IsBytes bytes → made to (read bytes) ≡ Ok (y, rest) → Takes bytes (spelled y) rest × Fits y
    takes bytes y rest fits e =
        let a = bind_ok (read bytes) (λ x. Ok (to x.0, x.1)) (y, rest) e in
        let t = field.laws.part.takes bytes a.0.0 a.0.1 fits a.1 in
        let took : Takes bytes (spelled (to a.0.0)) a.0.1 = subst (λ (b : List ℕ). Takes bytes b a.0.1) (sym (there a.0.0 t.1)) t.0 in
        subst (λ (p : B × List ℕ). Takes bytes (spelled p.0) p.1 × Fits p.0) (ok_is (to a.0.0, a.0.1) (y, rest) a.2) (took, fit a.0.0 t.1)

    again : (y : B) (rest : List ℕ) → Fits y → made to (read (spelled y ++ rest)) ≡ Ok (y, rest)
    again y rest fits =
        ap (λ b. made to (read (b ++ rest))) (here y) ∙ ap (made to) (field.laws.part.again (from y) rest (good y fits)) ∙ ap (λ z. Ok (z, rest)) (back y)

    stays : (bytes more : List ℕ) → Stays (made to (read bytes)) (made to (read (bytes ++ more))) more
    stays bytes more = stays_bind (read bytes) _ _ more (field.laws.stays bytes more) (λ x. refl)

    no_tag : (bytes : List ℕ) → NoTag (made to (read bytes))
    no_tag bytes = no_tag_bind (read bytes) _ (field.no_tag bytes) (λ x. tt)

-- ---- marks

at_most : (byte : ℕ) → nat_le byte 1 ≡ true → byte ≤ 1
at_most byte small = grind (arith, nat_tests)

digit : Bool → ℕ
digit on = cond on 1 0

pub mark_field : IsField mark_at mark (λ on. Unit {0})
unfolding mark_at digit
mark_field =
    made_field (also_field byte_field (λ byte. nat_le byte 1)) (λ byte. eqb byte 1) digit back mark there (λ on. refl) (λ on. Unit {0}) (λ byte good. tt) small
  where
    back : (on : Bool) → eqb (digit on) 1 ≡ on
    back true = refl
    back false = refl

    there : (byte : ℕ) → (byte < 256) × (nat_le byte 1 ≡ true) → mark (eqb byte 1) ≡ byte ∷ []
    there zero good = refl
    there (suc zero) good = refl
    there (suc (suc n)) good = absurd (let few : suc (suc n) ≤ 1 = at_most (suc (suc n)) good.1 in omega arith)

    small : (on : Bool) → Unit {0} → (digit on < 256) × (nat_le (digit on) 1 ≡ true)
    small true fits = (omega arith, refl)
    small false fits = (omega arith, refl)
