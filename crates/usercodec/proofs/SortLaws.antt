-- What the laws of a sort of values say of whole values.
use Rattle.std.proofs.Common.{◌≡◌, ℕ, ◌-◌, ◌≤◌, List, [], ◌∷◌, ◌++◌, length, take, drop, Result, Ok, Err, refl, sym, ap, ◌∙◌, arith}
use Rattle.std.specs.Prelude.{IfOk}
use Rattle.std.proofs.lemmas.List.{append-nil, take_at, drop_at, take-append-drop, length-append, length-take}
use Rattle.bytetext.specs.declared.failure.Failure.{Failure}
use Rattle.bytetext.specs.declared.failure.Failure.TheVariants.{Refused, NoMemory}
use Rattle.usercodec.specs.declared.decoded.Decoded.{Decoded}
use Rattle.usercodec.specs.declared.fault.CodecFault.{CodecFault}
use Rattle.usercodec.specs.declared.fault.CodecFault.TheVariants.{Short, BadTag, NotCanonical}
use Rattle.usercodec.specs.Fields.{Reading}
use Rattle.usercodec.specs.Answers.{Decodes, Reads}
use Rattle.usercodec.specs.Laws.{Stays}
use Rattle.usercodec.proofs.Steps.{IsBytes, ok_is, Takes}
use Rattle.usercodec.proofs.FieldLaws.{IsSort}

-- ---- how many bytes a value took

pub rest-le : (bytes text rest : List ℕ) → Takes bytes text rest → length rest ≤ length bytes
rest-le bytes text rest t = omega (arith, ap length t.parts, length-append text rest)

rest-drop : (bytes text rest : List ℕ) → Takes bytes text rest → rest ≡ drop (length bytes - length rest) bytes
rest-drop bytes text rest t =
    let count : length bytes - length rest ≡ length text = omega (arith, ap length t.parts, length-append text rest) in
    sym (drop_at text rest (length text) refl) ∙ ap (λ (b : List ℕ). drop (length text) b) (sym t.parts) ∙ ap (λ (n : ℕ). drop n bytes) (sym count)

-- a value that was read is decoded, where n bytes are left
pub decodes : {A : Type 0} {read : List ℕ → Reading A} {spelling : A → List ℕ} {IsGood : A → Type 0} → IsSort read spelling IsGood
    → (bytes start : List ℕ) (x : A) (rest : List ℕ) (n : ℕ) → IsBytes bytes → start ≡ bytes → n ≡ length rest → read start ≡ Ok (x, rest)
    → (n ≤ length bytes) × ((length bytes - n ≤ length bytes) × (read bytes ≡ Ok (x, drop (length bytes - n) bytes)))
decodes {read = read} {spelling = spelling} sort bytes start x rest n fits begins left e =
    let whole : read bytes ≡ Ok (x, rest) = ap read (sym begins) ∙ e in
    let t = (sort.part.takes bytes x rest fits whole).0 in
    let le = rest-le bytes (spelling x) rest t in
    let dropped : rest ≡ drop (length bytes - n) bytes =
    rest-drop bytes (spelling x) rest t ∙ ap (λ (k : ℕ). drop (length bytes - k) bytes) (sym left) in
    (omega (arith, le, left), (omega arith, whole ∙ ap (λ (r : List ℕ). Ok (x, r)) dropped))

-- ---- what was decoded

front_is : (bytes text : List ℕ) (used : ℕ) → used ≤ length bytes → bytes ≡ text ++ drop used bytes → (take used bytes ≡ text) × (used ≡ length text)
front_is bytes text used le e =
    let lengths : length text ≡ used =
    omega (
      arith,
      ap length e,
      length-append text (drop used bytes),
      length-take used bytes,
      ap length (take-append-drop used bytes),
      length-append
          (take used bytes) (drop used bytes),
    ) in
    (ap (take used) e ∙ take_at text (drop used bytes) used lengths, sym lengths)

pub is_good : {A : Type 0} {read : List ℕ → Reading A} {spelling : A → List ℕ} {IsGood : A → Type 0} → IsSort read spelling IsGood
    → (bytes : List ℕ) (answer : Result (Decoded A) (Failure CodecFault)) → IsBytes bytes → Decodes bytes answer (read bytes)
    → IfOk answer (λ x. IsGood x.value)
is_good sort bytes (Ok x) fits d = (sort.part.takes bytes x.value (drop x.used bytes) fits d.1).1
is_good sort bytes (Err e) fits d = tt

pub is_front : {A : Type 0} {read : List ℕ → Reading A} {spelling : A → List ℕ} {IsGood : A → Type 0} → IsSort read spelling IsGood
    → (bytes : List ℕ) (answer : Result (Decoded A) (Failure CodecFault)) → IsBytes bytes → Decodes bytes answer (read bytes)
    → IfOk answer (λ x. take x.used bytes ≡ spelling x.value)
is_front {spelling = spelling} sort bytes (Ok x) fits d =
    (front_is bytes (spelling x.value) x.used d.0 (sort.part.takes bytes x.value (drop x.used bytes) fits d.1).0.parts).0
is_front sort bytes (Err e) fits d = tt

pub is_used : {A : Type 0} {read : List ℕ → Reading A} {spelling : A → List ℕ} {IsGood : A → Type 0} → IsSort read spelling IsGood
    → (bytes : List ℕ) (answer : Result (Decoded A) (Failure CodecFault)) → IsBytes bytes → Decodes bytes answer (read bytes)
    → IfOk answer (λ x. x.used ≡ length (spelling x.value))
is_used {spelling = spelling} sort bytes (Ok x) fits d =
    (front_is bytes (spelling x.value) x.used d.0 (sort.part.takes bytes x.value (drop x.used bytes) fits d.1).0.parts).1
is_used sort bytes (Err e) fits d = tt

abbrev read_as : {A : Type 0} → A → List ℕ → Reading A
read_as x rest = Ok (x, rest)

abbrev refused : {A : Type 0} → CodecFault → Reading A
refused fault = Err fault

value_is : {A : Type 0} (x y : A) (a b : List ℕ) → read_as x a ≡ read_as y b → (x ≡ y) × (a ≡ b)
value_is {A = A} x y a b e =
    let same = ok_is (x, a) (y, b) e in
    (ap (λ (p : A × List ℕ). p.0) same, ap (λ (p : A × List ℕ). p.1) same)

not_refused : {A : Type 0} (fault : CodecFault) (y : A) (b : List ℕ) → refused fault ≡ read_as y b → ⊥
not_refused fault y b e = cc

pub is_read : {A : Type 0} {read : List ℕ → Reading A} {spelling : A → List ℕ} {IsGood : A → Type 0} → IsSort read spelling IsGood
    → (bytes : List ℕ) (answer : Result (Decoded A) (Failure CodecFault)) (x : A) (rest : List ℕ) → IsBytes bytes → Decodes bytes answer (read bytes)
    → IsGood x → bytes ≡ spelling x ++ rest → Reads answer x (length (spelling x))
is_read {read = read} {spelling = spelling} sort bytes (Ok y) x rest fits d good parts =
    let same = value_is y.value x (drop y.used bytes) rest (sym d.1 ∙ ap read parts ∙ sort.part.again x rest good) in
    (same.0, is_used sort bytes (Ok y) fits d ∙ ap (λ v. length (spelling v)) same.0)
is_read {read = read} sort bytes (Err (Refused fault)) x rest fits d good parts = not_refused fault x rest (sym d ∙ ap read parts ∙ sort.part.again x rest good)
is_read sort bytes (Err NoMemory) x rest fits d good parts = tt

-- ---- no spelling begins another

pub apart : {A : Type 0} {read : List ℕ → Reading A} {spelling : A → List ℕ} {IsGood : A → Type 0} → IsSort read spelling IsGood
    → (a b : A) (x y : List ℕ) → IsGood a → IsGood b → spelling a ++ x ≡ spelling b ++ y → (a ≡ b) × (x ≡ y)
apart {read = read} sort a b x y good_a good_b same = value_is a b x y (sym (sort.part.again a x good_a) ∙ ap read same ∙ sort.part.again b y good_b)

not_empty : (xs : List ℕ) (x : ℕ) (ys : List ℕ) → xs ++ x ∷ ys ≡ [] → ⊥
not_empty [] x ys e = cc
not_empty (z ∷ xs) x ys e = cc

-- a spelling that is cut is too short
pub cut : {A : Type 0} {read : List ℕ → Reading A} {spelling : A → List ℕ} {IsGood : A → Type 0} → IsSort read spelling IsGood
    → (a : A) (front : List ℕ) (next : ℕ) (rest : List ℕ) → IsGood a → spelling a ≡ front ++ next ∷ rest → read front ≡ Err Short
cut {A = A} {read = read} {spelling = spelling} sort a front next rest good parts = by (read front) (sort.stays front (next ∷ rest))
  where
    whole : read (front ++ next ∷ rest) ≡ read_as a []
    whole = ap read (sym parts ∙ sym (append-nil (spelling a))) ∙ sort.part.again a [] good

    by : (r : Reading A) → Stays r (read (front ++ next ∷ rest)) (next ∷ rest) → r ≡ Err Short
    by (Ok x) stays = absurd (not_empty x.1 next rest (value_is x.0 a (x.1 ++ next ∷ rest) [] (sym stays ∙ whole)).1)
    by (Err Short) stays = refl
    by (Err BadTag) stays = absurd (not_refused BadTag a [] (sym stays ∙ whole))
    by (Err NotCanonical) stays = absurd (not_refused NotCanonical a [] (sym stays ∙ whole))
