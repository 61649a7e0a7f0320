-- How entries are read.
use Rattle.std.proofs.Common.{◌≡◌, ◌≢◌, ◌≤◌, Bool, if◌then◌else◌, ◌==◌, ℕ, zero, suc, Option, None, Some, true, false, List, [], ◌∷◌, ◌++◌, length, take, drop, refl, sym, ◌∙◌, ap, arith, append_assoc, length-append, leb, eqb, take-append-drop}
use borrow.Author.Tests.{leb-true}
use Rattle.std.proofs.lemmas.List.{take_at, drop_at, length-take}
use Rattle.std.proofs.lemmas.Bool.Decides.{nat_tests}
use Rattle.std.specs.Int.{w32, from_be_bytes}
use Rattle.bytejournal.specs.Meaning.{numbered, counted_out, sized, entry_before, entries_from, entries_within, entries_of}

pub numbered_at : (four rest : List ℕ) → length four ≡ 4 → numbered (four ++ rest) ≡ Some (from_be_bytes w32 four, rest)
numbered_at four rest size =
    let long : leb 4 (length (four ++ rest)) ≡ true = grind (arith, nat_tests, length-append four rest) in
    rw (long, take_at four rest 4 size, drop_at four rest 4 size) refl

pub counted_at : (n : ℕ) (text rest : List ℕ) → n ≡ length text → counted_out (Some (n, text ++ rest)) ≡ Some (text, rest)
counted_at n text rest size =
    let long : leb n (length (text ++ rest)) ≡ true = grind (arith, nat_tests, length-append text rest) in
    rw (long, take_at text rest n (sym size), drop_at text rest n (sym size)) refl

-- a length of four bytes and a text are read as that text
pub sized_at : (four text rest : List ℕ) → length four ≡ 4 → from_be_bytes w32 four ≡ length text → sized ((four ++ text) ++ rest) ≡ Some (text, rest)
sized_at four text rest size is =
    ap sized (append_assoc four text rest) ∙ ap counted_out (numbered_at four (text ++ rest) size) ∙ counted_at (from_be_bytes w32 four) text rest is

-- a test that was passed, and what it lets through
pub if_some : {T : Type 0} (test : Bool) (x y : T) → (if test then Some x else None) ≡ Some y → (test ≡ true) × (x ≡ y)
if_some true x y is = (refl, cc)
if_some false x y is = absurd (cc is)

sized_parts : (long : Bool) (n : ℕ) (bytes text rest : List ℕ) → counted_out (if long then Some (n, bytes) else None) ≡ Some (text, rest)
    → (long ≡ true) × (leb n (length bytes) ≡ true) × (take n bytes ≡ text) × (drop n bytes ≡ rest)
sized_parts true n bytes text rest is =
    let parts = if_some (leb n (length bytes)) (take n bytes, drop n bytes) (text, rest) is in
    (refl, parts.0, ap (λ (p : List ℕ × List ℕ). p.0) parts.1, ap (λ (p : List ℕ × List ℕ). p.1) parts.1)
sized_parts false n bytes text rest is = absurd (cc is)

-- what is read as a text is spelled so
pub record Spelled (bytes four text rest : List ℕ) : Type 0 where
  pub split : bytes ≡ (four ++ text) ++ rest
  pub four_bytes : length four ≡ 4
  pub number : from_be_bytes w32 four ≡ length text

pub sized_is : (bytes text rest : List ℕ) → sized bytes ≡ Some (text, rest) → Spelled bytes (take 4 bytes) text rest
sized_is bytes text rest is =
    let n = from_be_bytes w32 (take 4 bytes) in
    let parts = sized_parts (leb 4 (length bytes)) n (drop 4 bytes) text rest is in
    let long : 4 ≤ length bytes = leb-true _ _ parts.0 in
    let fits : n ≤ length (drop 4 bytes) = leb-true _ _ parts.1 in
    record {
      split = sym (take-append-drop 4 bytes) ∙ ap (λ (l : List ℕ). take 4 bytes ++ l) (sym (take-append-drop n (drop 4 bytes))
          ∙ ap (λ (l : List ℕ). l ++ drop n (drop 4 bytes)) parts.2 ∙ ap (λ (l : List ℕ). text ++ l) parts.3) ∙ sym (append_assoc (take 4 bytes) text rest);
      four_bytes = omega (arith, length-take 4 bytes);
      number = omega (arith, fits, ap length parts.2, length-take n (drop 4 bytes));
    }

pub eqb_not : (x y : ℕ) → x ≢ y → eqb x y ≡ false
eqb_not x y differ = grind (arith, nat_tests)

pub closed : (limit gate : ℕ) (rest : List ℕ) → gate ≢ 1 → entries_within limit (gate ∷ rest) ≡ Some []
closed zero gate rest shut = refl
closed (suc limit) gate rest shut = rw (eqb_not gate 1 shut) refl

same_from : (low high : ℕ) (text : Option (List ℕ × List ℕ))
    → ((first : List ℕ × List ℕ) → text ≡ Some first → entries_within low first.1 ≡ entries_within high first.1)
    → entries_from (λ more. entries_within low more) text ≡ entries_from (λ more. entries_within high more) text
same_from low high None same = refl
same_from low high (Some first) same = ap (entry_before first.0) (same first refl)

-- with limits above the number of bytes the same entries are read
pub same_within : (low high : ℕ) (bytes : List ℕ) → length bytes ≤ low → length bytes ≤ high → entries_within low bytes ≡ entries_within high bytes
same_within zero zero bytes a b = refl
same_within zero (suc high) [] a b = refl
same_within (suc low) zero [] a b = refl
same_within zero (suc high) (gate ∷ rest) a b = absurd (omega arith)
same_within (suc low) zero (gate ∷ rest) a b = absurd (omega arith)
same_within (suc low) (suc high) [] a b = refl
same_within (suc low) (suc high) (gate ∷ rest) a b =
    ap (λ (es : Option (List (List ℕ))). if gate == 1 then es else Some [])
    (same_from low high (sized rest) (λ first is. let spelled = sized_is rest first.0 first.1 is in
    let shorter : length first.1 ≤ length rest = omega (arith, ap length spelled.split, length-append (take 4 rest ++ first.0) first.1) in
    same_within low high first.1 (omega (arith, shorter, a)) (omega (arith, shorter, b))))

-- an open gate and a text are read as an entry before those in what follows
pub open_entry : (four text rest : List ℕ) → length four ≡ 4 → from_be_bytes w32 four ≡ length text
    → entries_of (1 ∷ (four ++ text) ++ rest) ≡ entry_before text (entries_of rest)
open_entry four text rest size is =
    ap (entries_from (λ more. entries_within (length ((four ++ text) ++ rest)) more)) (sized_at four text rest size is)
    ∙ ap (entry_before text) (same_within (length ((four ++ text) ++ rest)) (length rest) rest (omega (arith, length-append (four ++ text) rest)) (omega arith))

-- an open gate without a whole text after it is no entry
pub cut_entry : (rest : List ℕ) → sized rest ≡ None → entries_of (1 ∷ rest) ≡ None
cut_entry rest is = ap (entries_from (λ more. entries_within (length rest) more)) is
