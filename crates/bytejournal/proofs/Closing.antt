-- The disk that doesn't count, while its first gate is closed.
use Rattle.std.proofs.Common.{◌≡◌, ◌≢◌, inl, inr, ◌<◌, ◌&&◌, Bool, true, false, not, ℕ, List, [], ◌∷◌, length, get_or, drop, refl, sym, ◌∙◌, ap, subst, arith}
use Rattle.std.proofs.lemmas.Bool.{cases_eq}
use Rattle.bytejournal.specs.Gates.{with_first, closed_first, IsHalfClosed}
use Rattle.bytejournal.specs.Meaning.{Contents, held, IsWhole}
use Rattle.bytejournal.specs.Meaning.Held.{Shut, Open}
use Rattle.bytejournal.specs.Journal.{IdleIs}
use Rattle.bytejournal.proofs.Images.{Means, means_shut}

pub first_shut : (bytes : List ℕ) → 0 < length bytes → get_or bytes 0 0 ≢ 1 → Means bytes Shut
first_shut [] long shut = absurd (omega arith)
first_shut (gate ∷ rest) long shut = means_shut gate rest (gate ∷ rest) shut refl

-- a disk that holds a journal begins with an open gate
first_open : (file : List ℕ) (contents : Contents) → held file ≡ Open contents → file ≡ with_first file 1
first_open [] contents is = absurd (cc is)
first_open (gate ∷ rest) contents is = elim (cases_eq gate 1) [
  | inl is_one ↦ ap (λ (g : ℕ). g ∷ rest) is_one
  | inr shut ↦ let both : Shut ≡ Open contents = sym (means_shut gate rest (gate ∷ rest) shut refl).held_is ∙ is in absurd (cc both)
]

pub record IsClosed (file : List ℕ) : Type 0 where
  pub inside : 0 < length file
  pub shut : get_or file 0 0 ≢ 1

pub is_closed : (is_open : Bool) (generation : ℕ) (file : List ℕ) → IdleIs is_open generation file → IsClosed (closed_first is_open file)
is_closed false generation file is = record { inside = is.0; shut = is.1 }
is_closed true generation file is = record { inside = omega arith; shut = λ is_one. let both : 0 ≡ 1 = is_one in absurd (omega arith) }

-- an image holds nothing, or what the file holds
abbrev pub HoldsNoOther : List ℕ → List ℕ → Type 0
HoldsNoOther file image = (contents : Contents) → held image ≡ Open contents → held file ≡ Open contents

pub shut_holds_none : (file image : List ℕ) → Means image Shut → HoldsNoOther file image
shut_holds_none file image m contents h = let both : Shut ≡ Open contents = sym m.held_is ∙ h in absurd (cc both)

-- an image that doesn't count, as the file it was left of
pub record IsIdleImage (generation : ℕ) (file image : List ℕ) : Type 0 where
  pub is_open : Bool
  pub idle : IdleIs is_open generation image
  pub whole : IsWhole image
  pub no_other : HoldsNoOther file image

module _ (generation : ℕ) (file : List ℕ) where
  same_image : (is_open : Bool) → IdleIs is_open generation file → IsWhole file → (image : List ℕ) → image ≡ file → IsIdleImage generation file image
  same_image is_open idle whole image is = subst (IsIdleImage generation file) (sym is)
      (record { is_open = is_open; idle = idle; whole = whole; no_other = λ contents h. h })

  shut_image : (gate : ℕ) → gate ≢ 1 → (image : List ℕ) → image ≡ with_first file gate → IsIdleImage generation file image
  shut_image gate shut image is =
      let m = means_shut gate (drop 1 file) image shut is in
      record {
        is_open = false;
        idle = (omega (arith, ap length is), λ one. shut (ap (λ (l : List ℕ). get_or l 0 0) (sym is) ∙ one));
        whole = m.whole;
        no_other = shut_holds_none file image m;
      }

  -- what stands beside the active disk while the other one's first gate is closed
  pub while_closing : (is_open : Bool) (image : List ℕ) → IdleIs is_open generation file → IsWhole file → IsHalfClosed is_open file image
      → IsIdleImage generation file image
  while_closing is_open image idle whole (inl same) = same_image is_open idle whole image same
  while_closing false image idle whole (inr torn) = absurd (cc (torn.1))
  while_closing true image idle whole (inr torn) = elim (cases_eq torn.0 1) [
    | inl is_one ↦ same_image true idle whole image
        (torn.2 ∙ ap (λ (g : ℕ). with_first file g) is_one ∙ sym (first_open file idle.0 idle.1))
    | inr shut ↦ shut_image torn.0 shut image torn.2
  ]

both_true : (a b : Bool) → a && b ≡ true → a ≡ true
both_true true b is = refl
both_true false b is = absurd (cc is)

-- the disk that doesn't count, after its first gate was closed if that was wanted
pub record IsIdleAfter (is_open wants : Bool) (generation : ℕ) (file : List ℕ) : Type 0 where
  pub idle : IdleIs (is_open && not (is_open && wants)) generation (closed_first (is_open && wants) file)
  pub whole : IsWhole (closed_first (is_open && wants) file)
  pub shut : wants ≡ true → held (closed_first (is_open && wants) file) ≡ Shut

pub idle_after : (is_open wants : Bool) (generation : ℕ) (file : List ℕ) → IdleIs is_open generation file → IsWhole file
    → IsIdleAfter is_open wants generation file
idle_after false wants generation file idle whole =
    record { idle = idle; whole = whole; shut = λ _. (first_shut file idle.0 idle.1).held_is }
idle_after true false generation file idle whole = record { idle = idle; whole = whole; shut = λ none. absurd (cc none) }
idle_after true true generation file idle whole =
    let is = is_closed true generation file idle in
    let m = first_shut (with_first file 0) is.inside is.shut in
    record { idle = (is.inside, is.shut); whole = m.whole; shut = λ _. m.held_is }

-- what a gate that is closed if it is open leaves
pub half_closed : (is_open wants : Bool) (file image : List ℕ) → IsHalfClosed (is_open && wants) file image → IsHalfClosed is_open file image
half_closed is_open wants file image (inl same) = inl same
half_closed is_open wants file image (inr torn) = inr (torn.0, both_true is_open wants torn.1, torn.2)
