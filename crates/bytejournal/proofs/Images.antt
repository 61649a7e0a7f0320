-- What the images that a crash may leave mean.
use Rattle.std.proofs.Common.{◌≡◌, ◌≢◌, ◌⊎◌, inl, inr, ◌<◌, ◌+◌, ◌^◌, ℕ, suc, List, [], ◌∷◌, ◌++◌, length, get_or, take, drop, refl, sym, ◌∙◌, ap, subst, arith, append_assoc, take-append-drop}
use Rattle.std.proofs.Math.Seq.{take-suc}
use Rattle.std.proofs.lemmas.Bool.{cases_eq}
use Rattle.std.proofs.lemmas.Nat.{from_be_bytes-to_be_bytes_4}
use Rattle.std.specs.Int.{w32, to_be_bytes}
use Rattle.bytejournal.specs.Gates.{with_gate, IsHalfWritten}
use Rattle.bytejournal.specs.Meaning.{Contents, Held, added, letters, held, IsFront, IsWhole}
use Rattle.bytejournal.specs.Meaning.Held.{Shut, Open}
use Rattle.bytejournal.proofs.Fronts.{one_entry, front_more, front_closed, whole_closed, shut_gate, whole_shut}

-- an image means this, and all its gates are there
pub record Means (image : List ℕ) (holds : Held) : Type 0 where
  pub held_is : held image ≡ holds
  pub whole : IsWhole image

pub means_open : (front : List ℕ) (contents : Contents) (gate : ℕ) (rest image : List ℕ) → IsFront front contents → gate ≢ 1
    → image ≡ front ++ (gate ∷ rest) → Means image (Open contents)
means_open front contents gate rest image is shut same =
    subst (λ (l : List ℕ). Means l (Open contents)) (sym same)
    (record { held_is = front_closed front contents gate rest is shut; whole = whole_closed front contents gate rest is shut })

pub means_shut : (gate : ℕ) (rest image : List ℕ) → gate ≢ 1 → image ≡ gate ∷ rest → Means image Shut
means_shut gate rest image shut same = subst (λ (l : List ℕ). Means l Shut) (sym same)
    (record { held_is = shut_gate gate rest shut; whole = whole_shut gate rest shut })

-- the bytes of an entry before its closed gate
abbrev pub entry_bytes : List ℕ → List ℕ
entry_bytes entry = to_be_bytes w32 (length entry) ++ entry

abbrev pub base_bytes : ℕ → ℕ → List ℕ → List ℕ
base_bytes layout generation base = letters ++ (layout ∷ (to_be_bytes w32 generation ++ (to_be_bytes w32 (length base) ++ base)))

module _ (file : List ℕ) (gate : ℕ) (contents : Contents) (front : IsFront (take gate file) contents) (inside : gate < length file)
    (shut : get_or file gate 0 ≢ 1) where
  gate_stands : take (gate + 1) file ≡ take gate file ++ (get_or file gate 0 ∷ [])
  gate_stands = let one : gate + 1 ≡ suc gate = omega arith in ap (λ (n : ℕ). take n file) one ∙ take-suc file gate 0 inside

  -- whatever stands after the closed gate
  pub behind_gate : (image : List ℕ) → take (gate + 1) image ≡ take (gate + 1) file → Means image (Open contents)
  behind_gate image same =
      means_open (take gate file) contents (get_or file gate 0) (drop (gate + 1) image) image front shut
      (sym (take-append-drop (gate + 1) image) ∙ ap (λ (l : List ℕ). l ++ drop (gate + 1) image) (same ∙ gate_stands)
      ∙ append_assoc (take gate file) (get_or file gate 0 ∷ []) (drop (gate + 1) image))

  pub at_gate : Means file (Open contents)
  at_gate = behind_gate file refl

  module _ (entry : List ℕ) (small : length entry < 2 ^ 32) where
    text : List ℕ
    text = entry_bytes entry ++ (0 ∷ [])

    pub front_after : IsFront (take gate file ++ (1 ∷ entry_bytes entry)) (added entry contents)
    front_after = front_more (take gate file) (1 ∷ entry_bytes entry) contents (entry ∷ []) front
        (one_entry (to_be_bytes w32 (length entry)) entry refl (from_be_bytes-to_be_bytes_4 (length entry) small))

    pub file_after : with_gate file gate (entry_bytes entry ++ (0 ∷ [])) 1
        ≡ (take gate file ++ (1 ∷ entry_bytes entry)) ++ (0 ∷ drop (gate + 1 + length (entry_bytes entry ++ (0 ∷ []))) file)
    file_after =
        let rest = drop (gate + 1 + length (entry_bytes entry ++ (0 ∷ []))) file in
        ap (λ (l : List ℕ). take gate file ++ (1 ∷ l)) (append_assoc (entry_bytes entry) (0 ∷ []) rest)
        ∙ sym (append_assoc (take gate file) (1 ∷ entry_bytes entry) (0 ∷ rest))

    pub after_append : Means (with_gate file gate (entry_bytes entry ++ (0 ∷ [])) 1) (Open (added entry contents))
    after_append = means_open (take gate file ++ (1 ∷ entry_bytes entry)) (added entry contents) 0
        (drop (gate + 1 + length (entry_bytes entry ++ (0 ∷ []))) file) (with_gate file gate (entry_bytes entry ++ (0 ∷ [])) 1) front_after
        (omega arith) file_after

    with_shut : (g : ℕ) → g ≢ 1 → Means (with_gate file gate (entry_bytes entry ++ (0 ∷ [])) g) (Open contents)
    with_shut g closed = means_open (take gate file) contents g
        ((entry_bytes entry ++ (0 ∷ [])) ++ drop (gate + 1 + length (entry_bytes entry ++ (0 ∷ []))) file)
        (with_gate file gate (entry_bytes entry ++ (0 ∷ [])) g) front closed refl

    -- while an entry is appended
    pub while_appending : (image : List ℕ) → IsHalfWritten file gate (entry_bytes entry ++ (0 ∷ [])) image
        → Means image (Open contents) ⊎ Means image (Open (added entry contents))
    while_appending image (inl same) = inl (behind_gate image same)
    while_appending image (inr torn) = elim (cases_eq torn.0 1) [
      | inl is_one ↦ inr (subst (λ (l : List ℕ). Means l (Open (added entry contents)))
          (sym (torn.1 ∙ ap (λ (g : ℕ). with_gate file gate (entry_bytes entry ++ (0 ∷ [])) g) is_one)) after_append)
      | inr closed ↦ inl (subst (λ (l : List ℕ). Means l (Open contents)) (sym torn.1) (with_shut torn.0 closed))
    ]
