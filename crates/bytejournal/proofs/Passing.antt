-- How the bytes of a disk are gone through.
use Rattle.std.proofs.Common.{◌≡◌, ◌<◌, ◌≤◌, ◌+◌, ◌-◌, ℕ, None, Some, List, [], ◌∷◌, ◌++◌, length, get_or, take, drop, sym, ◌∙◌, ap, subst, arith, append_assoc, length-append, length-drop, take-append-drop}
use Rattle.std.proofs.lemmas.List.{take_at, take_all, drop_more, length-take}
use Rattle.bytejournal.specs.Meaning.{sized, all_before, entries_of, AreEntries}
use Rattle.bytejournal.proofs.Entries.{Spelled, sized_is, cut_entry}
use Rattle.bytejournal.proofs.Fronts.{one_entry, more_entries}

module _ (bytes : List ℕ) (gate : ℕ) (texts : List (List ℕ)) (inside : gate < length bytes) (is_open : get_or bytes gate 0
    ≡ 1) (so_far : AreEntries (take gate bytes) texts) where
  opened : drop gate bytes ≡ 1 ∷ drop (gate + 1) bytes
  opened = drop_more bytes gate 0 inside ∙ ap (λ (g : ℕ). g ∷ drop (gate + 1) bytes) is_open

  module _ (text rest : List ℕ) (read : sized (drop (gate + 1) bytes) ≡ Some (text, rest)) where
    spelled : Spelled (drop (gate + 1) bytes) (take 4 (drop (gate + 1) bytes)) text rest
    spelled = sized_is (drop (gate + 1) bytes) text rest read

    entry : List ℕ
    entry = 1 ∷ (take 4 (drop (gate + 1) bytes) ++ text)

    pub entry_inside : gate + (5 + length text) ≤ length bytes
    entry_inside = omega (
      arith,
      ap length spelled.split,
      length-append (take 4 (drop (gate + 1) bytes) ++ text) rest,
      length-append
          (take 4 (drop (gate + 1) bytes)) text,
      spelled.four_bytes,
      length-drop (gate + 1) bytes,
    )

    front_is : take (gate + (5 + length text)) bytes ≡ take gate bytes ++ (1 ∷ (take 4 (drop (gate + 1) bytes) ++ text))
    front_is =
        let e = 1 ∷ (take 4 (drop (gate + 1) bytes) ++ text) in
        let whole : bytes ≡ (take gate bytes ++ e) ++ rest =
        sym (take-append-drop gate bytes) ∙ ap (λ (l : List ℕ). take gate bytes ++ l) (opened ∙ ap (λ (l : List ℕ). 1 ∷ l) spelled.split)
        ∙ sym (append_assoc (take gate bytes) e rest) in
        ap (λ (l : List ℕ). take (gate + (5 + length text)) l) whole
        ∙ take_at (take gate bytes ++ e) rest (gate + (5 + length text))
        (omega (arith, length-append (take gate bytes) e, length-append (take 4 (drop (gate + 1) bytes)) text, spelled.four_bytes, length-take gate bytes))

    -- one entry more
    pub entries_go_on : AreEntries (take (gate + (5 + length text)) bytes) (texts ++ text ∷ [])
    entries_go_on =
        subst (λ (front : List ℕ). AreEntries front (texts ++ text ∷ [])) (sym front_is)
        (more_entries (take gate bytes) (1 ∷ (take 4 (drop (gate + 1) bytes) ++ text)) texts (text ∷ []) so_far
        (one_entry (take 4 (drop (gate + 1) bytes)) text spelled.four_bytes spelled.number))

  -- an entry that is cut short
  pub entries_cut : sized (drop (gate + 1) bytes) ≡ None → entries_of bytes ≡ None
  entries_cut cut = ap entries_of (sym (take-append-drop gate bytes)) ∙ so_far (drop gate bytes)
      ∙ ap (all_before texts) (ap entries_of opened ∙ cut_entry (drop (gate + 1) bytes) cut)

-- the range from a place on
pub after_gate : (bytes : List ℕ) (gate : ℕ) → take (length bytes - (gate + 1)) (drop (gate + 1) bytes) ≡ drop (gate + 1) bytes
after_gate bytes gate = take_all (length bytes - (gate + 1)) (drop (gate + 1) bytes) (omega (arith, length-drop (gate + 1) bytes))
