-- Where the gate stands that ends a disk.
use Rattle.std.proofs.Common.{◌≡◌, ◌≢◌, ◌<◌, ◌≤◌, ◌+◌, Bool, true, false, if◌then◌else◌, ℕ, zero, suc, Option, None, Some, List, [], ◌∷◌, ◌++◌, length, get_or, take, drop, refl, sym, ◌∙◌, ap, subst, arith, append_assoc, length-append, take-append-drop, eqb}
use Rattle.std.proofs.lemmas.Bool.Decides.{nat_tests}
use Rattle.std.proofs.lemmas.Slice.Eq.{bytes_eq-Decides}
use Rattle.std.proofs.lemmas.List.{take_at, take-take, length-take, get_or-take, get_or-append-add}
use Rattle.std.specs.Int.{w32, from_be_bytes}
use Rattle.std.specs.Str.{bytes_eq}
use Rattle.bytejournal.specs.declared.reading.Found.{Found}
use Rattle.bytejournal.specs.Meaning.{Contents, numbered, sized, entry_before, entries_from, entries_within, entries_of, all_before, extended, from_base, from_generation, from_layout, from_letters, letters, held, AreEntries, IsFront}
use Rattle.bytejournal.specs.Meaning.Held.{Shut, Broken, Open}
use Rattle.bytejournal.specs.Reading.{EndsAt, HasEntries, IsFound}
use Rattle.bytejournal.specs.Ending.{size_of}
use Rattle.bytejournal.proofs.Entries.{sized_is}
use Rattle.bytejournal.proofs.Fronts.{one_entry, more_entries}
use Rattle.bytejournal.proofs.Images.{at_gate}
use Rattle.bytejournal.proofs.Starts.{is_found}
use Rattle.bytejournal.proofs.Choosing.{found_contents, found_held}

-- ---- entries take their size

none_before : (entries : Option (List (List ℕ))) → entries ≡ all_before [] entries
none_before None = refl
none_before (Some entries) = refl

-- no entry
nothing : (bytes : List ℕ) (entries : List (List ℕ)) → EndsAt bytes 0 → (let o : Option (List (List ℕ)) = Some [] in o) ≡ Some entries
    → HasEntries bytes (record { texts = entries; gate = size_of entries })
nothing bytes entries ends is =
    let none : [] ≡ entries = cc in
    subst (λ (es : List (List ℕ)). HasEntries bytes (record { texts = es; gate = size_of es })) none
    (record { inside = omega arith; entries = λ rest. none_before (entries_of rest); ends = ends })

-- an entry before others
one_before : (four text more : List ℕ) (others : List (List ℕ)) (gate : ℕ) → length four ≡ 4 → from_be_bytes w32 four ≡ length text
    → HasEntries more (record { texts = others; gate = gate })
    → HasEntries (1 ∷ ((four ++ text) ++ more)) (record { texts = text ∷ others; gate = 5 + length text + gate })
one_before four text more others gate size is has =
    let entry : List ℕ = 1 ∷ (four ++ text) in
    let long : length entry ≡ 5 + length text = omega (arith, size, length-append four text) in
    let front : take (5 + length text + gate) (entry ++ more) ≡ entry ++ take gate more =
    ap (λ (l : List ℕ). take (5 + length text + gate) (entry ++ l)) (sym (take-append-drop gate more))
    ∙ ap (take (5 + length text + gate)) (sym (append_assoc entry (take gate more) (drop gate more)))
    ∙ take_at (entry ++ take gate more) (drop gate more) (5 + length text + gate)
    (omega (arith, long, length-append entry (take gate more), length-take gate more, has.inside)) in
    record {
      inside = omega (arith, long, length-append entry more, has.inside);
      entries = subst (λ (l : List ℕ). AreEntries l (text ∷ others)) (sym front)
          (more_entries entry (take gate more) (text ∷ []) others (one_entry four text size is) has.entries);
      ends = λ inside is_open. has.ends (omega (arith, inside, long, length-append entry more))
          (sym (get_or-append-add entry more gate 0) ∙ ap (λ (n : ℕ). get_or (entry ++ more) n 0) (omega (arith, long)) ∙ is_open);
    }

not_open : (gate : ℕ) (rest : List ℕ) → eqb gate 1 ≡ false → EndsAt (gate ∷ rest) 0
not_open gate rest closed inside is_open = let same : eqb gate 1 ≡ true = grind (arith, nat_tests) in absurd (let both : false ≡ true = sym closed ∙ same in cc)

is_one : (gate : ℕ) → eqb gate 1 ≡ true → gate ≡ 1
is_one gate is = grind (arith, nat_tests)

-- the entries that are read end where their size says
pub entries_end : (limit : ℕ) (bytes : List ℕ) (entries : List (List ℕ)) → length bytes ≤ limit → entries_within limit bytes ≡ Some entries
    → HasEntries bytes (record { texts = entries; gate = size_of entries })
entries_end zero [] entries few is = nothing [] entries (λ inside. absurd (omega (arith, inside))) is
entries_end zero (gate ∷ rest) entries few is = absurd (omega (arith, few))
entries_end (suc limit) [] entries few is = nothing [] entries (λ inside. absurd (omega (arith, inside))) is
entries_end (suc limit) (gate ∷ rest) entries few is =
    by_gate (eqb gate 1) refl is (λ more others fewer read. entries_end limit more others fewer read)
  where
    -- those that stand after this entry
    Others : Type 0
    Others = (more : List ℕ) (others : List (List ℕ)) → length more ≤ limit → entries_within limit more ≡ Some others
        → HasEntries more (record { texts = others; gate = size_of others })

    Ends : Type 0
    Ends = HasEntries (gate ∷ rest) (record { texts = entries; gate = size_of entries })

    after : (text more : List ℕ) → sized rest ≡ Some (text, more) → gate ≡ 1 → (read : Option (List (List ℕ))) → entries_within limit more ≡ read
        → entry_before text read ≡ Some entries → Others → Ends
    after text more spelled one None read is ended = absurd cc
    after text more spelled one (Some others) read is ended =
        let spelling = sized_is rest text more spelled in
        let fewer : length more ≤ limit = omega (arith, few, ap length spelling.split, length-append (take 4 rest ++ text) more) in
        let these : text ∷ others ≡ entries = cc in
        let whole : 1 ∷ ((take 4 rest ++ text) ++ more) ≡ gate ∷ rest =
        ap (λ (l : List ℕ). 1 ∷ l) (sym spelling.split) ∙ ap (λ (g : ℕ). g ∷ rest) (sym one) in
        subst (λ (es : List (List ℕ)). HasEntries (gate ∷ rest) (record { texts = es; gate = size_of es })) these
        (subst (λ (l : List ℕ). HasEntries l (record { texts = text ∷ others; gate = size_of (text ∷ others) })) whole
        (one_before (take 4 rest) text more others (size_of others) spelling.four_bytes spelling.number (ended more others fewer read)))

    by_text : gate ≡ 1 → (text : Option (List ℕ × List ℕ)) → sized rest ≡ text
        → entries_from (λ more. entries_within limit more) text ≡ Some entries → Others → Ends
    by_text one None cut is ended = absurd cc
    by_text one (Some first) spelled is ended = after first.0 first.1 spelled one (entries_within limit first.1) refl is ended

    by_gate : (is_open : Bool) → eqb gate 1 ≡ is_open
        → (if is_open then entries_from (λ more. entries_within limit more) (sized rest) else Some []) ≡ Some entries → Others → Ends
    by_gate true opened is ended = by_text (is_one gate opened) (sized rest) refl is ended
    by_gate false closed is ended = nothing (gate ∷ rest) entries (not_open gate rest closed) is

-- ---- and so does a disk

-- the contents that a disk holds, and the gate after them
abbrev pub found_at : Contents → ℕ → Found
found_at contents gate = record { layout = contents.layout; generation = contents.generation; base = contents.base; entries = contents.entries; gate = gate }

abbrev pub end_of : Contents → ℕ
end_of contents = 14 + length contents.base + size_of contents.entries

some_contents : (a b : Contents) → Open a ≡ Open b → a ≡ b
some_contents a b is = cc

module _ (bytes : List ℕ) (contents : Contents) where
  by_entries : (layout generation : ℕ) (numbers sizes base rest : List ℕ) → bytes ≡ letters ++ (layout ∷ numbers) → numbered numbers ≡ Some (generation, sizes)
      → sized sizes ≡ Some (base, rest) → (read : Option (List (List ℕ))) → entries_of rest ≡ read
      → extended (record { layout = layout; generation = generation; base = base; entries = [] }) read ≡ Open contents
      → IsFound (1 ∷ bytes) (found_at contents (end_of contents))
  by_entries layout generation numbers sizes base rest begins number text None read is = absurd cc
  by_entries layout generation numbers sizes base rest begins number text (Some entries) read is =
      let these : record { layout = layout; generation = generation; base = base; entries = entries } ≡ contents = some_contents _ contents is in
      subst (λ (c : Contents). IsFound (1 ∷ bytes) (found_at c (end_of c))) these
      (is_found bytes numbers sizes base rest layout generation begins number text (record { texts = entries; gate = size_of entries })
      (entries_end (length rest) rest entries (omega arith) read))

  by_base : (layout generation : ℕ) (numbers sizes : List ℕ) → bytes ≡ letters ++ (layout ∷ numbers) → numbered numbers ≡ Some (generation, sizes)
      → (text : Option (List ℕ × List ℕ)) → sized sizes ≡ text → from_base layout generation text ≡ Open contents
      → IsFound (1 ∷ bytes) (found_at contents (end_of contents))
  by_base layout generation numbers sizes begins number None text is = absurd cc
  by_base layout generation numbers sizes begins number (Some base) text is =
      by_entries layout generation numbers sizes base.0 base.1 begins number text (entries_of base.1) refl is

  by_number : (layout : ℕ) (numbers : List ℕ) → bytes ≡ letters ++ (layout ∷ numbers) → (number : Option (ℕ × List ℕ)) → numbered numbers ≡ number
      → from_generation layout number ≡ Open contents → IsFound (1 ∷ bytes) (found_at contents (end_of contents))
  by_number layout numbers begins None number is = absurd cc
  by_number layout numbers begins (Some generation) number is =
      by_base layout generation.0 numbers generation.1 begins number (sized generation.1) refl is

  by_layout : (rest : List ℕ) → bytes ≡ letters ++ rest → from_layout rest ≡ Open contents → IsFound (1 ∷ bytes) (found_at contents (end_of contents))
  by_layout [] begins is = absurd cc
  by_layout (layout ∷ numbers) begins is = by_number layout numbers begins (numbered numbers) refl is

  pub after_gate : from_letters bytes ≡ Open contents → IsFound (1 ∷ bytes) (found_at contents (end_of contents))
  after_gate is = by (bytes_eq (take 4 bytes) letters) refl is
    where
      by : (same : Bool) → bytes_eq (take 4 bytes) letters ≡ same → (if same then from_layout (drop 4 bytes) else Broken) ≡ Open contents
          → IsFound (1 ∷ bytes) (found_at contents (end_of contents))
      by false same is = absurd cc
      by true same is =
          by_layout (drop 4 bytes)
          (sym (take-append-drop 4 bytes) ∙ ap (λ (l : List ℕ). l ++ drop 4 bytes) ((bytes_eq-Decides (take 4 bytes) letters).0 same)) is

-- a disk ends where its base and entries end
pub held_end : (bytes : List ℕ) (contents : Contents) → held bytes ≡ Open contents → IsFound bytes (found_at contents (end_of contents))
held_end [] contents is = absurd cc
held_end (gate ∷ rest) contents is = by (eqb gate 1) refl is
  where
    by : (is_open : Bool) → eqb gate 1 ≡ is_open → (if is_open then from_letters rest else Shut) ≡ Open contents
        → IsFound (gate ∷ rest) (found_at contents (end_of contents))
    by false opened is = absurd cc
    by true opened is =
        subst (λ (g : ℕ). IsFound (g ∷ rest) (found_at contents (end_of contents))) (sym (is_one gate opened)) (after_gate rest contents is)

-- ---- and nowhere else

none_earlier : (bytes : List ℕ) (a b : Found) → IsFound bytes a → IsFound bytes b → a.gate < b.gate → ⊥
none_earlier bytes a b one other less =
    let file = take b.gate bytes in
    let long : length file ≡ b.gate = omega (arith, length-take b.gate bytes, other.inside) in
    let front : IsFront (take a.gate file) (found_contents a) =
    subst (λ (l : List ℕ). IsFront l (found_contents a)) (sym (take-take a.gate b.gate bytes (omega (arith, less)))) one.front in
    let shut : get_or file a.gate 0 ≢ 1 = λ is_open.
    one.ends (omega (arith, less, other.inside)) (sym (get_or-take b.gate bytes a.gate 0 less) ∙ is_open) in
    let means = at_gate file a.gate (found_contents a) front (omega (arith, less, long)) shut in
    let cut : Broken ≡ Open (found_contents a) = sym (other.front (1 ∷ [])) ∙ means.whole (1 ∷ []) ∙ means.held_is in
    absurd cc

pub same_gate : (bytes : List ℕ) (a b : Found) → IsFound bytes a → IsFound bytes b → a.gate ≡ b.gate
same_gate bytes a b one other = grind (arith, none_earlier bytes a b one other, none_earlier bytes b a other one)

-- the gate that was found is the one after the base and the entries
pub found_end : (bytes : List ℕ) (found : Found) → IsFound bytes found → found.gate ≡ 14 + length found.base + size_of found.entries
found_end bytes found is =
    same_gate bytes found (found_at (found_contents found) (end_of (found_contents found))) is
    (held_end bytes (found_contents found) (found_held bytes found is))
