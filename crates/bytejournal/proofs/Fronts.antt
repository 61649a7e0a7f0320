-- What stands for a base and entries, whatever follows it.
use Rattle.std.proofs.Common.{◌≡◌, ◌≢◌, ℕ, Option, None, Some, List, [], ◌∷◌, ◌++◌, length, refl, sym, ◌∙◌, ap, append_assoc}
use Rattle.std.proofs.lemmas.List.{append-nil}
use Rattle.std.specs.Int.{w32, from_be_bytes}
use Rattle.bytejournal.specs.Meaning.{numbered, entry_before, all_before, entries_of, Contents, extended, from_base, from_generation, letters, held, IsFront, AreEntries, IsWhole}
use Rattle.bytejournal.specs.Meaning.Held.{Shut, Open}
use Rattle.bytejournal.proofs.Entries.{numbered_at, sized_at, open_entry, closed, eqb_not}

-- an open gate and a text are one entry
pub one_entry : (four text : List ℕ) → length four ≡ 4 → from_be_bytes w32 four ≡ length text → AreEntries (1 ∷ (four ++ text)) (text ∷ [])
one_entry four text size is rest = open_entry four text rest size is ∙ before (entries_of rest)
  where
    before : (entries : Option (List (List ℕ))) → entry_before text entries ≡ all_before (text ∷ []) entries
    before None = refl
    before (Some entries) = refl

pub more_entries : (front back : List ℕ) (old new : List (List ℕ)) → AreEntries front old → AreEntries back new → AreEntries (front ++ back) (old ++ new)
more_entries front back old new are more rest = ap entries_of (append_assoc front back rest) ∙ are (back ++ rest) ∙ ap (all_before old) (more rest)
    ∙ before (entries_of rest)
  where
    before : (entries : Option (List (List ℕ))) → all_before old (all_before new entries) ≡ all_before (old ++ new) entries
    before None = refl
    before (Some entries) = ap Some (sym (append_assoc old new entries))

-- the contents with these entries more
abbrev pub with_entries : Contents → List (List ℕ) → Contents
with_entries contents entries = record { layout = contents.layout; generation = contents.generation; base = contents.base; entries = contents.entries ++ entries }

pub front_more : (front back : List ℕ) (contents : Contents) (entries : List (List ℕ)) → IsFront front contents → AreEntries back entries
    → IsFront (front ++ back) (with_entries contents entries)
front_more front back contents entries is are rest = ap held (append_assoc front back rest) ∙ is (back ++ rest) ∙ ap (extended contents) (are rest)
    ∙ before (entries_of rest)
  where
    before : (more : Option (List (List ℕ))) → extended contents (all_before entries more) ≡ extended (with_entries contents entries) more
    before None = refl
    before (Some more) = ap (λ (es : List (List ℕ)). Open (record { layout = contents.layout; generation = contents.generation; base = contents.base; entries = es }))
        (sym (append_assoc contents.entries entries more))

-- the bytes before the first gate after a base
abbrev pub start : ℕ → List ℕ → List ℕ → List ℕ → List ℕ
start layout generation size base = 1 ∷ (letters ++ (layout ∷ (generation ++ (size ++ base))))

pub front_start : (layout : ℕ) (generation size base : List ℕ) → length generation ≡ 4 → length size ≡ 4 → from_be_bytes w32 size ≡ length base
    → IsFront (start layout generation size base) (record { layout = layout; generation = from_be_bytes w32 generation; base = base; entries = [] })
front_start layout generation size base g s is rest =
    ap (from_generation layout) (ap numbered (append_assoc generation (size ++ base) rest) ∙ numbered_at generation ((size ++ base) ++ rest) g)
    ∙ ap (from_base layout (from_be_bytes w32 generation)) (sized_at size base rest s is)

nothing_more : (contents : Contents) → extended contents (Some []) ≡ Open contents
nothing_more contents = ap (λ (es : List (List ℕ)). Open (record { layout = contents.layout; generation = contents.generation; base = contents.base; entries = es }))
    (append-nil contents.entries)

-- a closed gate ends the entries, whatever stands after it
pub front_closed : (front : List ℕ) (contents : Contents) (gate : ℕ) (rest : List ℕ) → IsFront front contents → gate ≢ 1
    → held (front ++ gate ∷ rest) ≡ Open contents
front_closed front contents gate rest is shut = is (gate ∷ rest) ∙ ap (extended contents) (closed (length (gate ∷ rest)) gate rest shut) ∙ nothing_more contents

-- and so does a missing one
pub front_alone : (front : List ℕ) (contents : Contents) → IsFront front contents → held front ≡ Open contents
front_alone front contents is = ap held (sym (append-nil front)) ∙ is [] ∙ nothing_more contents

pub whole_closed : (front : List ℕ) (contents : Contents) (gate : ℕ) (rest : List ℕ) → IsFront front contents → gate ≢ 1 → IsWhole (front ++ gate ∷ rest)
whole_closed front contents gate rest is shut more =
    ap held (append_assoc front (gate ∷ rest) more) ∙ front_closed front contents gate (rest ++ more) is shut
    ∙ sym (front_closed front contents gate rest is shut)

-- where the first gate is closed nothing counts
pub shut_gate : (gate : ℕ) (rest : List ℕ) → gate ≢ 1 → held (gate ∷ rest) ≡ Shut
shut_gate gate rest shut = rw (eqb_not gate 1 shut) refl

pub whole_shut : (gate : ℕ) (rest : List ℕ) → gate ≢ 1 → IsWhole (gate ∷ rest)
whole_shut gate rest shut more = shut_gate gate (rest ++ more) shut ∙ sym (shut_gate gate rest shut)
