-- What an open disk's first bytes are, where they read as a journal's.
use Rattle.std.proofs.Common.{◌≡◌, ◌≤◌, ◌+◌, ℕ, Some, List, [], ◌∷◌, ◌++◌, length, get_or, take, drop, sym, ◌∙◌, ap, subst, arith, append_assoc, length-append, take-append-drop, leb}
use borrow.Author.Tests.{leb-true}
use Rattle.std.proofs.lemmas.List.{take_at, length-take, get_or-append-add}
use Rattle.std.specs.Int.{w32, from_be_bytes}
use Rattle.bytejournal.specs.Meaning.{numbered, sized, letters, IsFront}
use Rattle.bytejournal.specs.Reading.{HasEntries, IsFound}
use Rattle.bytejournal.specs.declared.reading.Entries.{Entries}
use Rattle.bytejournal.proofs.Entries.{if_some, Spelled, sized_is}
use Rattle.bytejournal.proofs.Fronts.{start, front_start, front_more}

pub record Numbered (bytes : List ℕ) (number : ℕ) (rest : List ℕ) : Type 0 where
  pub long : 4 ≤ length bytes
  pub number_is : from_be_bytes w32 (take 4 bytes) ≡ number
  pub rest_is : drop 4 bytes ≡ rest

pub numbered_is : (bytes : List ℕ) (number : ℕ) (rest : List ℕ) → numbered bytes ≡ Some (number, rest) → Numbered bytes number rest
numbered_is bytes number rest is =
    let parts = if_some (leb 4 (length bytes)) (from_be_bytes w32 (take 4 bytes), drop 4 bytes) (number, rest) is in
    record { long = leb-true _ _ parts.0; number_is = ap (λ (p : ℕ × List ℕ). p.0) parts.1; rest_is = ap (λ (p : ℕ × List ℕ). p.1) parts.1 }

module _ (bytes numbers sizes base rest : List ℕ) (layout generation : ℕ) (begins : bytes ≡ letters ++ (layout ∷ numbers)) (number : numbered numbers
    ≡ Some (generation, sizes)) (text : sized sizes ≡ Some (base, rest)) where
  four : List ℕ
  four = take 4 numbers

  spelled : Spelled sizes (take 4 sizes) base rest
  spelled = sized_is sizes base rest text

  is_number : Numbered numbers generation sizes
  is_number = numbered_is numbers generation sizes number

  pub split : 1 ∷ bytes ≡ start layout (take 4 numbers) (take 4 sizes) base ++ rest
  split =
      ap (λ (l : List ℕ). 1 ∷ l) (begins ∙ ap (λ (l : List ℕ). letters ++ (layout ∷ l))
      (sym (take-append-drop 4 numbers) ∙ ap (λ (l : List ℕ). take 4 numbers ++ l) (is_number.rest_is ∙ spelled.split)
      ∙ sym (append_assoc (take 4 numbers) (take 4 sizes ++ base) rest)))

  pub size : length (start layout (take 4 numbers) (take 4 sizes) base) ≡ 14 + length base
  size = omega (
    arith,
    length-take 4 numbers,
    is_number.long,
    spelled.four_bytes,
    length-append (take 4 numbers) (take 4 sizes ++ base),
    length-append
        (take 4 sizes) base,
  )

  pub start_size : length bytes ≡ 13 + length base + length rest
  start_size = omega (arith, size, ap length split, length-append (start layout (take 4 numbers) (take 4 sizes) base) rest)

  front : IsFront (start layout (take 4 numbers) (take 4 sizes) base) (record { layout = layout; generation = generation; base = base; entries = [] })
  front = subst (λ (g : ℕ). IsFront (start layout (take 4 numbers) (take 4 sizes) base) (record { layout = layout; generation = g; base = base; entries = [] })) is_number.number_is
      (front_start layout (take 4 numbers) (take 4 sizes) base (omega (arith, length-take 4 numbers, is_number.long)) spelled.four_bytes spelled.number)

  pub is_found : (found : Entries) → HasEntries rest found
      → IsFound (1 ∷ bytes) (record { layout = layout; generation = generation; base = base; entries = found.texts; gate = 14 + length base + found.gate })
  is_found found has =
      let s = start layout (take 4 numbers) (take 4 sizes) base in
      let gate = 14 + length base + found.gate in
      let whole : 1 ∷ bytes ≡ (s ++ take found.gate rest) ++ drop found.gate rest =
      split ∙ ap (λ (l : List ℕ). s ++ l) (sym (take-append-drop found.gate rest)) ∙ sym (append_assoc s (take found.gate rest) (drop found.gate rest)) in
      let is_front : take gate (1 ∷ bytes) ≡ s ++ take found.gate rest =
      ap (λ (l : List ℕ). take gate l) whole ∙ take_at (s ++ take found.gate rest) (drop found.gate rest) gate
      (omega (arith, size, length-append s (take found.gate rest), length-take found.gate rest, has.inside)) in
      record {
        inside = omega (arith, start_size, has.inside);
        front = subst (λ (f : List ℕ). IsFront f (record { layout = layout; generation = generation; base = base; entries = found.texts })) (sym is_front)
            (front_more s (take found.gate rest) (record { layout = layout; generation = generation; base = base; entries = [] }) found.texts front has.entries);
        ends = λ inside is_open. has.ends (omega (arith, inside, start_size))
            (sym (get_or-append-add s rest found.gate 0) ∙ ap (λ (l : List ℕ). get_or l (length s + found.gate) 0) (sym split)
            ∙ ap (λ (n : ℕ). get_or (1 ∷ bytes) n 0) (omega (arith, size)) ∙ is_open);
      }
