-- Bytes that all end a line give no line and begin none.
use Rattle.std.proofs.Common.{◌≡◌, ◌<◌, ℕ, zero, suc, true, false, Bool, List, [], ◌∷◌, ◌++◌, length, get_or, take, drop}
use Rattle.std.proofs.Common.{map, refl, sym, subst, ◌∙◌, ap, arith, inl, inr, Option, None, is_some}
use Rattle.std.specs.Prelude.{IsTrue}
use Rattle.std.specs.List.{flat_map, list_all}
use Rattle.std.proofs.lemmas.Bool.{cases_Bool, and_parts, and_from, and_left, and_right, false≢true}
use Rattle.std.proofs.lemmas.List.Folds.{list_all-append}
use Rattle.ircline.specs.declared.line.Line.{Line}
use Rattle.ircline.specs.Words.{up_to, from_first}
use Rattle.ircline.specs.Classes.{is_end, filled}
use Rattle.ircline.specs.Reading.{line_of}
use Rattle.ircline.specs.Stream.{runs_from, rest_from, lines_of, begun, held_of, last_line}

abbrev pub all_end : List ℕ → Bool
all_end text = list_all is_end text

abbrev pub whole : List (List ℕ) → List ℕ
whole pieces = flat_map (λ (piece : List ℕ). piece) pieces

runs_alone : (text : List ℕ) → all_end text ≡ true → (runs_from [] text ≡ []) × (rest_from [] text ≡ [])
runs_alone [] all = (refl, refl)
runs_alone (b ∷ text) all =
    let parts = and_parts (is_end b) (all_end text) all in
    rw parts.0 (runs_alone text parts.1)

pub lines_alone : (text : List ℕ) → all_end text ≡ true → (lines_of text ≡ []) × (begun text ≡ [])
lines_alone text all = let parts = runs_alone text all in (ap (map line_of) parts.0, parts.1)

-- ---- the parts of a piece

-- what stands before the first end ends nothing
pub some_front : (piece front : List ℕ) → front ≡ up_to is_end piece → 0 < length front → all_end piece ≡ false
some_front [] front is some = let none : length front ≡ 0 = ap length is in absurd (omega (arith, none, some))
some_front (b ∷ piece) front is some =
    elim (cases_Bool (is_end b)) [
      | inl ends ↦ let none : front ≡ [] = rw ends at is in
          let len : length front ≡ 0 = ap length none in
          absurd (omega (arith, len, some))
      | inr goes_on ↦ and_left (is_end b) (all_end piece) goes_on
    ]

pub some_rest : (piece rest : List ℕ) → rest ≡ from_first is_end piece → all_end rest ≡ false → all_end piece ≡ false
some_rest [] rest is some = ap all_end (sym is) ∙ some
some_rest (b ∷ piece) rest is some =
    elim (cases_Bool (is_end b)) [
      | inl ends ↦ let same : rest ≡ b ∷ piece = rw ends at is in ap all_end (sym same) ∙ some
      | inr goes_on ↦ and_left (is_end b) (all_end piece) goes_on
    ]

pub some_behind : (text : List ℕ) → all_end (drop 1 text) ≡ false → all_end text ≡ false
some_behind [] some = some
some_behind (b ∷ text) some = and_right (is_end b) (all_end text) some

pub some_left : (text rest next : List ℕ) → rest ≡ from_first is_end text → next ≡ drop 1 rest → all_end next ≡ false → all_end text ≡ false
some_left text rest next is next-is some = some_rest text rest is (some_behind rest (ap all_end (sym next-is) ∙ some))

-- what is kept of it
pub some_run : (piece front run : List ℕ) → front ≡ up_to is_end piece → run ≡ take 511 front → 0 < length run → all_end piece ≡ false
some_run piece [] run is run-is some = let none : length run ≡ 0 = ap length run-is in absurd (omega (arith, none, some))
some_run piece (b ∷ front) run is run-is some = some_front piece (b ∷ front) is (omega arith)

pub some_begun : (text run : List ℕ) → run ≡ begun text → 0 < length run → all_end text ≡ false
some_begun text run is some =
    elim (cases_Bool (all_end text)) [
      | inl all ↦ let len : length run ≡ 0 = ap length (is ∙ (lines_alone text all).1) in absurd (omega (arith, len, some))
      | inr goes_on ↦ goes_on
    ]

-- ---- the pieces of a stream

all_so_far : (pieces : List (List ℕ)) (i : ℕ) → all_end (whole pieces) ≡ true → all_end (whole (take i pieces)) ≡ true
all_so_far [] zero all = refl
all_so_far [] (suc i) all = refl
all_so_far (p ∷ pieces) zero all = refl
all_so_far (p ∷ pieces) (suc i) all =
    let parts = and_parts (all_end p) (all_end (whole pieces)) (sym (list_all-append is_end p (whole pieces)) ∙ all) in
    list_all-append is_end p (whole (take i pieces)) ∙ and_from (all_end p) (all_end (whole (take i pieces))) parts.0 (all_so_far pieces i parts.1)

all_piece : (pieces : List (List ℕ)) (i : ℕ) (d : List ℕ) → i < length pieces → all_end (whole pieces) ≡ true → all_end (get_or pieces i d) ≡ true
all_piece [] i d less all = absurd (omega arith)
all_piece (p ∷ pieces) zero d less all = (and_parts (all_end p) (all_end (whole pieces)) (sym (list_all-append is_end p (whole pieces)) ∙ all)).0
all_piece (p ∷ pieces) (suc i) d less all =
    all_piece pieces i d (omega arith) (and_parts (all_end p) (all_end (whole pieces)) (sym (list_all-append is_end p (whole pieces)) ∙ all)).1

-- a piece took memory at a reader that holds so much
pub piece_goes_on : (pieces : List (List ℕ)) (i : ℕ) (d piece held : List ℕ) → i < length pieces → piece ≡ get_or pieces i d
    → held ≡ held_of (whole (take i pieces)) → (held ≡ [] → all_end piece ≡ false) → all_end (whole pieces) ≡ false
piece_goes_on pieces i d piece held less is held-is some =
    elim (cases_Bool (all_end (whole pieces))) [
      | inl all ↦ let none : held ≡ [] = held-is ∙ ap (take 511) (lines_alone (whole (take i pieces)) (all_so_far pieces i all)).1 in
          absurd (false≢true (sym (some none) ∙ ap all_end is ∙ all_piece pieces i d less all))
      | inr goes_on ↦ goes_on
    ]

-- a piece ended some line
pub piece_ends : (pieces : List (List ℕ)) (i : ℕ) (d piece : List ℕ) (ended : List Line) → i < length pieces → piece ≡ get_or pieces i d
    → lines_of (whole (take i pieces) ++ piece) ≡ lines_of (whole (take i pieces)) ++ ended → 0 < length ended → all_end (whole pieces) ≡ false
piece_ends pieces i d piece ended less is ended-is some =
    elim (cases_Bool (all_end (whole pieces))) [
      | inl all ↦ let before = all_so_far pieces i all in
          let both = list_all-append is_end (whole (take i pieces)) piece
          ∙ and_from _ _ before (ap all_end is ∙ all_piece pieces i d less all) in
          let none : [] ≡ ended = sym (lines_alone (whole (take i pieces) ++ piece) both).0 ∙ ended-is
          ∙ ap (λ (l : List Line). l ++ ended) (lines_alone (whole (take i pieces)) before).0 in
          let len : length ended ≡ 0 = ap length (sym none) in
          absurd (omega (arith, len, some))
      | inr goes_on ↦ goes_on
    ]

-- a run is held
pub run_held : (pieces : List (List ℕ)) (i : ℕ) (held : List ℕ) → held ≡ held_of (whole (take i pieces)) → IsTrue (filled held) → all_end (whole pieces) ≡ false
run_held pieces i held is some =
    elim (cases_Bool (all_end (whole pieces))) [
      | inl all ↦ let none : held ≡ [] = is ∙ ap (take 511) (lines_alone (whole (take i pieces)) (all_so_far pieces i all)).1 in
          absurd (false≢true (subst (λ (h : List ℕ). IsTrue (filled h)) none some))
      | inr goes_on ↦ goes_on
    ]

-- the stream's end ends a line
pub run_last : (pieces : List (List ℕ)) (i : ℕ) (last : Option Line) → last ≡ last_line (begun (whole (take i pieces))) → is_some last ≡ true
    → all_end (whole pieces) ≡ false
run_last pieces i last is some =
    elim (cases_Bool (all_end (whole pieces))) [
      | inl all ↦ let none : last ≡ None = is ∙ ap last_line (lines_alone (whole (take i pieces)) (all_so_far pieces i all)).1 in
          absurd (false≢true (ap is_some (sym none) ∙ some))
      | inr goes_on ↦ goes_on
    ]
