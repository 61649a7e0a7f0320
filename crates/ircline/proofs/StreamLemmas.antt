-- The lines of a stream, piece by piece.
use Rattle.std.proofs.Common.{◌≡◌, ℕ, zero, suc, ◌+◌, ◌-◌, ◌<◌, ◌≤◌, true, List, [], ◌∷◌, ◌++◌}
use Rattle.std.proofs.Common.{length, take, drop, map, refl, sym, ◌∙◌, ap, arith, append_assoc, length-take, inl, inr, min}
use Rattle.std.specs.Prelude.{◌⊎◌, Some}
use Rattle.std.proofs.lemmas.Bool.{cases_Bool, cases_lt, lt-ltb, cond-true}
use Rattle.std.proofs.lemmas.List.{append-nil, map-append, take_all, take-take}
use Rattle.ircline.specs.declared.line.Line.{Line}
use Rattle.ircline.specs.declared.line.Line.TheVariants as line
use Rattle.ircline.specs.declared.fault.LineFault.TheVariants as fault
use Rattle.ircline.specs.Words.{up_to, from_first}
use Rattle.ircline.specs.Classes.{is_end}
use Rattle.ircline.specs.Reading.{line_of}
use Rattle.ircline.specs.Stream.{with_run, runs_from, rest_from, lines_of, begun, held_of, last_line}

-- ---- what is held of two texts

pub take_joined : (n : ℕ) (a b : List ℕ) → take n a ++ take (n - length (take n a)) b ≡ take n (a ++ b)
take_joined zero a b = refl
take_joined (suc n) [] b = let all : suc n - 0 ≡ suc n = omega arith in ap (λ (k : ℕ). take k b) all
take_joined (suc n) (x ∷ a) b =
    let count : suc n - suc (length (take n a)) ≡ n - length (take n a) = omega arith in
    ap (λ (r : List ℕ). x ∷ r) (ap (λ (k : ℕ). take n a ++ take k b) count ∙ take_joined n a b)

-- what follows is held of what was held
take_alike : (n : ℕ) (a b c : List ℕ) → take n a ≡ take n b → take n (a ++ c) ≡ take n (b ++ c)
take_alike n a b c same = sym (take_joined n a c) ∙ ap (λ (r : List ℕ). r ++ take (n - length r) c) same ∙ take_joined n b c

-- two texts of which the same is held are the same, or both long
alike_cases : (n : ℕ) (a b : List ℕ) → take (n + 1) a ≡ take (n + 1) b → (a ≡ b) ⊎ ((n < length a) × (n < length b))
alike_cases n a b same =
    let lengths : min (n + 1) (length a) ≡ min (n + 1) (length b) = sym (length-take (n + 1) a) ∙ ap length same ∙ length-take (n + 1) b in
    elim (cases_lt n (length a)) [
      | inl long ↦ inr (long, omega arith)
      | inr short ↦ inl (sym (take_all (n + 1) a (omega arith)) ∙ same ∙ take_all (n + 1) b (omega arith))
    ]

long_line : (a : List ℕ) → 510 < length a → line_of a ≡ line.Bad fault.TooLong
long_line a long = cond-true _ _ _ (lt-ltb 510 (length a) long)

-- the line of a run depends on no more than what is held
line_alike : (a b : List ℕ) → take 511 a ≡ take 511 b → line_of a ≡ line_of b
line_alike a b same = elim (alike_cases 510 a b same) [ inl is ↦ ap line_of is | inr long ↦ long_line a long.0 ∙ sym (long_line b long.1) ]

filled_alike : (x : ℕ) (b : List ℕ) → take 511 (x ∷ b) ≡ [] → ⊥
filled_alike x b same = absurd cc

run_alike : (a b : List ℕ) (runs : List (List ℕ)) → take 511 a ≡ take 511 b → map line_of (with_run a runs) ≡ map line_of (with_run b runs)
run_alike [] [] runs same = refl
run_alike [] (y ∷ b) runs same = absurd (filled_alike y b (sym same))
run_alike (x ∷ a) [] runs same = absurd (filled_alike x a same)
run_alike (x ∷ a) (y ∷ b) runs same = ap (λ (l : Line). l ∷ map line_of runs) (line_alike (x ∷ a) (y ∷ b) same)

-- ---- a stream that goes on a run

with_run-append : (a : List ℕ) (xs ys : List (List ℕ)) → with_run a xs ++ ys ≡ with_run a (xs ++ ys)
with_run-append [] xs ys = refl
with_run-append (x ∷ a) xs ys = refl

runs_from-append : (run s t : List ℕ) → runs_from run (s ++ t) ≡ runs_from run s ++ runs_from (rest_from run s) t
runs_from-append run [] t = refl
runs_from-append run (b ∷ s) t =
    elim (cases_Bool (is_end b)) [
      | inl ends ↦ rw ends (ap (with_run run) (runs_from-append [] s t) ∙ sym (with_run-append run (runs_from [] s) _))
      | inr goes_on ↦ rw goes_on (runs_from-append (run ++ b ∷ []) s t)
    ]

rest_from-append : (run s t : List ℕ) → rest_from run (s ++ t) ≡ rest_from (rest_from run s) t
rest_from-append run [] t = refl
rest_from-append run (b ∷ s) t =
    elim (cases_Bool (is_end b)) [
      | inl ends ↦ rw ends (rest_from-append [] s t)
      | inr goes_on ↦ rw goes_on (rest_from-append (run ++ b ∷ []) s t)
    ]

-- the lines, and what is held, depend on no more of the run than what is held
lines_alike : (a b t : List ℕ) → take 511 a ≡ take 511 b → map line_of (runs_from a t) ≡ map line_of (runs_from b t)
lines_alike a b [] same = refl
lines_alike a b (x ∷ t) same =
    elim (cases_Bool (is_end x)) [
      | inl ends ↦ rw ends (run_alike a b (runs_from [] t) same)
      | inr goes_on ↦ rw goes_on (lines_alike (a ++ x ∷ []) (b ++ x ∷ []) t (take_alike 511 a b (x ∷ []) same))
    ]

held_alike : (a b t : List ℕ) → take 511 a ≡ take 511 b → take 511 (rest_from a t) ≡ take 511 (rest_from b t)
held_alike a b [] same = same
held_alike a b (x ∷ t) same =
    elim (cases_Bool (is_end x)) [
      | inl ends ↦ rw ends refl
      | inr goes_on ↦ rw goes_on (held_alike (a ++ x ∷ []) (b ++ x ∷ []) t (take_alike 511 a b (x ∷ []) same))
    ]

-- ---- a text up to its first end

pub no_end : (run text : List ℕ) → from_first is_end text ≡ [] → (runs_from run text ≡ []) × (rest_from run text ≡ run ++ up_to is_end text)
no_end run [] none = (refl, sym (append-nil run))
no_end run (b ∷ text) none =
    elim (cases_Bool (is_end b)) [
      | inl ends ↦ let some : b ∷ text ≡ [] = rw ends at none in absurd cc
      | inr goes_on ↦ let less : from_first is_end text ≡ [] = rw goes_on at none in
          let more = no_end (run ++ b ∷ []) text less in
          rw goes_on (more.0, more.1 ∙ append_assoc run (b ∷ []) (up_to is_end text))
    ]

pub first_end_at : (run text : List ℕ) (e : ℕ) (behind : List ℕ) → from_first is_end text ≡ e ∷ behind
    → (runs_from run text ≡ with_run (run ++ up_to is_end text) (runs_from [] behind)) × (rest_from run text ≡ rest_from [] behind) × (is_end e ≡ true)
first_end_at run [] e behind at = absurd cc
first_end_at run (b ∷ text) e behind at =
    elim (cases_Bool (is_end b)) [
      | inl ends ↦ let is : b ∷ text ≡ e ∷ behind = rw ends at at in
          let head : b ≡ e = cc in
          let tail : text ≡ behind = cc in
          rw ends (
            ap (λ (r : List ℕ). with_run r (runs_from [] text)) (sym (append-nil run))
                ∙ ap (λ (r : List ℕ). with_run (run ++ []) (runs_from [] r)) tail,
            ap (rest_from []) tail,
            ap is_end (sym head) ∙ ends,
          )
      | inr goes_on ↦ let less : from_first is_end text ≡ e ∷ behind = rw goes_on at at in
          let more = first_end_at (run ++ b ∷ []) text e behind less in
          rw goes_on (more.0 ∙ ap (λ (r : List ℕ). with_run r (runs_from [] behind)) (append_assoc run (b ∷ []) (up_to is_end text)), more.1, more.2)
    ]

run_then : (run : List ℕ) (runs : List (List ℕ)) → map line_of (with_run run runs) ≡ map line_of (with_run run []) ++ map line_of runs
run_then [] runs = refl
run_then (x ∷ run) runs = refl

-- ---- the loop over a text

pub no_more : (text : List ℕ) → from_first is_end text ≡ [] → (lines_of text ≡ []) × (begun text ≡ up_to is_end text)
no_more text none = let parts = no_end [] text none in (ap (map line_of) parts.0, parts.1)

pub one_more : (text : List ℕ) (e : ℕ) (behind : List ℕ) → from_first is_end text ≡ e ∷ behind
    → (lines_of text ≡ map line_of (with_run (up_to is_end text) []) ++ lines_of behind) × (begun text ≡ begun behind)
one_more text e behind at =
    let parts = first_end_at [] text e behind at in
    (ap (map line_of) parts.0 ∙ run_then (up_to is_end text) (runs_from [] behind), parts.1)

-- ---- one piece more

-- what a reader that holds so much of the stream answers to a piece, and holds then
on_piece : (held stream piece : List ℕ) → held ≡ held_of stream
    → (lines_of (stream ++ piece) ≡ lines_of stream ++ map line_of (runs_from held piece)) × (held_of (stream ++ piece) ≡ take 511 (rest_from held piece))
on_piece held stream piece is =
    let same : take 511 (begun stream) ≡ take 511 held = sym (take-take 511 511 (begun stream) (omega arith)) ∙ ap (take 511) (sym is) in (
      ap (map line_of) (runs_from-append [] stream piece) ∙ map-append line_of (runs_from [] stream) _
          ∙ ap (λ (l : List Line). lines_of stream ++ l) (lines_alike (begun stream) held piece same),
      ap (take 511) (rest_from-append [] stream piece) ∙ held_alike (begun stream) held piece same,
    )

-- a piece that ends no line
pub piece_without : (held stream piece front rest run : List ℕ) → held ≡ held_of stream → front ≡ up_to is_end piece → rest ≡ from_first is_end piece
    → rest ≡ [] → run ≡ take 511 (held ++ front) → (lines_of (stream ++ piece) ≡ lines_of stream ++ []) × (run ≡ held_of (stream ++ piece))
piece_without held stream piece front rest run is front-is rest-is none run-is =
    let step = on_piece held stream piece is in
    let parts = no_end held piece (sym rest-is ∙ none) in (
      step.0 ∙ ap (λ (r : List (List ℕ)). lines_of stream ++ map line_of r) parts.0,
      run-is ∙ ap (λ (f : List ℕ). take 511 (held ++ f)) front-is ∙ ap (take 511) (sym parts.1) ∙ sym step.1,
    )

end_first : (e : ℕ) (more : List ℕ) → is_end e ≡ true → runs_from [] (e ∷ more) ≡ runs_from [] more
end_first e more ends = rw ends refl

end_first_rest : (e : ℕ) (more : List ℕ) → is_end e ≡ true → rest_from [] (e ∷ more) ≡ rest_from [] more
end_first_rest e more ends = rw ends refl

-- a piece that ends some
pub piece_with : (held stream piece front : List ℕ) (e : ℕ) (more run : List ℕ) → held ≡ held_of stream → front ≡ up_to is_end piece
    → e ∷ more ≡ from_first is_end piece → run ≡ take 511 (held ++ front)
    → (lines_of (stream ++ piece) ≡ lines_of stream ++ (map line_of (with_run run []) ++ lines_of (e ∷ more)))
    × (held_of (stream ++ piece) ≡ take 511 (begun (e ∷ more)))
piece_with held stream piece front e more run is front-is rest-is run-is =
    let step = on_piece held stream piece is in
    let parts = first_end_at held piece e more (sym rest-is) in
    let same : take 511 (held ++ up_to is_end piece) ≡ take 511 run = ap (λ (f : List ℕ). take 511 (held ++ f)) (sym front-is)
    ∙ sym (take-take 511 511 (held ++ front) (omega arith)) ∙ ap (take 511) (sym run-is) in
    let lines : map line_of (runs_from held piece) ≡ map line_of (with_run run []) ++ lines_of (e ∷ more) =
    ap (map line_of) parts.0 ∙ run_alike (held ++ up_to is_end piece) run (runs_from [] more) same ∙ run_then run (runs_from [] more)
    ∙ ap (λ (r : List (List ℕ)). map line_of (with_run run []) ++ map line_of r) (sym (end_first e more parts.2)) in (
      step.0 ∙ ap (λ (l : List Line). lines_of stream ++ l) lines,
      step.1 ∙ ap (take 511) (parts.1 ∙ sym (end_first_rest e more parts.2)),
    )

last_like : (a b : List ℕ) → take 511 a ≡ take 511 b → last_line a ≡ last_line b
last_like [] [] same = refl
last_like [] (y ∷ b) same = absurd (filled_alike y b (sym same))
last_like (x ∷ a) [] same = absurd (filled_alike x a same)
last_like (x ∷ a) (y ∷ b) same = ap (λ (l : Line). Some l) (line_alike (x ∷ a) (y ∷ b) same)

-- the line of the run that is held
pub last_alike : (held stream : List ℕ) → held ≡ held_of stream → last_line held ≡ last_line (begun stream)
last_alike held stream is = last_like held (begun stream) (ap (take 511) is ∙ take-take 511 511 (begun stream) (omega arith))

-- ---- the steps of the code

pub step_lines : (lines new : List Line) (text run rest next : List ℕ) (all : List Line) → run ≡ up_to is_end text → rest ≡ from_first is_end text
    → 1 ≤ length rest → next ≡ drop 1 rest → new ≡ lines ++ map line_of (with_run run []) → lines ++ lines_of text ≡ all → new ++ lines_of next ≡ all
step_lines lines new text run [] next all run-is rest-is long next-is new-is so_far = absurd (omega arith)
step_lines lines new text run (e ∷ more) next all run-is rest-is long next-is new-is so_far =
    let one = one_more text e more (sym rest-is) in
    let now : lines_of text ≡ map line_of (with_run run []) ++ lines_of next = one.0 ∙ rw (run-is, next-is) refl in
    ap (λ (l : List Line). l ++ lines_of next) new-is ∙ append_assoc lines (map line_of (with_run run [])) (lines_of next)
    ∙ ap (λ (l : List Line). lines ++ l) (sym now) ∙ so_far

pub step_rest : (text rest next all : List ℕ) → rest ≡ from_first is_end text → 1 ≤ length rest → next ≡ drop 1 rest → begun text ≡ all → begun next ≡ all
step_rest text [] next all rest-is long next-is so_far = absurd (omega arith)
step_rest text (e ∷ more) next all rest-is long next-is so_far = ap begun next-is ∙ sym (one_more text e more (sym rest-is)).1 ∙ so_far

-- the first run of a piece, and the lines behind it
pub feed_with : (held stream piece front rest run : List ℕ) (first lines : List Line) → held ≡ held_of stream → front ≡ up_to is_end piece
    → rest ≡ from_first is_end piece → 0 < length rest → run ≡ take 511 (held ++ front) → first ≡ [] ++ map line_of (with_run run []) → lines ≡ first
    ++ lines_of rest → (lines_of (stream ++ piece) ≡ lines_of stream ++ lines) × (held_of (stream ++ piece) ≡ take 511 (begun rest))
feed_with held stream piece front [] run first lines is front-is rest-is some run-is first-is lines-is = absurd (omega arith)
feed_with held stream piece front (e ∷ more) run first lines is front-is rest-is some run-is first-is lines-is =
    let step = piece_with held stream piece front e more run is front-is rest-is run-is in
    (step.0 ∙ ap (λ (l : List Line). lines_of stream ++ l) (ap (λ (l : List Line). l ++ lines_of (e ∷ more)) (sym first-is) ∙ sym lines-is), step.1)
