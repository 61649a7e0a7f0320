-- Bytes that end no line, all at once.
use Rattle.std.proofs.Common.{◌≡◌, ℕ, zero, suc, ◌+◌, ◌-◌, ◌<◌, ◌≤◌, Bool, true, false, List, [], ◌∷◌, ◌++◌, length, get_or, take, drop, nat_lt, sym, ◌∙◌, ap, arith, inl, inr, length-append, length-take}
use Rattle.std.specs.Prelude.{None, Some}
use Rattle.std.proofs.lemmas.Bool.{cases_lt, cond-false, cond-true, false_from_ne_true, le-ltb, lt-ltb}
use Rattle.std.proofs.lemmas.List.{append-nil, append_assoc, drop_all, take_all}
use Rattle.std.proofs.Math.Seq.{drop-cons, take-nil}
use Rattle.memchr.specs.Find.{IsFirstByte}
use Rattle.ircline.specs.Classes.{is_end}
use Rattle.floods.specs.declared.sieve.TheConstants.{MAX_LINE}
use Rattle.floods.specs.Sifting.{Sieving, after_bytes, at_byte, begin_of, begins, begun, drop_of, dropped, drops, given, held, longer, passed, sifted}
use Rattle.floods.specs.Watching.{after, verdict}

-- ---- what is held of bytes is what is held of them one by one

abbrev going : Sieving → ℕ → Sieving
going sieve b = record { watch = sieve.watch; line = longer sieve.line b }

held_none : (sieve : Sieving) → sieve ≡ held sieve []
held_none sieve =
    ap (λ (line : List ℕ). record { watch = sieve.watch; line = line })
    (sym (append-nil sieve.line) ∙ ap (λ (more : List ℕ). sieve.line ++ more) (sym (take-nil (MAX_LINE - length sieve.line))))

longer_run : (line : List ℕ) (b : ℕ) (run : List ℕ)
    → longer line b ++ take (MAX_LINE - length (longer line b)) run ≡ line ++ take (MAX_LINE - length line) (b ∷ run)
longer_run line b run =
    let from = λ (l : List ℕ). l ++ take (MAX_LINE - length l) run in
    elim (cases_lt (length line) MAX_LINE) [
      | inl fits ↦
          let is : longer line b ≡ line ++ b ∷ [] = cond-true (nat_lt (length line) MAX_LINE) (line ++ b ∷ []) line (lt-ltb (length line) MAX_LINE fits) in
          let len = length-append line (b ∷ []) in
          let room : suc (MAX_LINE - length (line ++ b ∷ [])) ≡ MAX_LINE - length line = omega (arith, len, fits) in
          ap from is
          ∙ append_assoc line (b ∷ []) (take (MAX_LINE - length (line ++ b ∷ [])) run)
          ∙ ap (λ (k : ℕ). line ++ take k (b ∷ run)) room
      | inr full ↦
          let is : longer line b ≡ line = cond-false (nat_lt (length line) MAX_LINE) (line ++ b ∷ []) line (le-ltb (length line) MAX_LINE full) in
          let none : MAX_LINE - length line ≡ 0 = omega (arith, full) in
          ap from is
          ∙ ap (λ (k : ℕ). line ++ take k run) none
          ∙ ap (λ (k : ℕ). line ++ take k (b ∷ run)) (sym none)
    ]

held_more : (sieve : Sieving) (b : ℕ) (run : List ℕ) → held (going sieve b) run ≡ held sieve (b ∷ run)
held_more sieve b run = ap (λ (line : List ℕ). record { watch = sieve.watch; line = line }) (longer_run sieve.line b run)

pub held_length : (sieve h : Sieving) (text : List ℕ) (i : ℕ) → h ≡ held sieve (take i text) → length h.line ≤ length sieve.line + i
held_length sieve h text i is =
    let run = take i text in
    let len = ap (λ (s : Sieving). length s.line) is in
    let both = length-append sieve.line (take (MAX_LINE - length sieve.line) run) in
    let part = length-take (MAX_LINE - length sieve.line) run in
    let whole = length-take i text in
    omega (arith, len, both, part, whole)

-- ---- what a stream does after such bytes

-- F goes on after a byte that ends no line
abbrev GoesOn : (X : Type 0) → (Sieving → List ℕ → X) → Type 0
GoesOn X F = (sieve : Sieving) (b : ℕ) (bs : List ℕ) → is_end b ≡ false → F sieve (b ∷ bs) ≡ F (going sieve b) bs

over : (X : Type 0) (F : Sieving → List ℕ → X) → GoesOn X F → (sieve : Sieving) (text : List ℕ) (i : ℕ)
    → ((k : ℕ) → k < i → is_end (get_or text k 0) ≡ true → ⊥) → F sieve text ≡ F (held sieve (take i text)) (drop i text)
over X F goes sieve text zero none = ap (λ (s : Sieving). F s text) (held_none sieve)
over X F goes sieve [] (suc i) none = ap (λ (s : Sieving). F s []) (held_none sieve)
over X F goes sieve (b ∷ text) (suc i) none =
    goes sieve b text (false_from_ne_true (is_end b) (λ e. none 0 (omega arith) e))
    ∙ over X F goes (going sieve b) text i (λ k less e. none (suc k) (omega (arith, less)) e)
    ∙ ap (λ (s : Sieving). F s (drop i text)) (held_more sieve b (take i text))

at_other : (trusted : List ℕ → Bool) (now : ℕ) (sieve : Sieving) (b : ℕ) → is_end b ≡ false → at_byte trusted now sieve b ≡ going sieve b
at_other trusted now sieve b other =
    cond-false (is_end b) (record { watch = after trusted now sieve.watch sieve.line; line = [] }) (going sieve b) other

goes_sifted : (trusted : List ℕ → Bool) (now : ℕ) → GoesOn (List ℕ) (sifted trusted now)
goes_sifted trusted now sieve b bs other =
    ap (λ (front : List ℕ). front ++ sifted trusted now (at_byte trusted now sieve b) bs)
    (cond-false (is_end b) (passed (verdict trusted now sieve.watch sieve.line) (sieve.line ++ b ∷ [])) [] other)
    ∙ ap (λ (s : Sieving). sifted trusted now s bs) (at_other trusted now sieve b other)

goes_after : (trusted : List ℕ → Bool) (now : ℕ) → GoesOn Sieving (after_bytes trusted now)
goes_after trusted now sieve b bs other = ap (λ (s : Sieving). after_bytes trusted now s bs) (at_other trusted now sieve b other)

plus_zero : (k : ℕ) → 0 + k ≡ k
plus_zero k = omega arith

goes_dropped : (trusted : List ℕ → Bool) (now : ℕ) → GoesOn ℕ (dropped trusted now)
goes_dropped trusted now sieve b bs other =
    ap (λ (k : ℕ). k + dropped trusted now (at_byte trusted now sieve b) bs)
    (cond-false (is_end b) (drops (verdict trusted now sieve.watch sieve.line)) 0 other)
    ∙ plus_zero (dropped trusted now (at_byte trusted now sieve b) bs)
    ∙ ap (λ (s : Sieving). dropped trusted now s bs) (at_other trusted now sieve b other)

goes_begun : (trusted : List ℕ → Bool) (now : ℕ) → GoesOn ℕ (begun trusted now)
goes_begun trusted now sieve b bs other =
    ap (λ (k : ℕ). k + begun trusted now (at_byte trusted now sieve b) bs)
    (cond-false (is_end b) (begins (verdict trusted now sieve.watch sieve.line)) 0 other)
    ∙ plus_zero (begun trusted now (at_byte trusted now sieve b) bs)
    ∙ ap (λ (s : Sieving). begun trusted now s bs) (at_other trusted now sieve b other)

-- a byte that ends a line, and what follows it, after bytes that end none and are held
record Before (text : List ℕ) (i e : ℕ) (next : List ℕ) (sieve h : Sieving) : Type 0 where
  none : (k : ℕ) → k < i → is_end (get_or text k 0) ≡ true → ⊥
  within : i < length text
  byte : e ≡ get_or text i 0
  next_is : next ≡ drop (i + 1) text
  held_is : h ≡ held sieve (take i text)

before : (X : Type 0) (F : Sieving → List ℕ → X) → GoesOn X F → (text : List ℕ) (i e : ℕ) (next : List ℕ) (sieve h : Sieving)
    → Before text i e next sieve h → F h (e ∷ next) ≡ F sieve text
before X F goes text i e next sieve h b =
    let after : suc i ≡ i + 1 = omega arith in
    ap (λ (s : Sieving). F s (e ∷ next)) b.held_is
    ∙ ap (λ (x : ℕ). F (held sieve (take i text)) (x ∷ next)) b.byte
    ∙ ap (λ (t : List ℕ). F (held sieve (take i text)) (get_or text i 0 ∷ t)) (b.next_is ∙ ap (λ (k : ℕ). drop k text) (sym after))
    ∙ ap (F (held sieve (take i text))) (sym (drop-cons text i 0 b.within))
    ∙ sym (over X F goes sieve text i b.none)

-- the four of what is left of a stream, after the line that this byte ends, are those of all of it
pub record Steps (trusted : List ℕ → Bool) (now : ℕ) (sieve h : Sieving) (text : List ℕ) (e : ℕ) (next : List ℕ) : Type 0 where
  pub bytes : given trusted now h e ++ sifted trusted now (at_byte trusted now h e) next ≡ sifted trusted now sieve text
  pub after : after_bytes trusted now (at_byte trusted now h e) next ≡ after_bytes trusted now sieve text
  pub dropped : drop_of trusted now h e + dropped trusted now (at_byte trusted now h e) next ≡ dropped trusted now sieve text
  pub begun : begin_of trusted now h e + begun trusted now (at_byte trusted now h e) next ≡ begun trusted now sieve text

pub steps : (trusted : List ℕ → Bool) (now : ℕ) (sieve h : Sieving) (text : List ℕ) (i e : ℕ) (next : List ℕ)
    → IsFirstByte is_end text (Some i) → e ≡ get_or text i 0 → next ≡ drop (i + 1) text → h ≡ held sieve (take i text)
    → Steps trusted now sieve h text e next
steps trusted now sieve h text i e next first byte next_is held_is =
    let b : Before text i e next sieve h = record {
      none = λ k less is. first.0.before k (omega arith) less is;
      within = first.0.high;
      byte = byte;
      next_is = next_is;
      held_is = held_is;
    } in
    record {
      bytes = before (List ℕ) (sifted trusted now) (goes_sifted trusted now) text i e next sieve h b;
      after = before Sieving (after_bytes trusted now) (goes_after trusted now) text i e next sieve h b;
      dropped = before ℕ (dropped trusted now) (goes_dropped trusted now) text i e next sieve h b;
      begun = before ℕ (begun trusted now) (goes_begun trusted now) text i e next sieve h b;
    }

-- the four of bytes that end no line
pub record Ends (trusted : List ℕ → Bool) (now : ℕ) (sieve : Sieving) (text : List ℕ) : Type 0 where
  pub bytes : sifted trusted now sieve text ≡ []
  pub after : after_bytes trusted now sieve text ≡ held sieve text
  pub dropped : dropped trusted now sieve text ≡ 0
  pub begun : begun trusted now sieve text ≡ 0

at_last : (X : Type 0) (F : Sieving → List ℕ → X) → GoesOn X F → (sieve : Sieving) (text : List ℕ) → IsFirstByte is_end text None
    → F sieve text ≡ F (held sieve text) []
at_last X F goes sieve text first =
    over X F goes sieve text (length text) (λ k less is. first k (omega arith) less is)
    ∙ ap (λ (t : List ℕ). F (held sieve t) (drop (length text) text)) (take_all (length text) text (omega arith))
    ∙ ap (F (held sieve text)) (drop_all (length text) text (omega arith))

pub ends : (trusted : List ℕ → Bool) (now : ℕ) (sieve : Sieving) (text : List ℕ) → IsFirstByte is_end text None → Ends trusted now sieve text
ends trusted now sieve text first = record {
  bytes = at_last (List ℕ) (sifted trusted now) (goes_sifted trusted now) sieve text first;
  after = at_last Sieving (after_bytes trusted now) (goes_after trusted now) sieve text first;
  dropped = at_last ℕ (dropped trusted now) (goes_dropped trusted now) sieve text first;
  begun = at_last ℕ (begun trusted now) (goes_begun trusted now) sieve text first;
}
