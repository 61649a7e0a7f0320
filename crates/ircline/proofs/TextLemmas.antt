-- Texts whose bytes all pass a test, and the parts of a text at its spaces.
use Rattle.std.proofs.Common.{◌≡◌, ℕ, ◌<◌, Bool, true, false, List, [], ◌∷◌, ◌++◌, length, refl, sym, ◌∙◌, ap, arith, inl, inr}
use Rattle.std.specs.Prelude.{◌&&◌, ◌==◌, not}
use Rattle.std.specs.List.{list_all, list_any}
use Rattle.std.proofs.lemmas.Bool.{cases_Bool, false≢true, and_parts, and_from, or_parts, or_cases}
use Rattle.std.proofs.lemmas.Bool.{ne_eqb, eqb-true, not-true, not-false, not_from_false, ltb-true}
use Rattle.std.proofs.lemmas.List.{append-nil}
use Rattle.ircline.specs.Words.{up_to, from_first, holds, before}
use Rattle.ircline.specs.Classes.{is_end, octet, nospcrlf, filled, letter, digit, command}
use Rattle.ircline.specs.Grammar.{IsSpaces, IsFlush}
use Rattle.ircline.specs.Reading.{flush, tail_of}

-- ---- each byte passes a test

pub all-append : (p : ℕ → Bool) (a b : List ℕ) → list_all p a ≡ true → list_all p b ≡ true → list_all p (a ++ b) ≡ true
all-append p [] b x y = y
all-append p (c ∷ a) b x y = let h = and_parts (p c) (list_all p a) x in and_from (p c) (list_all p (a ++ b)) h.0 (all-append p a b h.1 y)

pub all-left : (p : ℕ → Bool) (a b : List ℕ) → list_all p (a ++ b) ≡ true → list_all p a ≡ true
all-left p [] b x = refl
all-left p (c ∷ a) b x = let h = and_parts (p c) (list_all p (a ++ b)) x in and_from (p c) (list_all p a) h.0 (all-left p a b h.1)

pub all-right : (p : ℕ → Bool) (a b : List ℕ) → list_all p (a ++ b) ≡ true → list_all p b ≡ true
all-right p [] b x = x
all-right p (c ∷ a) b x = all-right p a b (and_parts (p c) (list_all p (a ++ b)) x).1

pub all-weaker : (p q : ℕ → Bool) → ((b : ℕ) → p b ≡ true → q b ≡ true) → (a : List ℕ) → list_all p a ≡ true → list_all q a ≡ true
all-weaker p q h [] x = refl
all-weaker p q h (b ∷ a) x = let parts = and_parts (p b) (list_all p a) x in and_from (q b) (list_all q a) (h b parts.0) (all-weaker p q h a parts.1)

pub all-both : (p q : ℕ → Bool) (a : List ℕ) → list_all p a ≡ true → list_all q a ≡ true → list_all (λ b. p b && q b) a ≡ true
all-both p q [] x y = refl
all-both p q (b ∷ a) x y =
    let xs = and_parts (p b) (list_all p a) x in
    let ys = and_parts (q b) (list_all q a) y in
    and_from (p b && q b) (list_all (λ c. p c && q c) a) (and_from (p b) (q b) xs.0 ys.0) (all-both p q a xs.1 ys.1)

pub all-none : (p : ℕ → Bool) (a : List ℕ) → list_any p a ≡ false → list_all (λ b. not (p b)) a ≡ true
all-none p [] x = refl
all-none p (b ∷ a) x =
    let h = or_parts (p b) (list_any p a) x in and_from (not (p b)) (list_all (λ c. not (p c)) a) (not_from_false (p b) h.0) (all-none p a h.1)

pub none-all : (p q : ℕ → Bool) → ((b : ℕ) → q b ≡ true → p b ≡ false) → (a : List ℕ) → list_all q a ≡ true → list_any p a ≡ false
none-all p q h [] x = refl
none-all p q h (b ∷ a) x = let parts = and_parts (q b) (list_all q a) x in rw (h b parts.0, none-all p q h a parts.1) refl

-- ---- single bytes

-- a byte that passes a test is none that fails it
pub apart : (p : ℕ → Bool) (k b : ℕ) → p b ≡ true → p k ≡ false → (b == k) ≡ false
apart p k b passes fails = ne_eqb b k (λ is. absurd (false≢true (sym fails ∙ ap p (sym is) ∙ passes)))

octet_from : (b : ℕ) → (b == 0) ≡ false → (b == 13) ≡ false → (b == 10) ≡ false → octet b ≡ true
octet_from b x y z = rw (x, y, z) refl

-- bytes that may stand anywhere in a word
abbrev pub plain : ℕ → Bool
plain b = nospcrlf b && not (b == 58)

plain_from : (p : ℕ → Bool) → p 0 ≡ false → p 13 ≡ false → p 10 ≡ false → p 32 ≡ false → p 58 ≡ false → (b : ℕ) → p b ≡ true → plain b ≡ true
plain_from p n0 n13 n10 n32 n58 b x =
    let inside = octet_from b (apart p 0 b x n0) (apart p 13 b x n13) (apart p 10 b x n10) in
    and_from (nospcrlf b) (not (b == 58)) (and_from (octet b) (not (b == 32)) inside (not_from_false (b == 32) (apart p 32 b x n32)))
    (not_from_false (b == 58) (apart p 58 b x n58))

pub plain-space : (b : ℕ) → plain b ≡ true → (b == 32) ≡ false
plain-space b x = apart plain 32 b x refl

pub plain-colon : (b : ℕ) → plain b ≡ true → (b == 58) ≡ false
plain-colon b x = apart plain 58 b x refl

pub nospcrlf-octet : (b : ℕ) → nospcrlf b ≡ true → octet b ≡ true
nospcrlf-octet b x = (and_parts (octet b) (not (b == 32)) x).0

pub nospcrlf-word : (b : ℕ) → nospcrlf b ≡ true → not (b == 32) ≡ true
nospcrlf-word b x = (and_parts (octet b) (not (b == 32)) x).1

pub plain-nospcrlf : (b : ℕ) → plain b ≡ true → nospcrlf b ≡ true
plain-nospcrlf b x = (and_parts (nospcrlf b) (not (b == 58)) x).0

pub space-octet : (b : ℕ) → (b == 32) ≡ true → octet b ≡ true
space-octet b x = rw (eqb-true b 32 x) refl

pub octet-end : (b : ℕ) → octet b ≡ true → is_end b ≡ false
octet-end b x = not-true (is_end b) (and_parts (not (b == 0)) (not (is_end b)) x).1

pub octet-nul : (b : ℕ) → octet b ≡ true → (b == 0) ≡ false
octet-nul b x = not-true (b == 0) (and_parts (not (b == 0)) (not (is_end b)) x).0

-- a text without NUL, CR and LF
pub octets : (text : List ℕ) → list_any is_end text ≡ false → holds 0 text ≡ false → list_all octet text ≡ true
octets text x y = all-both (λ b. not (b == 0)) (λ b. not (is_end b)) text (all-none (λ b. b == 0) text y) (all-none is_end text x)

-- a command is a word of plain bytes
pub command_is : (word : List ℕ) → command word ≡ true → (0 < length word) × (list_all plain word ≡ true)
command_is word x =
    elim (or_cases (filled word && list_all letter word) (length word == 3 && list_all digit word) x) [
      | inl letters ↦ let h = and_parts (filled word) (list_all letter word) letters in
          (ltb-true 0 (length word) h.0, all-weaker letter plain (plain_from letter refl refl refl refl refl) word h.1)
      | inr digits ↦ let h = and_parts (length word == 3) (list_all digit word) digits in
          let three : length word ≡ 3 = eqb-true (length word) 3 h.0 in
          (omega arith, all-weaker digit plain (plain_from digit refl refl refl refl refl) word h.1)
    ]

-- ---- the parts of a text at a byte that passes a test

-- nothing, or what begins with a byte that passes
abbrev pub Starts : (ℕ → Bool) → List ℕ → Type 0
Starts test [] = Unit {0}
Starts test (b ∷ bs) = test b ≡ true

pub split_text : (test : ℕ → Bool) (text : List ℕ) → text ≡ up_to test text ++ from_first test text
split_text test [] = refl
split_text test (b ∷ text) =
    elim (cases_Bool (test b)) [ inl passes ↦ rw passes refl | inr fails ↦ rw fails (ap (λ (r : List ℕ). b ∷ r) (split_text test text)) ]

pub all-up_to : (test : ℕ → Bool) (text : List ℕ) → list_all (λ b. not (test b)) (up_to test text) ≡ true
all-up_to test [] = refl
all-up_to test (b ∷ text) =
    elim (cases_Bool (test b)) [
      | inl passes ↦ rw passes refl
      | inr fails ↦ let first : not (test b) ≡ true = not_from_false (test b) fails in
          let all : list_all (λ c. not (test c)) (b ∷ up_to test text) ≡ true = and_from (not (test b))
          (list_all (λ c. not (test c)) (up_to test text)) first (all-up_to test text) in
          rw fails all
    ]

pub Starts-from_first : (test : ℕ → Bool) (text : List ℕ) → Starts test (from_first test text)
Starts-from_first test [] = tt
Starts-from_first test (b ∷ text) =
    elim (cases_Bool (test b)) [ inl passes ↦ rw passes passes | inr fails ↦ rw fails (Starts-from_first test text) ]

pub joined_at : (test : ℕ → Bool) (a x : List ℕ) → list_all (λ b. not (test b)) a ≡ true → Starts test x
    → (up_to test (a ++ x) ≡ a) × (from_first test (a ++ x) ≡ x)
joined_at test [] [] all starts = (refl, refl)
joined_at test [] (b ∷ x) all starts = (rw starts refl, rw starts refl)
joined_at test (c ∷ a) x all starts =
    let parts = and_parts (not (test c)) (list_all (λ b. not (test b)) a) all in
    let fails : test c ≡ false = not-true (test c) parts.0 in
    let more = joined_at test a x parts.1 starts in
    (rw fails (ap (λ (r : List ℕ). c ∷ r) more.0), rw fails more.1)

-- ---- spaces and words

abbrev pub is_word : List ℕ → Type 0
is_word text = list_all (λ b. not (b == 32)) text ≡ true

-- nothing, or what begins with a space
abbrev pub IsGap : List ℕ → Type 0
IsGap text = Starts (λ b. b == 32) text

not-not : (x : Bool) → x ≡ true → not (not x) ≡ true
not-not true h = refl
not-not false h = h

spaces_fail : (s : List ℕ) → IsSpaces s → list_all (λ b. not (not (b == 32))) s ≡ true
spaces_fail s spaces = all-weaker (λ b. b == 32) (λ b. not (not (b == 32))) (λ b h. not-not (b == 32) h) s spaces

fail_spaces : (s : List ℕ) → list_all (λ b. not (not (b == 32))) s ≡ true → IsSpaces s
fail_spaces s fails = all-weaker (λ b. not (not (b == 32))) (λ b. b == 32) (λ b h. not-false (b == 32) (not-true (not (b == 32)) h)) s fails

flush_starts : (x : List ℕ) → IsFlush x → Starts (λ b. not (b == 32)) x
flush_starts [] h = tt
flush_starts (b ∷ x) h = not_from_false (b == 32) h

starts_flush : (x : List ℕ) → Starts (λ b. not (b == 32)) x → IsFlush x
starts_flush [] h = tt
starts_flush (b ∷ x) h = not-true (b == 32) h

pub flush_joined : (s x : List ℕ) → IsSpaces s → IsFlush x → flush (s ++ x) ≡ x
flush_joined s x spaces starts = (joined_at (λ b. not (b == 32)) s x (spaces_fail s spaces) (flush_starts x starts)).1

pub flush_split : (text : List ℕ) → (s : List ℕ) × IsSpaces s × (text ≡ s ++ flush text)
flush_split text =
    (up_to (λ b. not (b == 32)) text, fail_spaces (up_to (λ b. not (b == 32)) text) (all-up_to (λ b. not (b == 32)) text), split_text (λ b. not (b == 32)) text)

pub flush_is : (text : List ℕ) → IsFlush (flush text)
flush_is text = starts_flush (flush text) (Starts-from_first (λ b. not (b == 32)) text)

pub flush_spaces : (s : List ℕ) → IsSpaces s → flush s ≡ []
flush_spaces s spaces = ap flush (sym (append-nil s)) ∙ flush_joined s [] spaces tt

pub word_joined : (w x : List ℕ) → is_word w → IsGap x → (before 32 (w ++ x) ≡ w) × (tail_of (w ++ x) ≡ x)
word_joined w x all starts = joined_at (λ b. b == 32) w x all starts

pub word_split : (text : List ℕ) → text ≡ before 32 text ++ tail_of text
word_split text = split_text (λ b. b == 32) text

pub word_is : (text : List ℕ) → is_word (before 32 text)
word_is text = all-up_to (λ b. b == 32) text

pub tail_is : (text : List ℕ) → IsGap (tail_of text)
tail_is text = Starts-from_first (λ b. b == 32) text

pub spaces_gap : (s : List ℕ) → IsSpaces s → IsGap s
spaces_gap [] h = tt
spaces_gap (b ∷ s) h = (and_parts (b == 32) (list_all (λ c. c == 32) s) h).0
