-- A line whose prefix names nobody.
use Rattle.std.proofs.Common.{◌≡◌, ℕ, ◌≤◌, Bool, true, false, cond, List, [], ◌∷◌, ◌++◌, length, refl, ◌∙◌, ap, arith, inl, inr}
use Rattle.std.specs.Prelude.{◌⊎◌, ◌==◌, not, nat_lt}
use Rattle.std.proofs.lemmas.Bool.{false≢true, and_parts, eqb-true, not-true, cond-true, cond-false, le-ltb, ltb-false}
use Rattle.std.proofs.lemmas.List.{nil_from_length}
use Rattle.ircline.specs.declared.message.Message.{Message}
use Rattle.ircline.specs.declared.line.Line.{Line}
use Rattle.ircline.specs.declared.line.Line.TheVariants as line
use Rattle.ircline.specs.declared.fault.LineFault.{LineFault}
use Rattle.ircline.specs.declared.fault.LineFault.TheVariants as fault
use Rattle.ircline.specs.Words.{holds, before}
use Rattle.ircline.specs.Sources.{nick_of}
use Rattle.ircline.specs.Classes.{filled, command}
use Rattle.ircline.specs.Grammar.{IsNameless}
use Rattle.ircline.specs.Reading.{flush, tail_of, prefix_at, after_prefix, is_nameless, message_of, line_of}
use Rattle.ircline.proofs.TextLemmas.{all-none, none-all, IsGap, flush_joined, flush_split, word_joined, word_split, word_is, tail_is}

gap_cases : (tail : List ℕ) → IsGap tail → (tail ≡ []) ⊎ ((more : List ℕ) × (tail ≡ 32 ∷ more))
gap_cases [] gap = inl refl
gap_cases (b ∷ more) gap = inr (more, ap (λ (x : ℕ). x ∷ more) (eqb-true b 32 gap))

cases_gap : (tail : List ℕ) → (tail ≡ []) ⊎ ((more : List ℕ) × (tail ≡ 32 ∷ more)) → IsGap tail
cases_gap tail h = elim h [ inl none ↦ rw none tt | inr some ↦ rw some.1 refl ]

unfilled : (text : List ℕ) → not (filled text) ≡ true → text ≡ []
unfilled text h = nil_from_length text (omega (arith, ltb-false 0 (length text) (not-true (filled text) h)))

not_prefix : (b : Bool) (m : Message) → cond b (line.Message m) (line.Bad fault.BadCommand) ≡ line.Bad fault.BadPrefix → ⊥
not_prefix true m e = absurd cc
not_prefix false m e = absurd cc

is_prefix : (b : Bool) (l : Line) → (l ≡ line.Bad fault.BadPrefix → ⊥) → cond b (line.Bad fault.BadPrefix) l ≡ line.Bad fault.BadPrefix → b ≡ true
is_prefix true l other e = refl
is_prefix false l other e = absurd (other e)

is_later : (b : Bool) (f : LineFault) (l : Line) → (f ≡ fault.BadPrefix → ⊥) → cond b (line.Bad f) l ≡ line.Bad fault.BadPrefix
    → (b ≡ false) × (l ≡ line.Bad fault.BadPrefix)
is_later true f l other e = let same : f ≡ fault.BadPrefix = cc in absurd (other same)
is_later false f l other e = (refl, e)

long_not : fault.TooLong ≡ fault.BadPrefix → ⊥
long_not e = absurd cc

nul_not : fault.NulByte ≡ fault.BadPrefix → ⊥
nul_not e = absurd cc

nameless_text : (text : List ℕ) → is_nameless text ≡ true
    → (prefix : List ℕ) × (tail : List ℕ) × (text ≡ 58 ∷ (prefix ++ tail)) × (holds 32 prefix ≡ false) × IsGap tail × (nick_of prefix ≡ [])
nameless_text [] h = absurd (false≢true h)
nameless_text (b ∷ bs) h =
    let parts = and_parts (b == 58) (not (filled (nick_of (before 32 bs)))) h in (
      before 32 bs,
      tail_of bs,
      ap (λ (x : ℕ). x ∷ bs) (eqb-true b 58 parts.0)
          ∙ ap (λ (t : List ℕ). 58 ∷ t) (word_split bs),
      none-all (λ x. x == 32) (λ x. not (x == 32)) (λ x y. not-true (x == 32) y) (before 32 bs)
          (word_is bs),
      tail_is bs,
      unfilled (nick_of (before 32 bs)) parts.1,
    )

pub nameless_sound : (run : List ℕ) → line_of run ≡ line.Bad fault.BadPrefix → (length run ≤ 510) × (holds 0 run ≡ false) × IsNameless run
nameless_sound run e =
    let text = flush run in
    let long = is_later (nat_lt 510 (length run)) fault.TooLong _ long_not e in
    let nul = is_later (holds 0 run) fault.NulByte _ nul_not long.1 in
    let nameless = is_prefix (is_nameless text) _ (not_prefix (command (before 32 (after_prefix text)))
    (message_of (prefix_at text) (before 32 (after_prefix text)) (tail_of (after_prefix text)))) nul.1 in
    let parts = nameless_text text nameless in
    let cut = flush_split run in (
      ltb-false 510 (length run) long.0,
      nul.0,
      record {
        lead = cut.0;
        prefix = parts.0;
        tail = parts.1;
        whole = cut.2 ∙ ap (λ (t : List ℕ). cut.0 ++ t) parts.2;
        lead_is = cut.1;
        prefix_is = parts.3;
        tail_is = gap_cases parts.1 parts.4;
        nameless = parts.5;
      },
    )

pub nameless_complete : (run : List ℕ) → length run ≤ 510 → holds 0 run ≡ false → IsNameless run → line_of run ≡ line.Bad fault.BadPrefix
nameless_complete run short nul is =
    let text : flush run ≡ 58 ∷ (is.prefix ++ is.tail) = ap flush is.whole ∙ flush_joined is.lead (58 ∷ (is.prefix ++ is.tail)) is.lead_is refl in
    let word = word_joined is.prefix is.tail (all-none (λ x. x == 32) is.prefix is.prefix_is) (cases_gap is.tail is.tail_is) in
    let named : is_nameless (58 ∷ (is.prefix ++ is.tail)) ≡ true = ap (λ (p : List ℕ). not (filled (nick_of p))) word.0
    ∙ ap (λ (p : List ℕ). not (filled p)) is.nameless in
    cond-false (nat_lt 510 (length run)) _ _ (le-ltb 510 (length run) short) ∙ cond-false (holds 0 run) _ _ nul
    ∙ cond-true (is_nameless (flush run)) _ _ (ap is_nameless text ∙ named)
