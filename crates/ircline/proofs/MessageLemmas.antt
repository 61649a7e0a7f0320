-- What is read is spelled so by the grammar.
use Rattle.std.proofs.Common.{◌≡◌, ℕ, zero, suc, ◌≤◌, Bool, true, false, cond, List, [], ◌∷◌, ◌++◌, length, refl, sym, ◌∙◌, ap, subst, inl, inr, append_assoc}
use Rattle.std.specs.Prelude.{◌==◌, not, nat_lt}
use Rattle.std.specs.List.{list_all}
use Rattle.std.proofs.lemmas.Bool.{cases_Bool, false≢true, both_ways, and_parts, and_from, eqb-true, not-false, not_from_false, ltb-false}
use Rattle.std.proofs.lemmas.List.{append-nil}
use Rattle.ircline.specs.declared.message.Message.{Message}
use Rattle.ircline.specs.declared.line.Line.{Line}
use Rattle.ircline.specs.declared.line.Line.TheVariants as line
use Rattle.ircline.specs.declared.fault.LineFault.{LineFault}
use Rattle.ircline.specs.declared.fault.LineFault.TheVariants as fault
use Rattle.ircline.specs.Words.{holds, before}
use Rattle.ircline.specs.Sources.{nick_of}
use Rattle.ircline.specs.Classes.{octet, nospcrlf, filled, command, middle}
use Rattle.ircline.specs.Grammar.{IsSpaces, IsFlush, IsPrefixPart, IsTrailing, IsParams, IsMessage}
use Rattle.ircline.specs.Reading.{flush, tail_of, prefix_at, after_prefix, is_nameless, is_last, params_at, message_of, line_of}
use Rattle.ircline.specs.Stream.{IsRun}
use Rattle.ircline.proofs.TextLemmas.{all-left, all-right, all-both, octets, IsGap, flush_split, flush_is, word_split, word_is, tail_is}

-- ---- parameters that are read

-- spaces before a word that begins where they end: there is one
spaces_some : (s : List ℕ) (b : ℕ) (bs : List ℕ) → IsSpaces s → (b == 32) ≡ false → IsGap (s ++ b ∷ bs) → (more : List ℕ) × (s ≡ 32 ∷ more) × IsSpaces more
spaces_some [] b bs spaces word gap = absurd (both_ways (b == 32) word gap)
spaces_some (c ∷ more) b bs spaces word gap =
    let parts = and_parts (c == 32) (list_all (λ x. x == 32) more) spaces in
    (more, ap (λ (x : ℕ). x ∷ more) (eqb-true c 32 parts.0), parts.1)

middle_before : (t : List ℕ) → IsFlush t → is_last t ≡ false → list_all octet t ≡ true → middle (before 32 t) ≡ true
middle_before [] starts last inside = absurd (false≢true (sym last))
middle_before (b ∷ bs) starts last inside =
    let first : before 32 (b ∷ bs) ≡ b ∷ before 32 bs = rw starts refl in
    let parts : list_all octet (before 32 (b ∷ bs) ++ tail_of (b ∷ bs)) ≡ true = subst (λ (t : List ℕ). list_all octet t ≡ true) (word_split (b ∷ bs)) inside in
    let all : list_all nospcrlf (before 32 (b ∷ bs)) ≡ true = all-both octet (λ x. not (x == 32)) (before 32 (b ∷ bs))
    (all-left octet (before 32 (b ∷ bs)) (tail_of (b ∷ bs)) parts) (word_is (b ∷ bs)) in
    ap middle first ∙ and_from (not (b == 58)) (list_all nospcrlf (b ∷ before 32 bs)) (not_from_false (b == 58) last)
    (subst (λ (w : List ℕ). list_all nospcrlf w ≡ true) first all)

trailing_at : (s : List ℕ) (b : ℕ) (bs : List ℕ) → IsSpaces s → (b == 32) ≡ false → (b == 58) ≡ true → list_all octet (b ∷ bs) ≡ true
    → IsGap (s ++ b ∷ bs) → IsTrailing (s ++ b ∷ bs) bs
trailing_at s b bs spaces word colon inside gap =
    let some = spaces_some s b bs spaces word gap in (
      some.0,
      ap (λ (x : List ℕ). x ++ b ∷ bs) some.1 ∙ ap (λ (x : ℕ). 32 ∷ (some.0
          ++ x ∷ bs)) (eqb-true b 58 colon),
      some.2,
      (and_parts (octet b) (list_all octet bs) inside).1,
    )

params_sound_at : (n : ℕ) (s t : List ℕ) → IsSpaces s → IsFlush t → list_all octet t ≡ true → IsGap (s ++ t) → IsParams n (s ++ t) (params_at n t)
unfolding IsParams params_at
params_sound_at zero s [] spaces starts inside gap = rw append-nil spaces
params_sound_at (suc n) s [] spaces starts inside gap = rw append-nil spaces
params_sound_at zero s (b ∷ bs) spaces starts inside gap =
    elim (cases_Bool (b == 58)) [
      | inl colon ↦ rw colon (refl, inl (trailing_at s b bs spaces starts colon inside gap))
      | inr bare ↦ let some = spaces_some s b bs spaces starts gap in
          rw bare (refl, inr (some.0, ap (λ (x : List ℕ). x ++ b ∷ bs) some.1, some.2, (starts, bare), inside))
    ]
params_sound_at (suc n) s (b ∷ bs) spaces starts inside gap =
    elim (cases_Bool (b == 58)) [
      | inl colon ↦ rw colon (inl (refl, trailing_at s b bs spaces starts colon inside gap))
      | inr bare ↦ let some = spaces_some s b bs spaces starts gap in
          let tail = tail_of (b ∷ bs) in
          let cut = flush_split tail in
          let split = word_split (b ∷ bs) in
          let inside_tail : list_all octet tail ≡ true = all-right octet (before 32 (b ∷ bs)) tail
          (subst (λ (t : List ℕ). list_all octet t ≡ true) split inside) in
          let inside_rest : list_all octet (flush tail) ≡ true = all-right octet cut.0 (flush tail)
          (subst (λ (t : List ℕ). list_all octet t ≡ true) cut.2 inside_tail) in
          let gap_tail : IsGap (cut.0 ++ flush tail) = subst IsGap cut.2 (tail_is (b ∷ bs)) in
          let more : IsParams n tail (params_at n (flush tail)) = subst (λ (t : List ℕ). IsParams n t (params_at n (flush tail))) (sym cut.2)
          (params_sound_at n cut.0 (flush tail) cut.1 (flush_is tail) inside_rest gap_tail) in
          rw bare (inr (
            tail,
            (
              some.0,
              ap (λ (x : List ℕ). x ++ b ∷ bs) some.1
                  ∙ ap (λ (t : List ℕ). 32 ∷ (some.0 ++ t)) split,
              some.2,
              middle_before (b ∷ bs) starts bare inside,
            ),
            more,
          ))
    ]

pub params_sound : (n : ℕ) (text : List ℕ) → list_all octet text ≡ true → IsGap text → IsParams n text (params_at n (flush text))
params_sound n text inside gap =
    let cut = flush_split text in
    let inside_rest : list_all octet (flush text) ≡ true = all-right octet cut.0 (flush text) (subst (λ (t : List ℕ). list_all octet t ≡ true) cut.2 inside) in
    subst (λ (t : List ℕ). IsParams n t (params_at n (flush text))) (sym cut.2)
    (params_sound_at n cut.0 (flush text) cut.1 (flush_is text) inside_rest (subst IsGap cut.2 gap))

-- ---- a message that is read

-- the parts of a text that is flush
record Parts (text prefix word tail : List ℕ) : Type 0 where
  pub part : List ℕ
  pub whole : text ≡ part ++ (word ++ tail)
  pub part_is : IsPrefixPart part prefix

fault_not : (f : LineFault) (m : Message) → line.Bad f ≡ line.Message m → ⊥
fault_not f m e = absurd cc

message_is : (a b : Message) → line.Message a ≡ line.Message b → a ≡ b
message_is a b e = cc

filled_some : (text : List ℕ) → command (before 32 text) ≡ true → (b : ℕ) × (bs : List ℕ) × (text ≡ b ∷ bs)
filled_some [] good = absurd (false≢true good)
filled_some (b ∷ bs) good = (b, bs, refl)

flush_first : (text : List ℕ) (b : ℕ) (bs : List ℕ) → IsFlush text → text ≡ b ∷ bs → (b == 32) ≡ false
flush_first text b bs starts is = let first : IsFlush (b ∷ bs) = subst IsFlush is starts in first

-- behind a colon
colon_parts : (bs : List ℕ) → list_all octet bs ≡ true → not (filled (nick_of (before 32 bs))) ≡ false
    → command (before 32 (flush (tail_of bs))) ≡ true → Parts (58 ∷ bs) (before 32 bs) (before 32 (flush (tail_of bs))) (tail_of (flush (tail_of bs)))
colon_parts bs inside named good =
    let prefix = before 32 bs in
    let tail = tail_of bs in
    let words = flush tail in
    let cut = flush_split tail in
    let first = filled_some words good in
    let gap : IsGap (cut.0 ++ first.0 ∷ first.1) = subst (λ (w : List ℕ). IsGap (cut.0 ++ w)) first.2 (subst IsGap cut.2 (tail_is bs)) in
    let some = spaces_some cut.0 first.0 first.1 cut.1 (flush_first words first.0 first.1 (flush_is tail) first.2) gap in
    let split : words ≡ before 32 words ++ tail_of words = word_split words in
    let inside_both : list_all octet (prefix ++ tail) ≡ true = subst (λ (t : List ℕ). list_all octet t ≡ true) (word_split bs) inside in
    let all : list_all nospcrlf prefix ≡ true = all-both octet (λ x. not (x == 32)) prefix (all-left octet prefix tail inside_both) (word_is bs) in
    let spelled : tail ≡ (32 ∷ some.0) ++ (before 32 words ++ tail_of words) = cut.2 ∙ ap (λ (s : List ℕ). s ++ words) some.1
    ∙ ap (λ (w : List ℕ). (32 ∷ some.0) ++ w) split in
    record {
      part = 58 ∷ (prefix ++ 32 ∷ some.0);
      whole =
          ap (λ (t : List ℕ). 58 ∷ t) (word_split bs ∙ ap (λ (t : List ℕ). prefix ++ t) spelled
          ∙ sym (append_assoc prefix (32 ∷ some.0) (before 32 words ++ tail_of words)));
      part_is = (some.0, refl, refl, some.2, and_from (list_all nospcrlf prefix) (filled (nick_of prefix)) all (not-false (filled (nick_of prefix)) named));
    }

text_parts : (text : List ℕ) → list_all octet text ≡ true → is_nameless text ≡ false → command (before 32 (after_prefix text)) ≡ true
    → Parts text (prefix_at text) (before 32 (after_prefix text)) (tail_of (after_prefix text))
text_parts [] inside named good = absurd (false≢true good)
text_parts (b ∷ bs) inside named good =
    elim (cases_Bool (b == 58)) [
      | inl colon ↦ colon_text b bs (and_parts (octet b) (list_all octet bs) inside).1 (eqb-true b 58 colon) named good
      | inr bare ↦ let same : after_prefix (b ∷ bs) ≡ b ∷ bs = rw bare refl in
          let none : prefix_at (b ∷ bs) ≡ [] = rw bare refl in
          subst (λ (w : List ℕ). Parts (b ∷ bs) (prefix_at (b ∷ bs)) (before 32 w) (tail_of w)) (sym same)
          (record { part = []; whole = word_split (b ∷ bs); part_is = none })
    ]
  where
    colon_text : (b : ℕ) (bs : List ℕ) → list_all octet bs ≡ true → b ≡ 58 → is_nameless (b ∷ bs) ≡ false
        → command (before 32 (after_prefix (b ∷ bs))) ≡ true → Parts (b ∷ bs) (prefix_at (b ∷ bs)) (before 32 (after_prefix (b ∷ bs)))
        (tail_of (after_prefix (b ∷ bs)))
    colon_text b bs inside is named good =
        subst (λ (c : ℕ). Parts (c ∷ bs) (prefix_at (c ∷ bs)) (before 32 (after_prefix (c ∷ bs))) (tail_of (after_prefix (c ∷ bs)))) (sym is)
        (colon_parts bs inside (subst (λ (c : ℕ). is_nameless (c ∷ bs) ≡ false) is named)
        (subst (λ (c : ℕ). command (before 32 (after_prefix (c ∷ bs))) ≡ true) is good))

-- what the tests of a line that reads as a message answered
record Passed (run : List ℕ) (m : Message) : Type 0 where
  pub short : length run ≤ 510
  pub nul : holds 0 run ≡ false
  pub named : is_nameless (flush run) ≡ false
  pub good : command (before 32 (after_prefix (flush run))) ≡ true
  pub message : message_of (prefix_at (flush run)) (before 32 (after_prefix (flush run))) (tail_of (after_prefix (flush run))) ≡ m

passed : (run : List ℕ) (m : Message) → line_of run ≡ line.Message m → Passed run m
passed run m e =
    let text = flush run in
    let words = after_prefix text in
    let read = message_of (prefix_at text) (before 32 words) (tail_of words) in
    let long = not_fault (nat_lt 510 (length run)) fault.TooLong _ m e in
    let nul = not_fault (holds 0 run) fault.NulByte _ m long.1 in
    let named = not_fault (is_nameless text) fault.BadPrefix _ m nul.1 in
    let good = not_last (command (before 32 words)) fault.BadCommand read m named.1 in
    record { short = ltb-false 510 (length run) long.0; nul = nul.0; named = named.0; good = good.0; message = good.1 }
  where
    not_fault : (b : Bool) (f : LineFault) (l : Line) (m : Message) → cond b (line.Bad f) l ≡ line.Message m → (b ≡ false) × (l ≡ line.Message m)
    not_fault true f l m e = absurd (fault_not f m e)
    not_fault false f l m e = (refl, e)

    not_last : (b : Bool) (f : LineFault) (a m : Message) → cond b (line.Message a) (line.Bad f) ≡ line.Message m → (b ≡ true) × (a ≡ m)
    not_last true f a m e = (refl, message_is a m e)
    not_last false f a m e = absurd (fault_not f m e)

pub message_short : (run : List ℕ) (m : Message) → line_of run ≡ line.Message m → length run ≤ 510
message_short run m e = (passed run m e).short

pub message_sound : (run : List ℕ) (m : Message) → IsRun run → line_of run ≡ line.Message m → IsMessage run m
message_sound run m is_run e =
    let tests = passed run m e in
    let text = flush run in
    let words = after_prefix text in
    let tail = tail_of words in
    let cut = flush_split run in
    let inside_run = octets run is_run tests.nul in
    let inside : list_all octet text ≡ true = all-right octet cut.0 text (subst (λ (t : List ℕ). list_all octet t ≡ true) cut.2 inside_run) in
    let parts = text_parts text inside tests.named tests.good in
    let inside_parts = subst (λ (t : List ℕ). list_all octet t ≡ true) parts.whole inside in
    let inside_tail : list_all octet tail ≡ true = all-right octet (before 32 words) tail (all-right octet parts.part (before 32 words ++ tail) inside_parts) in
    let rest = flush_split tail in
    let is : IsMessage run (message_of (prefix_at text) (before 32 words) tail) = record {
      lead = cut.0;
      prefix_part = parts.part;
      word = before 32 words;
      tail = tail;
      whole = cut.2 ∙ ap (λ (t : List ℕ). cut.0 ++ t) parts.whole;
      lead_is = cut.1;
      prefix_is = parts.part_is;
      word_is = tests.good;
      command_is = refl;
      params_are = params_sound 14 tail inside_tail (tail_is words);
      gap = rest.0;
      tail_is = rest.2;
      gap_is = rest.1;
      rest_is = flush_is tail;
    } in
    subst (λ (x : Message). IsMessage run x) tests.message is
