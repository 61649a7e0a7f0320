-- What is read is what the grammar spells, and what the grammar spells is read.
use Rattle.std.proofs.Common.{◌≡◌, ℕ, zero, suc, ◌<◌, ◌≤◌, true, false, List, [], ◌∷◌, ◌++◌, length, refl, sym, ◌∙◌, ap, arith, inl, inr, append_assoc}
use Rattle.std.specs.Prelude.{◌==◌, not, nat_lt}
use Rattle.std.specs.List.{list_all}
use Rattle.std.proofs.lemmas.Bool.{false≢true, and_parts, not-true, not_from_true, cond-true, cond-false, le-ltb}
use Rattle.ircline.specs.declared.message.Message.{Message}
use Rattle.ircline.specs.declared.line.Line.TheVariants as line
use Rattle.ircline.specs.Words.{holds, before}
use Rattle.ircline.specs.Sources.{nick_of}
use Rattle.ircline.specs.Classes.{octet, nospcrlf, filled, command, middle, names}
use Rattle.ircline.specs.Grammar.{IsSpaces, IsFlush, IsBare, IsPrefixPart, IsTrailing, IsFifteenth, IsMiddle, IsParams, IsMessage}
use Rattle.ircline.specs.Reading.{flush, tail_of, prefix_at, after_prefix, is_nameless, last_param, is_last, params_at, message_of, line_at, line_of}
use Rattle.ircline.proofs.ParamLemmas.{params_at-more}
use Rattle.ircline.proofs.TextLemmas.{all-append, all-weaker, none-all, plain, plain-space, plain-colon, plain-nospcrlf, nospcrlf-octet, nospcrlf-word}
use Rattle.ircline.proofs.TextLemmas.{space-octet, octet-nul, command_is, is_word, IsGap, flush_joined, flush_spaces, word_joined, spaces_gap}

-- ---- middle words

middle_parts : (b : ℕ) (bs : List ℕ) → middle (b ∷ bs) ≡ true → ((b == 58) ≡ false) × (list_all nospcrlf (b ∷ bs) ≡ true)
middle_parts b bs h = let parts = and_parts (not (b == 58)) (list_all nospcrlf (b ∷ bs)) h in (not-true (b == 58) parts.0, parts.1)

middle_flush : (p tail : List ℕ) → middle p ≡ true → IsFlush (p ++ tail)
middle_flush [] tail h = absurd (false≢true h)
middle_flush (b ∷ bs) tail h = not-true (b == 32) (nospcrlf-word b (and_parts (nospcrlf b) (list_all nospcrlf bs) (middle_parts b bs h).1).0)

middle_more : (p tail : List ℕ) → middle p ≡ true → is_last (p ++ tail) ≡ false
middle_more [] tail h = absurd (false≢true h)
middle_more (b ∷ bs) tail h = (middle_parts b bs h).0

pub middle_all : (p : List ℕ) → middle p ≡ true → list_all nospcrlf p ≡ true
middle_all [] h = absurd (false≢true h)
middle_all (b ∷ bs) h = (middle_parts b bs h).1

pub nospcrlf_word : (p : List ℕ) → list_all nospcrlf p ≡ true → is_word p
nospcrlf_word p h = all-weaker nospcrlf (λ b. not (b == 32)) nospcrlf-word p h

pub nospcrlf_octets : (p : List ℕ) → list_all nospcrlf p ≡ true → list_all octet p ≡ true
nospcrlf_octets p h = all-weaker nospcrlf octet nospcrlf-octet p h

pub spaces_octets : (s : List ℕ) → IsSpaces s → list_all octet s ≡ true
spaces_octets s h = all-weaker (λ b. b == 32) octet space-octet s h

-- ---- parameters that the grammar spells are read

gap_at : (text more : List ℕ) → text ≡ 32 ∷ more → IsGap text
gap_at text more is = rw is refl

pub params_gap : (n : ℕ) (text : List ℕ) (ps : List (List ℕ)) → IsParams n text ps → IsGap text
unfolding IsParams
params_gap zero text [] h = spaces_gap text h
params_gap (suc n) text [] h = spaces_gap text h
params_gap zero text (p ∷ ps) h = elim h.1 [ inl t ↦ gap_at text (t.0 ++ 58 ∷ p) t.1 | inr f ↦ gap_at text (f.0 ++ p) f.1 ]
params_gap (suc n) text (p ∷ ps) h = elim h [ inl t ↦ gap_at text (t.1.0 ++ 58 ∷ p) t.1.1 | inr m ↦ gap_at text (m.1.0 ++ (p ++ m.0)) m.1.1 ]

flush_sp : (more x : List ℕ) → IsSpaces more → IsFlush x → flush (32 ∷ (more ++ x)) ≡ x
flush_sp more x spaces starts = flush_joined (32 ∷ more) x spaces starts

at_trailing : (text p : List ℕ) → IsTrailing text p → flush text ≡ 58 ∷ p
at_trailing text p t = ap flush t.1 ∙ flush_sp t.0 (58 ∷ p) t.2 refl

bare_flush : (p : List ℕ) → IsBare p → IsFlush p
bare_flush [] h = absurd h
bare_flush (b ∷ bs) h = h.0

bare_last : (p : List ℕ) → IsBare p → last_param p ≡ p ∷ []
bare_last [] h = absurd h
bare_last (b ∷ bs) h = rw h.1 refl

at_fifteenth : (text p : List ℕ) → IsFifteenth text p → flush text ≡ p
at_fifteenth text p f = ap flush f.1 ∙ flush_sp f.0 p f.2 (bare_flush p f.3)

middle_step : (n : ℕ) (text p tail : List ℕ) (ps : List (List ℕ)) → IsMiddle text p tail → IsGap tail → params_at n (flush tail) ≡ ps
    → params_at (suc n) (flush text) ≡ p ∷ ps
middle_step n text p tail ps is gap more =
    let flushed : flush text ≡ p ++ tail = ap flush is.1 ∙ flush_sp is.0 (p ++ tail) is.2 (middle_flush p tail is.3) in
    let word = word_joined p tail (nospcrlf_word p (middle_all p is.3)) gap in
    ap (params_at (suc n)) flushed ∙ params_at-more n (p ++ tail) (middle_more p tail is.3) ∙ (rw (word.0, word.1, more) refl)

pub params_complete : (n : ℕ) (text : List ℕ) (ps : List (List ℕ)) → IsParams n text ps → params_at n (flush text) ≡ ps
unfolding IsParams params_at
params_complete zero text [] h = ap (params_at 0) (flush_spaces text h)
params_complete (suc n) text [] h = ap (params_at (suc n)) (flush_spaces text h)
params_complete zero text (p ∷ ps) h =
    elim h.1 [
      | inl t ↦ ap (params_at 0) (at_trailing text p t) ∙ ap (λ (r : List (List ℕ)). p ∷ r) (sym h.0)
      | inr f ↦ ap (params_at 0) (at_fifteenth text p f) ∙ bare_last p f.3 ∙ ap (λ (r : List (List ℕ)). p ∷ r) (sym h.0)
    ]
params_complete (suc n) text (p ∷ ps) h =
    elim h [
      | inl t ↦ ap (params_at (suc n)) (at_trailing text p t.1) ∙ ap (λ (r : List (List ℕ)). p ∷ r) (sym t.0)
      | inr m ↦ middle_step n text p m.0 ps m.1 (params_gap n m.0 ps m.2) (params_complete n m.0 ps m.2)
    ]

octets_sp : (text more x : List ℕ) → text ≡ 32 ∷ (more ++ x) → IsSpaces more → list_all octet x ≡ true → list_all octet text ≡ true
octets_sp text more x is spaces inside = rw is (all-append octet more x (spaces_octets more spaces) inside)

pub params_octets : (n : ℕ) (text : List ℕ) (ps : List (List ℕ)) → IsParams n text ps → list_all octet text ≡ true
unfolding IsParams
params_octets zero text [] h = spaces_octets text h
params_octets (suc n) text [] h = spaces_octets text h
params_octets zero text (p ∷ ps) h =
    elim h.1 [ inl t ↦ octets_sp text t.0 (58 ∷ p) t.1 t.2 t.3 | inr f ↦ octets_sp text f.0 p f.1 f.2 f.4 ]
params_octets (suc n) text (p ∷ ps) h =
    elim h [
      | inl t ↦ octets_sp text t.1.0 (58 ∷ p) t.1.1 t.1.2 t.1.3
      | inr m ↦ octets_sp text m.1.0 (p ++ m.0) m.1.1 m.1.2 (all-append octet p m.0 (nospcrlf_octets p (middle_all p m.1.3)) (params_octets n m.0 ps m.2))
    ]

-- ---- a message that the grammar spells is read

line_at_parts : (text prefix word tail : List ℕ) → is_nameless text ≡ false → prefix_at text ≡ prefix → before 32 (after_prefix text) ≡ word
    → tail_of (after_prefix text) ≡ tail → command word ≡ true → line_at text ≡ line.Message (message_of prefix word tail)
line_at_parts text prefix word tail named prefix-is word-is tail-is good =
    cond-false (is_nameless text) _ _ named ∙ cond-true (command (before 32 (after_prefix text))) _ _ (ap command word-is ∙ good)
    ∙ (rw (prefix-is, word-is, tail-is) refl)

plain_word : (word : List ℕ) → list_all plain word ≡ true → is_word word
plain_word word h = nospcrlf_word word (all-weaker plain nospcrlf plain-nospcrlf word h)

without_prefix : (word tail : List ℕ) → command word ≡ true → IsGap tail → line_at (word ++ tail) ≡ line.Message (message_of [] word tail)
without_prefix [] tail good gap = absurd (false≢true good)
without_prefix (w ∷ ws) tail good gap =
    let is = command_is (w ∷ ws) good in
    let colon : (w == 58) ≡ false = plain-colon w (and_parts (plain w) (list_all plain ws) is.1).0 in
    let parts = word_joined (w ∷ ws) tail (plain_word (w ∷ ws) is.1) gap in
    let same : after_prefix (w ∷ (ws ++ tail)) ≡ w ∷ (ws ++ tail) = rw colon refl in
    line_at_parts (w ∷ (ws ++ tail)) [] (w ∷ ws) tail (rw colon refl) (rw colon refl) (ap (before 32) same ∙ parts.0) (ap tail_of same ∙ parts.1) good

with_prefix : (prefix more word tail : List ℕ) → IsSpaces more → names prefix ≡ true → command word ≡ true → IsGap tail
    → line_at (58 ∷ ((prefix ++ 32 ∷ more) ++ (word ++ tail))) ≡ line.Message (message_of prefix word tail)
with_prefix prefix more word tail spaces named good gap =
    let is = command_is word good in
    let name = and_parts (list_all nospcrlf prefix) (filled (nick_of prefix)) named in
    let behind = (prefix ++ 32 ∷ more) ++ (word ++ tail) in
    let regrouped : behind ≡ prefix ++ (32 ∷ (more ++ (word ++ tail))) = append_assoc prefix (32 ∷ more) (word ++ tail) in
    let cut = word_joined prefix (32 ∷ (more ++ (word ++ tail))) (nospcrlf_word prefix name.0) refl in
    let prefix-is : before 32 behind ≡ prefix = ap (before 32) regrouped ∙ cut.0 in
    let words-are : flush (tail_of behind) ≡ word ++ tail = ap flush (ap tail_of regrouped ∙ cut.1)
    ∙ flush_sp more (word ++ tail) spaces (plain_flush word tail is.0 is.1) in
    let parts = word_joined word tail (plain_word word is.1) gap in
    line_at_parts (58 ∷ behind) prefix word tail (ap (λ (p : List ℕ). not (filled (nick_of p))) prefix-is
    ∙ not_from_true (filled (nick_of prefix)) name.1) prefix-is (ap (before 32) words-are ∙ parts.0) (ap tail_of words-are ∙ parts.1) good
  where
    plain_flush : (word tail : List ℕ) → 0 < length word → list_all plain word ≡ true → IsFlush (word ++ tail)
    plain_flush [] tail some all = absurd (omega arith)
    plain_flush (w ∷ ws) tail some all = plain-space w (and_parts (plain w) (list_all plain ws) all).0

part_line : (part prefix word tail : List ℕ) → IsPrefixPart part prefix → command word ≡ true → IsGap tail
    → line_at (part ++ (word ++ tail)) ≡ line.Message (message_of prefix word tail)
part_line [] prefix word tail is good gap = without_prefix word tail good gap ∙ ap (λ (p : List ℕ). line.Message (message_of p word tail)) (sym is)
part_line (b ∷ bs) prefix word tail is good gap =
    let text : (b ∷ bs) ++ (word ++ tail) ≡ 58 ∷ ((prefix ++ 32 ∷ is.0) ++ (word ++ tail)) = rw (is.1, is.2) refl in
    ap line_at text ∙ with_prefix prefix is.0 word tail is.3 is.4 good gap

part_flush : (part prefix word tail : List ℕ) → IsPrefixPart part prefix → command word ≡ true → IsFlush (part ++ (word ++ tail))
part_flush [] prefix [] tail is good = absurd (false≢true good)
part_flush [] prefix (w ∷ ws) tail is good = plain-space w (and_parts (plain w) (list_all plain ws) (command_is (w ∷ ws) good).1).0
part_flush (b ∷ bs) prefix word tail is good = rw is.1 refl

part_octets : (part prefix : List ℕ) → IsPrefixPart part prefix → list_all octet part ≡ true
part_octets [] prefix is = refl
part_octets (b ∷ bs) prefix is =
    let name = and_parts (list_all nospcrlf prefix) (filled (nick_of prefix)) is.4 in
    rw (is.1, is.2) (all-append octet prefix (32 ∷ is.0) (nospcrlf_octets prefix name.0) (spaces_octets is.0 is.3))

pub message_octets : (run : List ℕ) (m : Message) → IsMessage run m → list_all octet run ≡ true
message_octets run m is =
    let word = all-weaker plain octet (λ b h. nospcrlf-octet b (plain-nospcrlf b h)) is.word (command_is is.word is.word_is).1 in
    let words = all-append octet is.word is.tail word (params_octets 14 is.tail m.params is.params_are) in
    let all = all-append octet is.prefix_part (is.word ++ is.tail) (part_octets is.prefix_part m.prefix is.prefix_is) words in
    rw is.whole (all-append octet is.lead (is.prefix_part ++ (is.word ++ is.tail)) (spaces_octets is.lead is.lead_is) all)

-- a message by its parts
same_message : (m : Message) (c : List ℕ) (ps : List (List ℕ)) (r : List ℕ) → c ≡ m.command → ps ≡ m.params → r ≡ m.rest
    → line.Message (record { prefix = m.prefix; command = c; params = ps; rest = r }) ≡ line.Message m
same_message m c ps r c-is ps-are r-is = rw (c-is, ps-are, r-is) refl

pub message_complete : (run : List ℕ) (m : Message) → length run ≤ 510 → IsMessage run m → line_of run ≡ line.Message m
message_complete run m short is =
    let nul : holds 0 run ≡ false = none-all (λ b. b == 0) octet octet-nul run (message_octets run m is) in
    let gap = params_gap 14 is.tail m.params is.params_are in
    let text : flush run ≡ is.prefix_part ++ (is.word ++ is.tail) = ap flush is.whole
    ∙ flush_joined is.lead _ is.lead_is (part_flush is.prefix_part m.prefix is.word is.tail is.prefix_is is.word_is) in
    let rest : flush is.tail ≡ m.rest = ap flush is.tail_is ∙ flush_joined is.gap m.rest is.gap_is is.rest_is in
    cond-false (nat_lt 510 (length run)) _ _ (le-ltb 510 (length run) short) ∙ cond-false (holds 0 run) _ _ nul ∙ ap line_at text
    ∙ part_line is.prefix_part m.prefix is.word is.tail is.prefix_is is.word_is gap
    ∙ same_message m _ _ _ (sym is.command_is) (params_complete 14 is.tail m.params is.params_are) rest
