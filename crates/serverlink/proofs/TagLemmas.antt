-- Tags that are dropped from a stream, byte by byte, are those of its lines.
use Rattle.std.proofs.Common.{◌≡◌, ℕ, zero, suc, ◌+◌, ◌<◌, ◌==◌, ◌||◌, not, Bool, true, false, List, [], ◌∷◌, ◌++◌, length, get_or, take, drop, refl, sym, ap, ◌∙◌, arith, if◌then◌else◌}
use Rattle.std.specs.Prelude.{None, Some}
use Rattle.std.proofs.lemmas.Bool.{false≢true, false_from_ne_true, not-true, or_from}
use Rattle.std.proofs.lemmas.List.{take-append-drop, take_all}
use Rattle.std.proofs.Math.Seq.{drop-cons}
use Rattle.bstr.specs.Find.{IsFirstByte}
use Rattle.std.specs.List.{list_any}
use Rattle.ircline.specs.Classes.{is_end}
use Rattle.ircline.specs.Reading.{flush, tail_of}
use Rattle.serverlink.specs.declared.tags.TagStage.{TagStage}
use Rattle.serverlink.specs.declared.tags.TagStage.TheVariants.{Front, Tags, Gap, Rest}
use Rattle.serverlink.specs.Tags.{is_plain, is_rest, next, passes, stage_after, untagged, with_byte, within, without_tags}

-- ---- pieces

with_byte-append : (is : Bool) (b : ℕ) (front back : List ℕ) → with_byte is b (front ++ back) ≡ with_byte is b front ++ back
with_byte-append true b front back = refl
with_byte-append false b front back = refl

pub untagged-append : (stage : TagStage) (piece more : List ℕ)
    → untagged stage (piece ++ more) ≡ untagged stage piece ++ untagged (stage_after stage piece) more
untagged-append stage [] more = refl
untagged-append stage (b ∷ piece) more =
    ap (with_byte (passes stage b) b) (untagged-append (next stage b) piece more)
    ∙ with_byte-append (passes stage b) b (untagged (next stage b) piece) (untagged (stage_after (next stage b) piece) more)

pub stage_after-append : (stage : TagStage) (piece more : List ℕ) → stage_after stage (piece ++ more) ≡ stage_after (stage_after stage piece) more
stage_after-append stage [] more = refl
stage_after-append stage (b ∷ piece) more = stage_after-append (next stage b) piece more

-- ---- a byte that ends a line, and another

at_end : (stage : TagStage) (last : ℕ) (more : List ℕ) → is_end last ≡ true → untagged stage (last ∷ more) ≡ last ∷ untagged Front more
at_end stage last more is =
    ap (λ (ends : Bool). with_byte (ends || is_rest (within stage last)) last (untagged (if ends then Front else within stage last) more)) is

at_other : (stage : TagStage) (b : ℕ) (more : List ℕ) → is_end b ≡ false
    → untagged stage (b ∷ more) ≡ with_byte (is_rest (within stage b)) b (untagged (within stage b) more)
at_other stage b more not_end =
    ap (λ (ends : Bool). with_byte (ends || is_rest (within stage b)) b (untagged (if ends then Front else within stage b) more)) not_end

first_no : (x y : Bool) → x || y ≡ false → x ≡ false
first_no true y neither = neither
first_no false y neither = refl

second_no : (x y : Bool) → x || y ≡ false → y ≡ false
second_no true y neither = absurd cc
second_no false y neither = neither

first_of : (b : ℕ) (line : List ℕ) → list_any is_end (b ∷ line) ≡ false → is_end b ≡ false
first_of b line none = first_no (is_end b) (list_any is_end line) none

others_of : (b : ℕ) (line : List ℕ) → list_any is_end (b ∷ line) ≡ false → list_any is_end line ≡ false
others_of b line none = second_no (is_end b) (list_any is_end line) none

-- ---- a line, and the byte that ends it

rest_line : (line : List ℕ) (last : ℕ) (more : List ℕ) → list_any is_end line ≡ false → is_end last ≡ true
    → untagged Rest (line ++ last ∷ more) ≡ line ++ last ∷ untagged Front more
rest_line [] last more none is = at_end Rest last more is
rest_line (b ∷ line) last more none is =
    at_other Rest b (line ++ last ∷ more) (first_of b line none) ∙ ap (λ (r : List ℕ). b ∷ r) (rest_line line last more (others_of b line none) is)

gap_step : (is_space : Bool) (b : ℕ) (line stream after : List ℕ) → untagged Gap stream ≡ flush line ++ after → untagged Rest stream ≡ line ++ after
    → with_byte (is_rest (if is_space then Gap else Rest)) b (untagged (if is_space then Gap else Rest) stream)
    ≡ (if not is_space then b ∷ line else flush line) ++ after
gap_step true b line stream after gap rest = gap
gap_step false b line stream after gap rest = ap (λ (r : List ℕ). b ∷ r) rest

gap_line : (line : List ℕ) (last : ℕ) (more : List ℕ) → list_any is_end line ≡ false → is_end last ≡ true
    → untagged Gap (line ++ last ∷ more) ≡ flush line ++ last ∷ untagged Front more
gap_line [] last more none is = at_end Gap last more is
gap_line (b ∷ line) last more none is =
    at_other Gap b (line ++ last ∷ more) (first_of b line none)
    ∙ gap_step (b == 32) b line (line ++ last ∷ more) (last ∷ untagged Front more) (gap_line line last more (others_of b line none) is)
    (rest_line line last more (others_of b line none) is)

flush_space : (b : ℕ) (line : List ℕ) → b == 32 ≡ true → flush (b ∷ line) ≡ flush line
flush_space b line is = ap (λ (is_space : Bool). if not is_space then b ∷ line else flush line) is

tags_step : (is_space : Bool) (b : ℕ) (line stream after : List ℕ) → b == 32 ≡ is_space
    → untagged Gap stream ≡ flush line ++ after → untagged Tags stream ≡ flush (tail_of line) ++ after
    → with_byte (is_rest (if is_space then Gap else Tags)) b (untagged (if is_space then Gap else Tags) stream)
    ≡ flush (if is_space then b ∷ line else tail_of line) ++ after
tags_step true b line stream after is gap tags = gap ∙ ap (λ (r : List ℕ). r ++ after) (sym (flush_space b line is))
tags_step false b line stream after is gap tags = tags

tags_line : (line : List ℕ) (last : ℕ) (more : List ℕ) → list_any is_end line ≡ false → is_end last ≡ true
    → untagged Tags (line ++ last ∷ more) ≡ flush (tail_of line) ++ last ∷ untagged Front more
tags_line [] last more none is = at_end Tags last more is
tags_line (b ∷ line) last more none is =
    at_other Tags b (line ++ last ∷ more) (first_of b line none)
    ∙ tags_step (b == 32) b line (line ++ last ∷ more) (last ∷ untagged Front more) refl (gap_line line last more (others_of b line none) is)
    (tags_line line last more (others_of b line none) is)

front_step : (is_at : Bool) (b : ℕ) (line stream after : List ℕ) → untagged Tags stream ≡ flush (tail_of line) ++ after → untagged Rest stream ≡ line ++ after
    → with_byte (is_rest (if is_at then Tags else Rest)) b (untagged (if is_at then Tags else Rest) stream)
    ≡ (if is_at then flush (tail_of line) else b ∷ line) ++ after
front_step true b line stream after tags rest = tags
front_step false b line stream after tags rest = ap (λ (r : List ℕ). b ∷ r) rest

pub untagged_line : (line : List ℕ) (last : ℕ) (more : List ℕ) → list_any is_end line ≡ false → is_end last ≡ true
    → untagged Front (line ++ last ∷ more) ≡ without_tags line ++ last ∷ untagged Front more
untagged_line [] last more none is = at_end Front last more is
untagged_line (b ∷ line) last more none is =
    at_other Front b (line ++ last ∷ more) (first_of b line none)
    ∙ front_step (b == 64) b line (line ++ last ∷ more) (last ∷ untagged Front more) (tags_line line last more (others_of b line none) is)
    (rest_line line last more (others_of b line none) is)

pub without_tags_plain : (b : ℕ) (line : List ℕ) → b == 64 ≡ false → without_tags (b ∷ line) ≡ b ∷ line
without_tags_plain b line is = ap (λ (is_at : Bool). if is_at then flush (tail_of line) else b ∷ line) is

-- ---- bytes without tags, line by line

run_none : (text : List ℕ) (i : ℕ) → ((k : ℕ) → k < i → is_end (get_or text k 0) ≡ true → ⊥) → list_any is_end (take i text) ≡ false
run_none text zero none = refl
run_none [] (suc i) none = refl
run_none (b ∷ text) (suc i) none =
    or_from (is_end b) (list_any is_end (take i text)) (false_from_ne_true (is_end b) (λ is. none 0 (omega arith) is))
    (run_none text i (λ k less is. none (suc k) (omega (arith, less)) is))

rest_run : (line : List ℕ) → list_any is_end line ≡ false → (untagged Rest line ≡ line) × (stage_after Rest line ≡ Rest)
rest_run [] none = (refl, refl)
rest_run (b ∷ line) none =
    let more = rest_run line (others_of b line none) in (
      at_other Rest b line (first_of b line none) ∙ ap (λ (r : List ℕ). b ∷ r) more.0,
      ap (λ (ends : Bool). stage_after (if ends then Front else Rest) line) (first_of b line none) ∙ more.1,
    )

front_run : (b : ℕ) (line : List ℕ) → list_any is_end (b ∷ line) ≡ false → b == 64 ≡ false
    → (untagged Front (b ∷ line) ≡ b ∷ line) × (stage_after Front (b ∷ line) ≡ Rest)
front_run b line none other =
    let more = rest_run line (others_of b line none) in
    let within_is : within Front b ≡ Rest = ap (λ (is_at : Bool). if is_at then Tags else Rest) other in (
      at_other Front b line (first_of b line none)
          ∙ ap (λ (stage : TagStage). with_byte (is_rest stage) b (untagged stage line)) within_is
          ∙ ap (λ (r : List ℕ). b ∷ r) more.0,
      ap (λ (ends : Bool). stage_after (if ends then Front else within Front b) line) (first_of b line none)
          ∙ ap (λ (stage : TagStage). stage_after stage line) within_is
          ∙ more.1,
    )

-- bytes that end no line, at the end of a piece
pub plain_run : (stage : TagStage) (text : List ℕ) → IsFirstByte is_end text None → is_plain stage text ≡ true → 0 < length text
    → (untagged stage text ≡ text) × (stage_after stage text ≡ Rest)
plain_run Front [] first plain some = absurd (omega (arith, some))
plain_run Front (b ∷ line) first plain some =
    front_run b line
    (ap (list_any is_end) (sym (take_all (length (b ∷ line)) (b ∷ line) (omega arith)))
    ∙ run_none (b ∷ line) (length (b ∷ line)) (λ k less is. first k (omega arith) less is))
    (not-true (b == 64) plain)
plain_run Tags text first plain some = absurd (false≢true plain)
plain_run Gap text first plain some = absurd (false≢true plain)
plain_run Rest text first plain some =
    rest_run text
    (ap (list_any is_end) (sym (take_all (length text) text (omega arith)))
    ∙ run_none text (length text) (λ k less is. first k (omega arith) less is))

plain_front : (line : List ℕ) (last : ℕ) (more : List ℕ) → list_any is_end line ≡ false → is_end last ≡ true
    → is_plain Front (line ++ last ∷ more) ≡ true → untagged Front (line ++ last ∷ more) ≡ line ++ last ∷ untagged Front more
plain_front [] last more none is plain = at_end Front last more is
plain_front (b ∷ line) last more none is plain =
    untagged_line (b ∷ line) last more none is
    ∙ ap (λ (l : List ℕ). l ++ last ∷ untagged Front more) (without_tags_plain b line (not-true (b == 64) plain))

plain_line : (stage : TagStage) (line : List ℕ) (last : ℕ) (more : List ℕ) → list_any is_end line ≡ false → is_end last ≡ true
    → is_plain stage (line ++ last ∷ more) ≡ true → untagged stage (line ++ last ∷ more) ≡ line ++ last ∷ untagged Front more
plain_line Front line last more none is plain = plain_front line last more none is plain
plain_line Tags line last more none is plain = absurd (false≢true plain)
plain_line Gap line last more none is plain = absurd (false≢true plain)
plain_line Rest line last more none is plain = rest_line line last more none is

after_line : (stage : TagStage) (line : List ℕ) (last : ℕ) (more : List ℕ) → is_end last ≡ true
    → stage_after stage (line ++ last ∷ more) ≡ stage_after Front more
after_line stage line last more is =
    stage_after-append stage line (last ∷ more)
    ∙ ap (λ (ends : Bool). stage_after (if ends then Front else within (stage_after stage line) last) more) is

-- a line at the front of a text, with its end
pub plain_step : (stage : TagStage) (text : List ℕ) (i : ℕ) (next : List ℕ) → IsFirstByte is_end text (Some i) → next ≡ drop (i + 1) text
    → (stage_after Front next ≡ stage_after stage text)
    × (is_plain stage text ≡ true → untagged Front next ≡ next → untagged stage text ≡ text)
plain_step stage text i next first next_is =
    let line = take i text in
    let last = get_or text i 0 in
    let after : suc i ≡ i + 1 = omega arith in
    let whole : line ++ last ∷ next ≡ text =
    ap (λ (t : List ℕ). line ++ last ∷ t) (next_is ∙ ap (λ (k : ℕ). drop k text) (sym after))
    ∙ ap (λ (t : List ℕ). line ++ t) (sym (drop-cons text i 0 first.0.high))
    ∙ take-append-drop i text in
    let none = run_none text i (λ k less is. first.0.before k (omega arith) less is) in (
      sym (after_line stage line last next first.1) ∙ ap (stage_after stage) whole,
      λ plain same.
          ap (untagged stage) (sym whole)
          ∙ plain_line stage line last next none first.1 (ap (is_plain stage) whole ∙ plain)
          ∙ ap (λ (t : List ℕ). line ++ last ∷ t) same
          ∙ whole,
    )
