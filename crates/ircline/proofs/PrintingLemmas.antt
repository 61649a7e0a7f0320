-- The canonical line of a message reads back exactly where its parts are such as a line can carry.
use Rattle.std.proofs.Common.{◌≡◌, ℕ, zero, suc, ◌+◌, ◌<◌, ◌≤◌, Bool, true, false, List, []}
use Rattle.std.proofs.Common.{◌∷◌, ◌++◌, length, map, refl, sym, ◌∙◌, ap, subst, arith, inl, inr, length-append}
use Rattle.std.specs.Prelude.{◌⊎◌, ◌==◌, ◌&&◌, not, nat_le, nat_lt, ◌-◌}
use Rattle.std.specs.List.{list_all}
use Rattle.std.proofs.lemmas.Bool.{cases_Bool, false≢true, both_ways, and_parts, and_from, or_parts, or_cases}
use Rattle.std.proofs.lemmas.Bool.{or_left, or_right, not-true, not_from_false, leb-true, leb-false, le-leb}
use Rattle.std.proofs.lemmas.List.{append-nil, length-map}
use Rattle.ircline.specs.declared.message.Message.{Message}
use Rattle.ircline.specs.Words.{holds}
use Rattle.ircline.specs.Classes.{is_end, octet, nospcrlf, filled, letter, digit, command, middle, trailing, upper}
use Rattle.ircline.specs.Grammar.{IsBare, IsPrefixPart, IsTrailing, IsFifteenth, IsMiddle, IsParams, IsMessage}
use Rattle.ircline.specs.Reading.{flush}
use Rattle.ircline.specs.Printing.{wants_colon, last_text, params_text, prefix_text, canonical, ReadsBack}
use Rattle.ircline.specs.Carrying.{capital, kept_command, carries_prefix, carries_params, carries}
use Rattle.ircline.proofs.TextLemmas.{all-weaker, all-both, all-none, none-all, octet-end, flush_split, flush_is}
use Rattle.ircline.proofs.GrammarLemmas.{message_octets, message_complete}
use Rattle.ircline.proofs.MessageLemmas.{message_short, message_sound}

-- ---- the command

capital_letter : (b : ℕ) → capital b ≡ true → letter b ≡ true
capital_letter b h = or_left (capital b) (nat_le 97 b && nat_le b 122) h

-- a byte that isn't changed by upper case
kept_byte : (b : ℕ) → (nat_le 97 b && nat_le b 122) ≡ false → upper b ≡ b
kept_byte b h = rw h refl

capital_upper : (b : ℕ) → capital b ≡ true → upper b ≡ b
capital_upper b h =
    let parts = and_parts (nat_le 65 b) (nat_le b 90) h in
    let high = leb-true b 90 parts.1 in
    kept_byte b (elim (cases_Bool (nat_le 97 b)) [ inl low ↦ absurd (omega (arith, leb-true 97 b low)) | inr low ↦ rw low refl ])

digit_upper : (b : ℕ) → digit b ≡ true → upper b ≡ b
digit_upper b h =
    let parts = and_parts (nat_le 48 b) (nat_le b 57) h in
    let high = leb-true b 57 parts.1 in
    kept_byte b (elim (cases_Bool (nat_le 97 b)) [ inl low ↦ absurd (omega (arith, leb-true 97 b low)) | inr low ↦ rw low refl ])

map_kept : (p : ℕ → Bool) → ((b : ℕ) → p b ≡ true → upper b ≡ b) → (text : List ℕ) → list_all p text ≡ true → map upper text ≡ text
map_kept p h [] all = refl
map_kept p h (b ∷ text) all =
    let parts = and_parts (p b) (list_all p text) all in
    ap (λ (x : ℕ). x ∷ map upper text) (h b parts.0) ∙ ap (λ (t : List ℕ). b ∷ t) (map_kept p h text parts.1)

command_kept : (text : List ℕ) → kept_command text ≡ true → (command text ≡ true) × (map upper text ≡ text)
command_kept text h =
    elim (or_cases (filled text && list_all capital text) (length text == 3 && list_all digit text) h) [
      | inl letters ↦ let parts = and_parts (filled text) (list_all capital text) letters in (
        or_left (filled text && list_all letter text) (length text == 3 && list_all digit text)
            (and_from (filled text) (list_all letter text) parts.0 (all-weaker capital letter capital_letter text parts.1)),
        map_kept capital
            capital_upper text parts.1,
      )
      | inr digits ↦ let parts = and_parts (length text == 3) (list_all digit text) digits in
          (or_right (filled text && list_all letter text) (length text == 3 && list_all digit text) digits, map_kept digit digit_upper text parts.1)
    ]

upper_capital : (b : ℕ) → letter b ≡ true → capital (upper b) ≡ true
upper_capital b h =
    elim (cases_Bool (nat_le 97 b && nat_le b 122)) [
      | inl small ↦ let parts = and_parts (nat_le 97 b) (nat_le b 122) small in
          let low = leb-true 97 b parts.0 in
          let high = leb-true b 122 parts.1 in
          let down : capital (b - 32) ≡ true = and_from (nat_le 65 (b - 32)) (nat_le (b - 32) 90) (le-leb 65 (b - 32) (omega arith))
          (le-leb (b - 32) 90 (omega arith)) in
          rw small down
      | inr large ↦ elim (or_cases (capital b) (nat_le 97 b && nat_le b 122) h)
          [ inl is ↦ rw large is | inr small ↦ absurd (both_ways (nat_le 97 b && nat_le b 122) large small) ]
    ]

digit_digit : (b : ℕ) → digit b ≡ true → digit (upper b) ≡ true
digit_digit b h = rw (digit_upper b h) h

all-map : (p q : ℕ → Bool) → ((b : ℕ) → p b ≡ true → q (upper b) ≡ true) → (text : List ℕ) → list_all p text ≡ true → list_all q (map upper text) ≡ true
all-map p q h [] all = refl
all-map p q h (b ∷ text) all =
    let parts = and_parts (p b) (list_all p text) all in
    and_from (q (upper b)) (list_all q (map upper text)) (h b parts.0) (all-map p q h text parts.1)

kept_upper : (word : List ℕ) → command word ≡ true → kept_command (map upper word) ≡ true
kept_upper word h =
    let same : length (map upper word) ≡ length word = length-map word upper in
    elim (or_cases (filled word && list_all letter word) (length word == 3 && list_all digit word) h) [
      | inl letters ↦ let parts = and_parts (filled word) (list_all letter word) letters in
          or_left (filled (map upper word) && list_all capital (map upper word)) (length (map upper word) == 3 && list_all digit (map upper word))
          (and_from (filled (map upper word)) (list_all capital (map upper word)) (ap (nat_lt 0) same
          ∙ parts.0) (all-map letter capital upper_capital word parts.1))
      | inr digits ↦ let parts = and_parts (length word == 3) (list_all digit word) digits in
          or_right (filled (map upper word) && list_all capital (map upper word)) (length (map upper word) == 3 && list_all digit (map upper word))
          (and_from (length (map upper word) == 3) (list_all digit (map upper word)) (ap (λ (n : ℕ). n == 3) same
          ∙ parts.0) (all-map digit digit digit_digit word parts.1))
    ]

-- ---- the parameters

-- a last parameter that needs no colon is a middle one, and stands bare
no_colon : (p : List ℕ) → wants_colon p ≡ false → trailing p ≡ true → IsBare p × (middle p ≡ true)
no_colon [] wants inside = absurd (false≢true (sym wants))
no_colon (b ∷ bs) wants inside =
    let parts = or_parts (b == 58) (holds 32 (b ∷ bs)) wants in
    let first = or_parts (b == 32) (holds 32 bs) parts.1 in
    let all : list_all nospcrlf (b ∷ bs) ≡ true = all-both octet (λ x. not (x == 32)) (b ∷ bs) inside (all-none (λ x. x == 32) (b ∷ bs) parts.1) in
    ((first.0, parts.0), and_from (not (b == 58)) (list_all nospcrlf (b ∷ bs)) (not_from_false (b == 58) parts.0) all)

params_spelled : (n : ℕ) (ps : List (List ℕ)) → carries_params ps ≡ true → length ps ≤ suc n → IsParams n (params_text ps) ps
unfolding IsParams
params_spelled zero [] good few = refl
params_spelled (suc n) [] good few = refl
params_spelled zero (p ∷ []) good few =
    elim (cases_Bool (wants_colon p)) [
      | inl wants ↦ rw wants (refl, inl ([], refl, refl, good))
      | inr bare ↦ rw bare (refl, inr ([], refl, refl, (no_colon p bare good).0, good))
    ]
params_spelled (suc n) (p ∷ []) good few =
    elim (cases_Bool (wants_colon p)) [
      | inl wants ↦ rw wants (inl (refl, ([], refl, refl, good)))
      | inr bare ↦ rw bare (inr (
        [],
        ([], ap (λ (t : List ℕ). 32 ∷ t) (sym (append-nil p)), refl, (no_colon p bare good).1),
        params_spelled n [] refl
            (omega arith),
      ))
    ]
params_spelled zero (p ∷ q ∷ ps) good few = absurd (omega arith)
params_spelled (suc n) (p ∷ q ∷ ps) good few =
    let parts = and_parts (middle p) (carries_params (q ∷ ps)) good in
    inr (params_text (q ∷ ps), ([], refl, refl, parts.0), params_spelled n (q ∷ ps) parts.1 (omega arith))

middle_trailing : (p : List ℕ) → middle p ≡ true → trailing p ≡ true
middle_trailing [] h = absurd (false≢true h)
middle_trailing (b ∷ bs) h =
    all-weaker nospcrlf octet (λ x y. (and_parts (octet x) (not (x == 32)) y).0) (b ∷ bs) (and_parts (not (b == 58)) (list_all nospcrlf (b ∷ bs)) h).1

carries-cons : (p : List ℕ) (ps : List (List ℕ)) → middle p ≡ true → carries_params ps ≡ true → carries_params (p ∷ ps) ≡ true
carries-cons p [] h more = middle_trailing p h
carries-cons p (q ∷ ps) h more = and_from (middle p) (carries_params (q ∷ ps)) h more

carries_alone : (p : List ℕ) (ps : List (List ℕ)) → ps ≡ [] → trailing p ≡ true → (carries_params (p ∷ ps) ≡ true) × (length (p ∷ ps) ≤ 1)
carries_alone p [] none h = (h, omega arith)
carries_alone p (q ∷ ps) none h = absurd cc

params_carried : (n : ℕ) (text : List ℕ) (ps : List (List ℕ)) → IsParams n text ps → (carries_params ps ≡ true) × (length ps ≤ suc n)
unfolding IsParams
params_carried zero text [] h = (refl, omega arith)
params_carried (suc n) text [] h = (refl, omega arith)
params_carried zero text (p ∷ ps) h =
    let inside : trailing p ≡ true = elim h.1 [ inl t ↦ t.3 | inr f ↦ f.4 ] in
    let alone = carries_alone p ps h.0 inside in
    (alone.0, omega (arith, alone.1))
params_carried (suc n) text (p ∷ ps) h =
    elim h [
      | inl t ↦ let alone = carries_alone p ps t.0 t.1.3 in (alone.0, omega (arith, alone.1))
      | inr m ↦ let more = params_carried n m.0 ps m.2 in (carries-cons p ps m.1.3 more.0, omega (arith, more.1))
    ]

-- ---- the message

prefix_spelled : (prefix : List ℕ) → carries_prefix prefix ≡ true → IsPrefixPart (prefix_text prefix) prefix
prefix_spelled [] h = refl
prefix_spelled (b ∷ bs) h = ([], refl, refl, refl, h)

prefix_carried : (part prefix : List ℕ) → IsPrefixPart part prefix → carries_prefix prefix ≡ true
prefix_carried [] [] h = refl
prefix_carried [] (c ∷ prefix) h = absurd cc
prefix_carried (b ∷ bs) [] h = refl
prefix_carried (b ∷ bs) (c ∷ prefix) h = h.4

-- the message that the canonical line reads back as
shown : Message → Message
shown m = record { prefix = m.prefix; command = m.command; params = m.params; rest = flush (params_text m.params) }

pub carried_reads : (m : Message) → carries m ≡ true → ReadsBack (canonical m) m
unfolding shown
carried_reads m h =
    let first = and_parts (kept_command m.command) (carries_prefix m.prefix &&
    (nat_le (length m.params) 15 && (carries_params m.params && nat_le (length (canonical m)) 510))) h in
    let second = and_parts (carries_prefix m.prefix) (nat_le (length m.params) 15 && (carries_params m.params && nat_le (length (canonical m)) 510)) first.1 in
    let third = and_parts (nat_le (length m.params) 15) (carries_params m.params && nat_le (length (canonical m)) 510) second.1 in
    let fourth = and_parts (carries_params m.params) (nat_le (length (canonical m)) 510) third.1 in
    let kept = command_kept m.command first.0 in
    let tail = params_text m.params in
    let rest = flush_split tail in
    let is : IsMessage (canonical m) (shown m) = record {
      lead = [];
      prefix_part = prefix_text m.prefix;
      word = m.command;
      tail = tail;
      whole = refl;
      lead_is = refl;
      prefix_is = prefix_spelled m.prefix second.0;
      word_is = kept.0;
      command_is = sym kept.1;
      params_are = params_spelled 14 m.params fourth.0 (leb-true (length m.params) 15 third.0);
      gap = rest.0;
      tail_is = rest.2;
      gap_is = rest.1;
      rest_is = flush_is tail;
    } in (
      none-all is_end octet octet-end (canonical m) (message_octets (canonical m) (shown m) is),
      shown m,
      message_complete (canonical m) (shown m)
          (leb-true (length (canonical m)) 510 fourth.1) is,
      (refl, refl, refl),
    )

-- what any line that reads back as the message says of its parts
pub parts_carried : (run : List ℕ) (m : Message) → ReadsBack run m
    → (kept_command m.command ≡ true) × (carries_prefix m.prefix ≡ true) × (length m.params ≤ 15) × (carries_params m.params ≡ true) × (length run ≤ 510)
parts_carried run m back =
    let read = back.1 in
    let same = back.3 in
    let is = message_sound run read back.0 back.2 in
    let params = params_carried 14 is.tail read.params is.params_are in (
      subst (λ (c : List ℕ). kept_command c ≡ true) (sym is.command_is ∙ same.1) (kept_upper is.word is.word_is),
      subst (λ (p : List ℕ). carries_prefix p ≡ true) same.0 (prefix_carried is.prefix_part read.prefix is.prefix_is),
      subst (λ (p : List (List ℕ)). length p ≤ 15) same.2 params.1,
      subst (λ (p : List (List ℕ)). carries_params p ≡ true) same.2 params.0,
      message_short run read back.2,
    )

pub carries_from : (run : List ℕ) (m : Message) → ReadsBack run m → length (canonical m) ≤ 510 → carries m ≡ true
carries_from run m back short =
    let parts = parts_carried run m back in
    and_from (kept_command m.command) (carries_prefix m.prefix &&
    (nat_le (length m.params) 15 && (carries_params m.params && nat_le (length (canonical m)) 510))) parts.0
    (and_from (carries_prefix m.prefix) (nat_le (length m.params) 15 && (carries_params m.params && nat_le (length (canonical m)) 510)) parts.1
    (and_from (nat_le (length m.params) 15) (carries_params m.params && nat_le (length (canonical m)) 510) (le-leb (length m.params) 15 parts.2)
    (and_from (carries_params m.params) (nat_le (length (canonical m)) 510) parts.3 (le-leb (length (canonical m)) 510 short))))

pub reads_carried : (m : Message) → ReadsBack (canonical m) m → carries m ≡ true
reads_carried m back = carries_from (canonical m) m back (parts_carried (canonical m) m back).4

-- ---- no line is shorter, but by the colon of a fifteenth parameter

middle_bare : (p : List ℕ) → middle p ≡ true → length (last_text p) ≡ length p + 1
middle_bare [] h = absurd (false≢true h)
middle_bare (b ∷ bs) h =
    let parts = and_parts (not (b == 58)) (list_all nospcrlf (b ∷ bs)) h in
    let none : holds 32 (b ∷ bs) ≡ false = none-all (λ x. x == 32) nospcrlf (λ x y. not-true (x == 32) (and_parts (octet x) (not (x == 32)) y).1)
    (b ∷ bs) parts.1 in
    rw (not-true (b == 58) parts.0, none) (omega arith)

last_long : (p : List ℕ) → length (last_text p) ≤ length p + 2
last_long p = elim (cases_Bool (wants_colon p)) [ inl wants ↦ rw wants (omega arith) | inr bare ↦ rw bare (omega arith) ]

-- the canonical text of parameters is no longer than another, or by one byte where there are as many as can be
abbrev IsNoLonger : ℕ → List ℕ → List (List ℕ) → Type 0
IsNoLonger n text ps = (length (params_text ps) ≤ length text) ⊎ ((length ps ≡ suc n) × (length (params_text ps) ≤ length text + 1))

alone_long : (text p : List ℕ) (ps : List (List ℕ)) → ps ≡ [] → IsTrailing text p → length (params_text (p ∷ ps)) ≤ length text
alone_long text p [] none t = omega (arith, last_long p, ap length t.1, length-append t.0 (58 ∷ p))
alone_long text p (q ∷ ps) none t = absurd cc

fifteenth_long : (text p : List ℕ) (ps : List (List ℕ)) → ps ≡ [] → IsFifteenth text p
    → (length (p ∷ ps) ≡ 1) × (length (params_text (p ∷ ps)) ≤ length text + 1)
fifteenth_long text p [] none f = (refl, omega (arith, last_long p, ap length f.1, length-append f.0 p))
fifteenth_long text p (q ∷ ps) none f = absurd cc

middle_long : (text p tail : List ℕ) → IsMiddle text p tail → length p + length tail + 1 ≤ length text
middle_long text p tail m = omega (arith, ap length m.1, length-append m.0 (p ++ tail), length-append p tail)

params_long : (n : ℕ) (text : List ℕ) (ps : List (List ℕ)) → IsParams n text ps → IsNoLonger n text ps
unfolding IsParams
params_long zero text [] h = inl (omega arith)
params_long (suc n) text [] h = inl (omega arith)
params_long zero text (p ∷ ps) h = elim h.1 [ inl t ↦ inl (alone_long text p ps h.0 t) | inr f ↦ inr (fifteenth_long text p ps h.0 f) ]
params_long (suc n) text (p ∷ []) h =
    elim h [
      | inl t ↦ inl (alone_long text p [] t.0 t.1)
      | inr m ↦ inl (omega (arith, middle_bare p m.1.3, middle_long text p m.0 m.1))
    ]
params_long (suc n) text (p ∷ q ∷ ps) h =
    elim h [
      | inl t ↦ absurd (cc (t.0))
      | inr m ↦ let here = middle_long text p m.0 m.1 in
          let sum : length (params_text (p ∷ q ∷ ps)) ≡ length p + length (params_text (q ∷ ps)) + 1 = omega (arith, length-append p (params_text (q ∷ ps))) in
          elim (params_long n m.0 (q ∷ ps) m.2) [
            | inl shorter ↦ inl (omega (arith, sum, here, shorter))
            | inr longer ↦ inr (omega (arith, longer.0), omega (arith, sum, here, longer.1))
          ]
    ]

prefix_long : (part prefix : List ℕ) → IsPrefixPart part prefix → length (prefix_text prefix) ≤ length part
prefix_long part [] h = omega arith
prefix_long [] (c ∷ prefix) h = absurd cc
prefix_long (b ∷ bs) (c ∷ prefix) h = omega (arith, ap length h.2, length-append (c ∷ prefix) (32 ∷ h.0), length-append (c ∷ prefix) (32 ∷ []))

-- another line reads back only where it saves that colon
pub other_line : (m : Message) (run : List ℕ) → (ReadsBack (canonical m) m → ⊥) → ReadsBack run m → (length m.params ≡ 15) × (length run ≡ 510)
other_line m run refused back =
    let read = back.1 in
    let same = back.3 in
    let is = message_sound run read back.0 back.2 in
    let short = message_short run read back.2 in
    let long : 510 < length (canonical m) =
    elim (cases_Bool (nat_le (length (canonical m)) 510)) [
      | inl fits ↦ absurd (refused (carried_reads m (carries_from run m back (leb-true (length (canonical m)) 510 fits))))
      | inr over ↦ leb-false (length (canonical m)) 510 over
    ] in
    let whole : length (canonical m) ≡ length (prefix_text m.prefix) + length m.command + length (params_text m.params) =
    omega (arith, length-append (prefix_text m.prefix) (m.command ++ params_text m.params), length-append m.command (params_text m.params)) in
    let parts : length run ≡ length is.lead + length is.prefix_part + length is.word + length is.tail =
    ap length is.whole ∙ omega (
      arith,
      length-append is.lead (is.prefix_part ++ (is.word ++ is.tail)),
      length-append is.prefix_part (is.word
          ++ is.tail),
      length-append is.word is.tail,
    ) in
    let prefix : length (prefix_text m.prefix) ≤ length is.prefix_part = subst (λ (p : List ℕ). length (prefix_text p) ≤ length is.prefix_part)
    same.0 (prefix_long is.prefix_part read.prefix is.prefix_is) in
    let command_same : length m.command ≡ length is.word = ap length (sym same.1 ∙ is.command_is) ∙ length-map is.word upper in
    let params : IsNoLonger 14 is.tail m.params = subst (λ (p : List (List ℕ)). IsNoLonger 14 is.tail p) same.2
    (params_long 14 is.tail read.params is.params_are) in
    elim params [
      | inl shorter ↦ absurd (omega (arith, long, whole, parts, prefix, command_same, shorter, short))
      | inr longer ↦ (longer.0, omega (arith, long, whole, parts, prefix, command_same, longer.1, short))
    ]
