-- Sending line by line comes to the closed form, and what many moments come to.
use Rattle.std.proofs.Common.{◌≡◌, ℕ, zero, suc, ◌+◌, ◌-◌, ◌*◌, ◌/◌, ◌<◌, ◌≤◌, ◌⊎◌, inl, inr, ⊎_elim, min, max, cond}
use Rattle.std.proofs.Common.{List, [], ◌∷◌, ◌++◌, length, take, drop, Option, Some, None, is_some, refl, sym, ap, ◌∙◌, subst, arith}
use Rattle.std.proofs.Common.{append_assoc, length-append, length-drop}
use Rattle.std.proofs.lemmas.Bool.{cases_lt, lt-ltb, le-ltb}
use Rattle.std.proofs.lemmas.List.{length-take, drop-drop, take-append-drop}
use Rattle.outqueue.specs.declared.limits.TheConstants.{AHEAD, COST}
use Rattle.outqueue.specs.Lanes.{first_of}
use Rattle.outqueue.specs.Sending.{Sending, waiting, gone, count_at, sent, after, IsGreatest, next_line, after_line}
use Rattle.outqueue.specs.Sending.{sent_over, after_over, AllUpTo}

-- ---- the first n lines that wait

drop_zero : {X : Type 0} (n : ℕ) (xs : List X) → n ≡ 0 → drop n xs ≡ xs
drop_zero n xs e = ap (λ k. drop k xs) e

drop-append : {X : Type 0} (n : ℕ) (xs ys : List X) → drop n (xs ++ ys) ≡ drop n xs ++ drop (n - length xs) ys
drop-append zero xs ys =
    let none : 0 - length xs ≡ 0 = omega arith in
    ap (λ k. xs ++ drop k ys) (sym none)
drop-append (suc n) [] ys =
    let same : suc n - 0 ≡ suc n = omega arith in
    ap (λ k. drop k ys) (sym same)
drop-append (suc n) (x ∷ xs) ys =
    let same : suc n - suc (length xs) ≡ n - length xs = omega arith in
    drop-append n xs ys ∙ ap (λ k. drop n xs ++ drop k ys) (sym same)

-- what waits when n lines have gone is the rest
pub waiting-gone : (n : ℕ) (q : Sending) (timer : ℕ) → waiting (gone n q timer) ≡ drop n (waiting q)
waiting-gone n q timer =
    let in_mode = n - length q.prompt in
    let split : n - length q.prompt - length q.mode ≡ n - (length q.prompt + length q.mode) = omega arith in
    let split_help : n - length q.prompt - length q.mode - length q.server
    ≡ n - (length q.prompt + (length q.mode + length q.server)) = omega arith in
    sym (drop-append n q.prompt (q.mode ++ (q.server ++ q.help))
    ∙ ap (λ rest. drop n q.prompt ++ rest) (drop-append in_mode q.mode (q.server ++ q.help))
    ∙ ap (λ rest. drop n q.prompt ++ (drop in_mode q.mode ++ rest)) (drop-append (in_mode - length q.mode) q.server q.help)
    ∙ ap (λ k. drop n q.prompt ++ (drop in_mode q.mode ++ (drop k q.server ++ drop (in_mode - length q.mode - length q.server) q.help))) split
    ∙ ap (λ k. drop n q.prompt ++ (drop in_mode q.mode ++ (drop (n - (length q.prompt + length q.mode)) q.server ++ drop k q.help))) split_help)

-- ---- one moment

-- where n lines have gone, of those that wait and may
pub record Drained (old : Sending) (now : ℕ) (lines : List (List ℕ)) (q : Sending) : Type 0 where
  pub lines_are : lines ≡ take (length lines) (waiting old)
  pub prompt : q.prompt ≡ drop (length lines) old.prompt
  pub mode : q.mode ≡ drop (length lines - length old.prompt) old.mode
  pub server : q.server ≡ drop (length lines - (length old.prompt + length old.mode)) old.server
  pub help : q.help ≡ drop (length lines - (length old.prompt + (length old.mode + length old.server))) old.help
  pub room : q.room ≡ old.room
  pub timer : max q.timer now ≡ max old.timer now + COST * length lines
  pub in_time : (k : ℕ) → k < length lines → max old.timer now + COST * k < now + AHEAD

pub Drained-none : (old : Sending) (now : ℕ) → Drained old now [] old
Drained-none old now =
    let none : 0 - length old.prompt ≡ 0 = omega arith in
    let neither : 0 - (length old.prompt + length old.mode) ≡ 0 = omega arith in
    let nor : 0 - (length old.prompt + (length old.mode + length old.server)) ≡ 0 = omega arith in
    record {
      lines_are = refl;
      prompt = refl;
      mode = sym (drop_zero _ old.mode none);
      server = sym (drop_zero _ old.server neither);
      help = sym (drop_zero _ old.help nor);
      room = refl;
      timer = omega arith;
      in_time = λ k h. absurd (omega arith);
    }

-- what waits then is the rest
waiting-Drained : (old : Sending) (now : ℕ) (lines : List (List ℕ)) (q : Sending) → Drained old now lines q → waiting q ≡ drop (length lines) (waiting old)
waiting-Drained old now lines q d =
    let prompt = drop (length lines) old.prompt in
    let mode = drop (length lines - length old.prompt) old.mode in
    let server = drop (length lines - (length old.prompt + length old.mode)) old.server in
    ap (λ xs. xs ++ (q.mode ++ (q.server ++ q.help))) d.prompt
    ∙ ap (λ xs. prompt ++ (xs ++ (q.server ++ q.help))) d.mode
    ∙ ap (λ xs. prompt ++ (mode ++ (xs ++ q.help))) d.server
    ∙ ap (λ xs. prompt ++ (mode ++ (server ++ xs))) d.help
    ∙ waiting-gone (length lines) old 0

length-Drained : (old : Sending) (now : ℕ) (lines : List (List ℕ)) (q : Sending) → Drained old now lines q → length lines ≤ length (waiting old)
length-Drained old now lines q d =
    let same : length lines ≡ min (length lines) (length (waiting old)) = ap length d.lines_are ∙ length-take (length lines) (waiting old) in
    omega arith

-- the first line that is left
front_next : (n : ℕ) (xs : List (List ℕ)) (line : List ℕ) → first_of (drop n xs) ≡ Some line → take (suc n) xs ≡ take n xs ++ line ∷ []
front_next zero [] line e = cc
front_next zero (x ∷ xs) line e = let same : x ≡ line = cc in ap (λ y. y ∷ []) same
front_next (suc n) [] line e = cc
front_next (suc n) (x ∷ xs) line e = ap (λ ys. x ∷ ys) (front_next n xs line e)

front_within : (n : ℕ) (xs : List (List ℕ)) (line : List ℕ) → first_of (drop n xs) ≡ Some line → n < length xs
front_within zero [] line e = let no : ⊥ = cc in absurd no
front_within zero (x ∷ xs) line e = omega arith
front_within (suc n) [] line e = let no : ⊥ = cc in absurd no
front_within (suc n) (x ∷ xs) line e = let h : n < length xs = front_within n xs line e in omega arith

front_none : (n : ℕ) (xs : List (List ℕ)) → first_of (drop n xs) ≡ None → length xs ≤ n
front_none zero [] e = omega arith
front_none zero (x ∷ xs) e = let no : ⊥ = cc in absurd no
front_none (suc n) [] e = omega arith
front_none (suc n) (x ∷ xs) e = let h : length xs ≤ n = front_none n xs e in omega arith

-- a line goes only in time, and it is the first that waits
next_line-Some : (q : Sending) (now : ℕ) (line : List ℕ) → next_line q now ≡ Some line → (max q.timer now < now + AHEAD) × (first_of (waiting q) ≡ Some line)
unfolding next_line
next_line-Some q now line e =
    ⊎_elim
    (λ soon. (soon, sym (ap (λ b. cond b (first_of (waiting q)) None) (lt-ltb _ _ soon)) ∙ e))
    (λ late. let no : None ≡ Some line = sym (ap (λ b. cond b (first_of (waiting q)) None) (le-ltb _ _ late)) ∙ e in let never : ⊥ = cc in absurd never)
    (cases_lt (max q.timer now) (now + AHEAD))

next_line-None : (q : Sending) (now : ℕ) → next_line q now ≡ None → (now + AHEAD ≤ max q.timer now) ⊎ (first_of (waiting q) ≡ None)
unfolding next_line
next_line-None q now e =
    ⊎_elim
    (λ soon. inr (sym (ap (λ b. cond b (first_of (waiting q)) None) (lt-ltb _ _ soon)) ∙ e))
    (λ late. inl late)
    (cases_lt (max q.timer now) (now + AHEAD))

after_line-Some : (q : Sending) (now : ℕ) (line : List ℕ) → next_line q now ≡ Some line → after_line q now ≡ gone 1 q (max q.timer now + COST)
unfolding after_line
after_line-Some q now line e = ap (λ (o : Option (List ℕ)). cond (is_some o) (gone 1 q (max q.timer now + COST)) (record q { timer = max q.timer now })) e

after_line-None : (q : Sending) (now : ℕ) → next_line q now ≡ None → after_line q now ≡ record q { timer = max q.timer now }
unfolding after_line
after_line-None q now e = ap (λ (o : Option (List ℕ)). cond (is_some o) (gone 1 q (max q.timer now + COST)) (record q { timer = max q.timer now })) e

-- one line more
more_gone : (old : Sending) (now : ℕ) (lines : List (List ℕ)) (line : List ℕ) (q : Sending) → Drained old now lines q
    → max q.timer now < now + AHEAD → first_of (waiting q) ≡ Some line → Drained old now (lines ++ line ∷ []) (gone 1 q (max q.timer now + COST))
more_gone old now lines line q d soon is_first =
    let n : ℕ = length lines in
    let front : first_of (drop (length lines) (waiting old)) ≡ Some line = ap first_of (sym (waiting-Drained old now lines q d)) ∙ is_first in
    let len : length (lines ++ line ∷ []) ≡ suc (length lines) = length-append lines (line ∷ []) ∙ omega arith in
    let prompt_len : length q.prompt ≡ length old.prompt - length lines = ap length d.prompt ∙ length-drop (length lines) old.prompt in
    let mode_len : length q.mode ≡ length old.mode - (length lines - length old.prompt) =
    ap length d.mode ∙ length-drop (length lines - length old.prompt) old.mode in
    let server_len : length q.server ≡ length old.server - (length lines - (length old.prompt + length old.mode)) =
    ap length d.server ∙ length-drop (length lines - (length old.prompt + length old.mode)) old.server in
    let one : length lines + 1 ≡ length (lines ++ line ∷ []) = omega arith in
    let in_mode : (length lines - length old.prompt) + (1 - length q.prompt) ≡ length (lines ++ line ∷ []) - length old.prompt = omega arith in
    let higher : ℕ = length old.prompt + length old.mode in
    let in_server : (length lines - higher) + (1 - (length q.prompt + length q.mode)) ≡ length (lines ++ line ∷ []) - higher = omega arith in
    let highest : ℕ = length old.prompt + (length old.mode + length old.server) in
    let in_help : (length lines - highest) + (1 - (length q.prompt + (length q.mode + length q.server)))
    ≡ length (lines ++ line ∷ []) - highest = omega arith in
    record {
      lines_are = ap (λ xs. xs ++ line ∷ []) d.lines_are ∙ sym (front_next (length lines) (waiting old) line front) ∙ ap (λ k. take k (waiting old)) (sym len);
      prompt = ap (λ xs. drop 1 xs) d.prompt ∙ drop-drop 1 (length lines) old.prompt ∙ ap (λ k. drop k old.prompt) one;
      mode =
          ap (λ xs. drop (1 - length q.prompt) xs) d.mode
          ∙ drop-drop (1 - length q.prompt) (length lines - length old.prompt) old.mode
          ∙ ap (λ k. drop k old.mode) in_mode;
      server =
          ap (λ xs. drop (1 - (length q.prompt + length q.mode)) xs) d.server
          ∙ drop-drop (1 - (length q.prompt + length q.mode)) (length lines - higher) old.server
          ∙ ap (λ k. drop k old.server) in_server;
      help =
          ap (λ xs. drop (1 - (length q.prompt + (length q.mode + length q.server))) xs) d.help
          ∙ drop-drop (1 - (length q.prompt + (length q.mode + length q.server))) (length lines - highest) old.help
          ∙ ap (λ k. drop k old.help) in_help;
      room = d.room;
      timer = let before : max q.timer now ≡ max old.timer now + COST * length lines = d.timer in omega arith;
      in_time = λ k h.
          ⊎_elim (λ early. d.in_time k early)
          (λ late. let before : max q.timer now ≡ max old.timer now + COST * length lines = d.timer in omega arith) (cases_lt k (length lines));
    }

pub Drained_more : (old : Sending) (now : ℕ) (lines : List (List ℕ)) (line : List ℕ) (q : Sending) → Drained old now lines q
    → next_line q now ≡ Some line → Drained old now (lines ++ line ∷ []) (after_line q now)
Drained_more old now lines line q d e =
    let goes = next_line-Some q now line e in
    subst (Drained old now (lines ++ line ∷ [])) (sym (after_line-Some q now line e)) (more_gone old now lines line q d goes.0 goes.1)

-- how many go at a moment
pub length-sent : (q : Sending) (now : ℕ) → length (sent q now) ≡ count_at q now
unfolding sent
length-sent q now = length-take (count_at q now) (waiting q) ∙ omega arith

-- five at most
pub few-sent : (q : Sending) (now : ℕ) → length (sent q now) ≤ 5
few-sent q now = let count : length (sent q now) ≡ count_at q now = length-sent q now in omega arith

-- it is one of those that go
pub Drained-room : (old : Sending) (now : ℕ) (lines : List (List ℕ)) (line : List ℕ) (q : Sending) → Drained old now lines q
    → next_line q now ≡ Some line → length lines < length (sent old now)
Drained-room old now lines line q d e =
    let count : length (sent old now) ≡ count_at old now = length-sent old now in
    let goes = next_line-Some q now line e in
    let soon : max q.timer now < now + AHEAD = goes.0 in
    let before : max q.timer now ≡ max old.timer now + COST * length lines = d.timer in
    let front : first_of (drop (length lines) (waiting old)) ≡ Some line = ap first_of (sym (waiting-Drained old now lines q d)) ∙ goes.1 in
    let within : length lines < length (waiting old) = front_within (length lines) (waiting old) line front in
    omega arith

pub length-waiting-after_line : (q : Sending) (now : ℕ) (line : List ℕ) → next_line q now ≡ Some line → length (waiting (after_line q now)) < length (waiting q)
length-waiting-after_line q now line e =
    let goes = next_line-Some q now line e in
    let within : 0 < length (waiting q) = front_within 0 (waiting q) line goes.1 in
    let len : length (waiting (after_line q now)) ≡ length (waiting q) - 1 =
    ap (λ p. length (waiting p)) (after_line-Some q now line e) ∙ ap length (waiting-gone 1 q (max q.timer now + COST)) ∙ length-drop 1 (waiting q) in
    omega arith

-- ---- the end of a moment

same_sending : (a b : Sending) → a.prompt ≡ b.prompt → a.mode ≡ b.mode → a.server ≡ b.server → a.help ≡ b.help
    → a.timer ≡ b.timer → a.room ≡ b.room → a ≡ b
same_sending a b prompt mode server help timer room =
    ap (λ m. let s : Sending = record a { prompt = m } in s) prompt
    ∙ ap (λ m. let s : Sending = record a { prompt = b.prompt; mode = m } in s) mode
    ∙ ap (λ m. let s : Sending = record b { server = m; help = a.help; timer = a.timer; room = a.room } in s) server
    ∙ ap (λ m. let s : Sending = record b { help = m; timer = a.timer; room = a.room } in s) help
    ∙ ap (λ m. let s : Sending = record b { timer = m; room = a.room } in s) timer
    ∙ ap (λ m. let s : Sending = record b { room = m } in s) room

-- no line may follow
Drained-no_more : (old : Sending) (now : ℕ) (lines : List (List ℕ)) (q : Sending) → Drained old now lines q
    → next_line q now ≡ None → length lines < length (waiting old) → now + AHEAD ≤ max old.timer now + COST * length lines
Drained-no_more old now lines q d e h =
    let before : max q.timer now ≡ max old.timer now + COST * length lines = d.timer in
    ⊎_elim
    (λ (late : now + AHEAD ≤ max q.timer now). omega arith)
    (λ (none : first_of (waiting q) ≡ None).
    let all : length (waiting old) ≤ length lines = front_none (length lines) (waiting old) (ap first_of (sym (waiting-Drained old now lines q d)) ∙ none) in
    absurd (omega arith))
    (next_line-None q now e)

pub IsGreatest-Drained : (old : Sending) (now : ℕ) (lines : List (List ℕ)) (q : Sending) → Drained old now lines q
    → next_line q now ≡ None → IsGreatest old now lines
IsGreatest-Drained old now lines q d e = record { first = d.lines_are; in_time = d.in_time; no_more = Drained-no_more old now lines q d e }

-- the greatest list has as many lines as the closed form says
pub length-IsGreatest : (q : Sending) (now : ℕ) (lines : List (List ℕ)) → length lines ≤ length (waiting q)
    → IsGreatest q now lines → length lines ≡ count_at q now
length-IsGreatest q now lines within g =
    ⊎_elim
    (λ (some : 0 < length lines).
    let last : max q.timer now + COST * (length lines - 1) < now + AHEAD = g.in_time (length lines - 1) (omega arith) in
    ⊎_elim
    (λ (short : length lines < length (waiting q)). let no_more : now + AHEAD ≤ max q.timer now + COST * length lines = g.no_more short in omega arith)
    (λ (all : length (waiting q) ≤ length lines). omega arith)
    (cases_lt (length lines) (length (waiting q))))
    (λ (none : length lines ≤ 0).
    ⊎_elim
    (λ (short : length lines < length (waiting q)). let no_more : now + AHEAD ≤ max q.timer now + COST * length lines = g.no_more short in omega arith)
    (λ (all : length (waiting q) ≤ length lines). omega arith)
    (cases_lt (length lines) (length (waiting q))))
    (cases_lt 0 (length lines))

Drained-count : (old : Sending) (now : ℕ) (lines : List (List ℕ)) (q : Sending) → Drained old now lines q
    → next_line q now ≡ None → length lines ≡ count_at old now
Drained-count old now lines q d e =
    length-IsGreatest old now lines (length-Drained old now lines q d) (IsGreatest-Drained old now lines q d e)

pub Drained-sent : (old : Sending) (now : ℕ) (lines : List (List ℕ)) (q : Sending) → Drained old now lines q → next_line q now ≡ None → lines ≡ sent old now
unfolding sent
Drained-sent old now lines q d e = d.lines_are ∙ ap (λ k. take k (waiting old)) (Drained-count old now lines q d e)

pub Drained-after : (old : Sending) (now : ℕ) (lines : List (List ℕ)) (q : Sending) → Drained old now lines q
    → next_line q now ≡ None → after_line q now ≡ after old now
unfolding after
Drained-after old now lines q d e =
    let last : Sending = record q { timer = max q.timer now } in
    after_line-None q now e
    ∙ same_sending (record q { timer = max q.timer now })
    (gone (length lines) old (max old.timer now + COST * length lines)) d.prompt d.mode d.server d.help d.timer d.room
    ∙ ap (λ k. gone k old (max old.timer now + COST * k)) (Drained-count old now lines q d e)

-- what went and what stays are what waited
pub waiting-after : (q : Sending) (now : ℕ) → sent q now ++ waiting (after q now) ≡ waiting q
unfolding sent after
waiting-after q now =
    ap (λ rest. take (count_at q now) (waiting q) ++ rest) (waiting-gone (count_at q now) q (max q.timer now + COST * count_at q now))
    ∙ take-append-drop (count_at q now) (waiting q)

-- the room stays
pub room-after : (q : Sending) (now : ℕ) → (after q now).room ≡ q.room
unfolding after
room-after q now = refl

-- ---- many moments

pub sent_over-order : (q : Sending) (moments : List ℕ) → sent_over q moments ++ waiting (after_over q moments) ≡ waiting q
sent_over-order q [] = refl
sent_over-order q (now ∷ moments) =
    append_assoc (sent q now) (sent_over (after q now) moments) (waiting (after_over (after q now) moments))
    ∙ ap (λ rest. sent q now ++ rest) (sent_over-order (after q now) moments)
    ∙ waiting-after q now

timer-after : (q : Sending) (now : ℕ) → (after q now).timer ≡ max q.timer now + COST * count_at q now
unfolding after
timer-after q now = refl

pace_step : (timer now last waits n more next : ℕ) → now ≤ last
    → n ≡ min waits ((now + AHEAD - max timer now + (COST - 1)) / COST) → next ≡ max timer now + COST * n
    → next + COST * more ≤ max next (last + (AHEAD + COST - 1)) → timer + COST * (n + more) ≤ max timer (last + (AHEAD + COST - 1))
pace_step timer now last waits n more next upto count moved rest = omega arith

pub sent_over-pace : (q : Sending) (moments : List ℕ) (last : ℕ) → AllUpTo last moments
    → q.timer + COST * length (sent_over q moments) ≤ max q.timer (last + (AHEAD + COST - 1))
sent_over-pace q [] last upto = omega arith
sent_over-pace q (now ∷ moments) last upto =
    let later : List (List ℕ) = sent_over (after q now) moments in
    let both : length (sent q now ++ later) ≡ length (sent q now) + length later = length-append (sent q now) later in
    let step : q.timer + COST * (length (sent q now) + length (sent_over (after q now) moments)) ≤ max q.timer (last + (AHEAD + COST - 1)) =
    pace_step q.timer now last (length (waiting q)) (length (sent q now)) (length (sent_over (after q now) moments))
    (after q now).timer upto.0 (length-sent q now)
    (timer-after q now ∙ ap (λ k. max q.timer now + COST * k) (sym (length-sent q now))) (sent_over-pace (after q now) moments last upto.1) in
    subst (λ k. q.timer + COST * k ≤ max q.timer (last + (AHEAD + COST - 1))) (sym both) step

-- ---- answers to PING

-- the first line that waits is the first of them
pub next_line-prompt : (q : Sending) (now : ℕ) (line : List ℕ) (later : List (List ℕ)) → q.prompt ≡ line ∷ later
    → max q.timer now < now + AHEAD → next_line q now ≡ Some line
unfolding next_line
next_line-prompt q now line later is soon =
    ap (λ b. cond b (first_of (waiting q)) None) (lt-ltb _ _ soon)
    ∙ ap (λ (xs : List (List ℕ)). first_of (xs ++ (q.mode ++ (q.server ++ q.help)))) is

-- two lists that begin one list agree as far as both go
both_begin : {X : Type 0} (xs xs_left ys ys_left : List X) → xs ++ xs_left ≡ ys ++ ys_left
    → take (length ys) xs ≡ take (length xs) ys
both_begin [] xs_left [] ys_left same = refl
both_begin [] xs_left (y ∷ ys) ys_left same = refl
both_begin (x ∷ xs) xs_left [] ys_left same = refl
both_begin (x ∷ xs) xs_left (y ∷ ys) ys_left same =
    let first : x ≡ y = cc in
    let rest : xs ++ xs_left ≡ ys ++ ys_left = cc in
    ap (λ z. z ∷ take (length ys) xs) first ∙ ap (λ zs. y ∷ zs) (both_begin xs xs_left ys ys_left rest)

pub sent_over-prompt : (q : Sending) (moments : List ℕ)
    → take (length q.prompt) (sent_over q moments) ≡ take (length (sent_over q moments)) q.prompt
sent_over-prompt q moments =
    both_begin (sent_over q moments) (waiting (after_over q moments)) q.prompt (q.mode ++ (q.server ++ q.help))
    (sent_over-order q moments)
