-- Lines that go together, turn by turn, and what one moment comes to.
use Rattle.std.proofs.Common.{◌≡◌, ℕ, zero, suc, ◌+◌, ◌-◌, ◌<◌, ◌≤◌, ⊎_elim, cond, max, nat_lt}
use Rattle.std.proofs.Common.{List, [], ◌∷◌, ◌++◌, length, map, Some, None, refl, sym, ap, ◌∙◌, arith, append_assoc}
use Rattle.std.proofs.lemmas.Bool.{cases_lt, lt-ltb, le-ltb}
use Rattle.std.proofs.lemmas.List.{append-nil}
use Rattle.outqueue.specs.declared.limits.TheConstants.{AHEAD, COST, MAX_AT_ONCE}
use Rattle.outqueue.specs.Sending.{Sending, waiting, sent, count_at}
use Rattle.outqueue.specs.Joining.{joined, first_group, without_group, next_group, after_group, after_next, with_group, groups_in, after_turns, sent_joined, after_joined, line_of}
use Rattle.outqueue.proofs.Drains.{length-sent}

-- ---- one turn

with_some : (g : List (List ℕ)) (later : List (List (List ℕ))) (line : List ℕ) → line_of g ≡ Some line
    → map joined (with_group g later) ≡ line ∷ map joined later
with_some [] later line is = let no : ⊥ = cc in absurd no
with_some (x ∷ xs) later line is = let same : joined (x ∷ xs) ≡ line = cc in ap (λ l. l ∷ map joined later) same

with_none : (g : List (List ℕ)) (later : List (List (List ℕ))) → line_of g ≡ None → with_group g later ≡ later
with_none [] later is = refl
with_none (x ∷ xs) later is = let no : ⊥ = cc in absurd no

pub groups_step : (n most : ℕ) (q : Sending) (now : ℕ)
    → groups_in (suc n) most q now ≡ with_group (next_group most q now) (groups_in n most (after_group most q now) now)
unfolding groups_in
groups_step n most q now = refl

pub after_step : (n most : ℕ) (q : Sending) (now : ℕ) → after_turns (suc n) most q now ≡ after_turns n most (after_group most q now) now
unfolding after_turns
after_step n most q now = refl

pub groups_none : (most : ℕ) (q : Sending) (now : ℕ) → groups_in 0 most q now ≡ []
unfolding groups_in
groups_none most q now = refl

pub after_none : (most : ℕ) (q : Sending) (now : ℕ) → after_turns 0 most q now ≡ q
unfolding after_turns
after_none most q now = refl

-- where a moment stands after some turns
pub record Turned (most now : ℕ) (old : Sending) (turn : ℕ) (lines : List (List ℕ)) (rest : Sending) : Type 0 where
  pub goes : lines ++ map joined (groups_in (MAX_AT_ONCE - turn) most rest now) ≡ sent_joined most old now
  pub stays : after_turns (MAX_AT_ONCE - turn) most rest now ≡ after_joined most old now

pub turned_none : (most now : ℕ) (old : Sending) → Turned most now old 0 [] old
turned_none most now old = record { goes = refl; stays = refl }

pub turn_goes : (most now : ℕ) (old : Sending) (turn : ℕ) (lines next_lines : List (List ℕ)) (rest next_rest : Sending) (line : List ℕ)
    → turn < MAX_AT_ONCE → Some line ≡ line_of (next_group most rest now) → next_rest ≡ after_group most rest now
    → next_lines ≡ lines ++ line ∷ [] → Turned most now old turn lines rest → Turned most now old (turn + 1) next_lines next_rest
turn_goes most now old turn lines next_lines rest next_rest line h is after more t =
    let n = MAX_AT_ONCE - (turn + 1) in
    let one : MAX_AT_ONCE - turn ≡ suc (MAX_AT_ONCE - (turn + 1)) = omega (arith, h) in
    record {
      goes =
          ap (λ xs. xs ++ map joined (groups_in n most next_rest now)) more
          ∙ append_assoc lines (line ∷ []) (map joined (groups_in n most next_rest now))
          ∙ ap (λ q. lines ++ (line ∷ map joined (groups_in n most q now))) after
          ∙ ap (λ xs. lines ++ xs)
          (sym (with_some (next_group most rest now) (groups_in n most (after_group most rest now) now) line (sym is)))
          ∙ ap (λ gs. lines ++ map joined gs) (sym (groups_step n most rest now))
          ∙ ap (λ k. lines ++ map joined (groups_in k most rest now)) (sym one)
          ∙ t.goes;
      stays =
          ap (λ q. after_turns n most q now) after ∙ sym (after_step n most rest now)
          ∙ ap (λ k. after_turns k most rest now) (sym one) ∙ t.stays;
    }

pub turn_stays : (most now : ℕ) (old : Sending) (turn : ℕ) (lines next_lines : List (List ℕ)) (rest next_rest : Sending) → turn < MAX_AT_ONCE
    → line_of (next_group most rest now) ≡ None → next_rest ≡ after_group most rest now → next_lines ≡ lines
    → Turned most now old turn lines rest → Turned most now old (turn + 1) next_lines next_rest
turn_stays most now old turn lines next_lines rest next_rest h is after same t =
    let n = MAX_AT_ONCE - (turn + 1) in
    let one : MAX_AT_ONCE - turn ≡ suc (MAX_AT_ONCE - (turn + 1)) = omega (arith, h) in
    record {
      goes =
          ap (λ xs. xs ++ map joined (groups_in n most next_rest now)) same
          ∙ ap (λ q. lines ++ map joined (groups_in n most q now)) after
          ∙ ap (λ gs. lines ++ map joined gs)
          (sym (groups_step n most rest now ∙ with_none (next_group most rest now) (groups_in n most (after_group most rest now) now) is))
          ∙ ap (λ k. lines ++ map joined (groups_in k most rest now)) (sym one)
          ∙ t.goes;
      stays =
          ap (λ q. after_turns n most q now) after ∙ sym (after_step n most rest now)
          ∙ ap (λ k. after_turns k most rest now) (sym one) ∙ t.stays;
    }

pub turns_end : (most now : ℕ) (old : Sending) (turn : ℕ) (lines : List (List ℕ)) (rest : Sending) → MAX_AT_ONCE ≤ turn
    → Turned most now old turn lines rest → (lines ≡ sent_joined most old now) × (rest ≡ after_joined most old now)
turns_end most now old turn lines rest h t =
    let none : MAX_AT_ONCE - turn ≡ 0 = omega (arith, h) in (
      sym (ap (λ k. lines ++ map joined (groups_in k most rest now)) none ∙ ap (λ gs. lines ++ map joined gs) (groups_none most rest now)
          ∙ append-nil lines)
          ∙ t.goes,
      sym (ap (λ k. after_turns k most rest now) none ∙ after_none most rest now) ∙ t.stays,
    )

-- ---- a moment at which no line goes

none_first : (most : ℕ) (prompt mode lower : List (List ℕ)) → length (prompt ++ (mode ++ lower)) ≡ 0 → first_group most prompt mode lower ≡ []
none_first most (x ∷ prompt) mode lower h = absurd (omega (arith, h))
none_first most [] (x ∷ mode) lower h = absurd (omega (arith, h))
none_first most [] [] (x ∷ lower) h = absurd (omega (arith, h))
none_first most [] [] [] h = refl

nothing_next : (most : ℕ) (q : Sending) (now : ℕ) → count_at q now ≡ 0 → next_group most q now ≡ []
unfolding next_group
nothing_next most q now none =
    ⊎_elim
    (λ (soon : max q.timer now < now + AHEAD).
    let empty : length (waiting q) ≡ 0 = omega (arith, none, soon) in
    ap (λ b. cond b (first_group most q.prompt q.mode (q.server ++ q.help)) []) (lt-ltb _ _ soon)
    ∙ none_first most q.prompt q.mode (q.server ++ q.help) empty)
    (λ (late : now + AHEAD ≤ max q.timer now). ap (λ b. cond b (first_group most q.prompt q.mode (q.server ++ q.help)) []) (le-ltb _ _ late))
    (cases_lt (max q.timer now) (now + AHEAD))

pub after_nothing : (most : ℕ) (q : Sending) (now : ℕ) → next_group most q now ≡ [] → after_group most q now ≡ record q { timer = max q.timer now }
unfolding after_group
after_nothing most q now none = ap (after_next most q now) none

-- then none goes in later turns
pub nothing_later : (n most : ℕ) (q : Sending) (now : ℕ) → next_group most q now ≡ [] → now ≤ q.timer
    → (groups_in n most q now ≡ []) × (after_turns n most q now ≡ q)
nothing_later zero most q now next past = (groups_none most q now, after_none most q now)
nothing_later (suc n) most q now next past =
    let same : max q.timer now ≡ q.timer = omega (arith, past) in
    let stays : after_group most q now ≡ q = after_nothing most q now next ∙ ap (λ t. let s : Sending = record q { timer = t } in s) same in
    let later = nothing_later n most q now next past in (
      groups_step n most q now
          ∙ ap (λ g. with_group g (groups_in n most (after_group most q now) now)) next
          ∙ ap (λ r. groups_in n most r now) stays ∙ later.0,
      after_step n most q now ∙ ap (λ r. after_turns n most r now) stays ∙ later.1,
    )

-- the timer is taken to the moment first
pub next_reached : (most : ℕ) (q : Sending) (now : ℕ) → next_group most (record q { timer = max q.timer now }) now ≡ next_group most q now
unfolding next_group
next_reached most q now =
    let again : max (max q.timer now) now ≡ max q.timer now = omega arith in
    ap (λ t. cond (nat_lt t (now + AHEAD)) (first_group most q.prompt q.mode (q.server ++ q.help)) []) again

pub nothing_joined : (most : ℕ) (q : Sending) (now : ℕ) → length (sent q now) ≡ 0
    → (sent_joined most q now ≡ []) × (after_joined most q now ≡ record q { timer = max q.timer now })
nothing_joined most q now none =
    let count : count_at q now ≡ 0 = sym (length-sent q now) ∙ none in
    let next : next_group most q now ≡ [] = nothing_next most q now count in
    let stays : after_group most q now ≡ record q { timer = max q.timer now } = after_nothing most q now next in
    let later = nothing_later 4 most (record q { timer = max q.timer now }) now (next_reached most q now ∙ next) (omega arith) in (
      ap (map joined)
          (groups_step 4 most q now
          ∙ ap (λ g. with_group g (groups_in 4 most (after_group most q now) now)) next
          ∙ ap (λ r. groups_in 4 most r now) stays ∙ later.0),
      after_step 4 most q now ∙ ap (λ r. after_turns 4 most r now) stays ∙ later.1,
    )

-- ---- a moment at which a line goes

empty_first : (most : ℕ) (prompt mode lower : List (List ℕ)) → first_group most prompt mode lower ≡ [] → length (prompt ++ (mode ++ lower)) ≡ 0
empty_first most (x ∷ prompt) mode lower none = let no : ⊥ = cc in absurd no
empty_first most [] (x ∷ mode) lower none = let no : ⊥ = cc in absurd no
empty_first most [] [] (x ∷ lower) none = let no : ⊥ = cc in absurd no
empty_first most [] [] [] none = refl

none_counts : (most : ℕ) (q : Sending) (now : ℕ) → next_group most q now ≡ [] → count_at q now ≡ 0
unfolding next_group
none_counts most q now none =
    ⊎_elim
    (λ (soon : max q.timer now < now + AHEAD).
    let empty : length (waiting q) ≡ 0 =
    empty_first most q.prompt q.mode (q.server ++ q.help)
    (sym (ap (λ b. cond b (first_group most q.prompt q.mode (q.server ++ q.help)) []) (lt-ltb _ _ soon)) ∙ none) in
    omega (arith, empty))
    (λ (late : now + AHEAD ≤ max q.timer now). omega (arith, late))
    (cases_lt (max q.timer now) (now + AHEAD))

none_with : (g : List (List ℕ)) (later : List (List (List ℕ))) → map joined (with_group g later) ≡ [] → g ≡ []
none_with [] later none = refl
none_with (x ∷ xs) later none = let no : ⊥ = cc in absurd no

no_lines : (lines : List (List ℕ)) → length lines ≡ 0 → lines ≡ []
no_lines [] none = refl
no_lines (x ∷ xs) none = let no : ⊥ = cc in absurd no

-- if no line goes of modes that go together, none goes one by one
pub nothing_leaves : (most : ℕ) (q : Sending) (now : ℕ) → sent_joined most q now ≡ [] → sent q now ≡ []
nothing_leaves most q now none =
    let next : next_group most q now ≡ [] =
    none_with (next_group most q now) (groups_in 4 most (after_group most q now) now)
    (ap (map joined) (sym (groups_step 4 most q now)) ∙ none) in
    no_lines (sent q now) (length-sent q now ∙ none_counts most q now next)

-- ---- the room stays

room_without : (most : ℕ) (q : Sending) (timer : ℕ) (prompt mode : List (List ℕ)) → (without_group most q timer prompt mode).room ≡ q.room
room_without most q timer (x ∷ prompt) mode = refl
room_without most q timer [] (x ∷ mode) = refl
room_without most q timer [] [] = refl

room_next : (most : ℕ) (q : Sending) (now : ℕ) (g : List (List ℕ)) → (after_next most q now g).room ≡ q.room
room_next most q now [] = refl
room_next most q now (x ∷ xs) = room_without most q (max q.timer now + COST) q.prompt q.mode

room_turn : (most : ℕ) (q : Sending) (now : ℕ) → (after_group most q now).room ≡ q.room
unfolding after_group
room_turn most q now = room_next most q now (next_group most q now)

room_turns : (n most : ℕ) (q : Sending) (now : ℕ) → (after_turns n most q now).room ≡ q.room
unfolding after_turns
room_turns zero most q now = refl
room_turns (suc n) most q now = room_turns n most (after_group most q now) now ∙ room_turn most q now

pub room_joined : (most : ℕ) (q : Sending) (now : ℕ) → (after_joined most q now).room ≡ q.room
room_joined most q now = room_turns 5 most q now
