-- What joining keeps.
use Rattle.std.proofs.Common.{◌≡◌, ℕ, zero, suc, ◌+◌, ◌-◌, ◌*◌, ◌<◌, ◌≤◌, ◌⊎◌, inl, inr, ⊎_elim, ◌==◌, Bool, true, false, not, cond, max, nat_lt, codes}
use Rattle.std.proofs.Common.{List, [], ◌∷◌, ◌++◌, length, map, drop, get_or, bytes_eq, refl, sym, ap, ◌∙◌, subst, arith, append_assoc, length-append}
use Rattle.std.specs.List.{concat, filter, remove, position_or_len}
use Rattle.std.proofs.lemmas.Bool.{cases_lt, lt-ltb, le-ltb, and_parts, or_parts, or_from, eqb-true}
use Rattle.std.proofs.lemmas.List.Elements.{filter-append}
use Rattle.std.proofs.lemmas.Slice.Eq.{bytes_eq-Decides}
use Rattle.bytetext.specs.Words.{first_word}
use Rattle.rfccase.specs.Casemapping.{is_same}
use Rattle.rfccase.proofs.SameLemmas.{is_same-refl, is_same-right}
use Rattle.outqueue.specs.declared.limits.TheConstants.{AHEAD, COST, MAX_JOINED}
use Rattle.outqueue.specs.Sending.{Sending, waiting, gone, AllUpTo}
use Rattle.outqueue.specs.Joining.{channel_of, mode_of, argument_of, is_mode, is_argument, is_one_mode, is_about, place_about, next_about, others, added_by, room_after}
use Rattle.outqueue.specs.Joining.{goes_along, along, left, group, ungrouped, joined, spaced_argument, first_group, without_group, next_group, after_next, after_group}
use Rattle.outqueue.specs.Joining.{with_group, groups_in, after_turns, groups, groups_over, lines_of, after_joined, AreModesOf, GoTogether}
use Rattle.outqueue.specs.Shares.{stands_in, StandOnce, IsFair}
use Rattle.outqueue.proofs.JoiningLemmas.{goes_fits, none_goes}
use Rattle.outqueue.proofs.JoinedDrains.{groups_step, after_step, groups_none, after_none, after_nothing, nothing_later, next_reached}
use Rattle.outqueue.proofs.Drains.{waiting-gone}
use Rattle.outqueue.proofs.ShareLemmas.{StandOnce-drop, IsFair-gone}

-- ---- modes of one channel

-- what goes along is of that channel, is at most so many lines, and fits into the room
abbrev total : List (List ℕ) → ℕ
total [] = 0
total (line ∷ lines) = added_by line + total lines

goes_mode : (channel : List ℕ) (room : ℕ) (line : List ℕ) → goes_along channel room line ≡ true
    → (is_one_mode line ≡ true) × (channel_of line ≡ channel)
unfolding goes_along
goes_mode channel room line goes =
    let first = and_parts (is_one_mode line) _ goes in
    let second = and_parts (bytes_eq (channel_of line) channel) _ first.1 in
    (first.0, (bytes_eq-Decides (channel_of line) channel).0 second.0)

along_modes_if : (b : Bool) (channel : List ℕ) (room : ℕ) (line : List ℕ) (more : List (List ℕ)) → goes_along channel room line ≡ b
    → AreModesOf channel more → AreModesOf channel (cond b (line ∷ more) [])
along_modes_if true channel room line more goes modes =
    let mode = goes_mode channel room line goes in (mode.0, mode.1, modes)
along_modes_if false channel room line more goes modes = tt

along_modes : (n : ℕ) (channel : List ℕ) (room : ℕ) (lines : List (List ℕ)) → AreModesOf channel (along n channel room lines)
unfolding along
along_modes zero channel room lines = tt
along_modes (suc n) channel room lines =
    along_modes_if (goes_along channel room (next_about channel lines)) channel room (next_about channel lines) _ refl
    (along_modes n channel (room - added_by (next_about channel lines)) (others channel lines))

few_if : (b : Bool) (n : ℕ) (line : List ℕ) (more : List (List ℕ)) → length more ≤ n → length (cond b (line ∷ more) []) ≤ suc n
few_if true n line more few = omega (arith, few)
few_if false n line more few = omega arith

along_few : (n : ℕ) (channel : List ℕ) (room : ℕ) (lines : List (List ℕ)) → length (along n channel room lines) ≤ n
unfolding along
along_few zero channel room lines = omega arith
along_few (suc n) channel room lines =
    few_if (goes_along channel room (next_about channel lines)) n (next_about channel lines) _
    (along_few n channel (room - added_by (next_about channel lines)) (others channel lines))

fits_if : (b : Bool) (channel : List ℕ) (room : ℕ) (line : List ℕ) (more : List (List ℕ)) → goes_along channel room line ≡ b
    → total more ≤ room - added_by line → total (cond b (line ∷ more) []) ≤ room
fits_if true channel room line more goes fits = let one = goes_fits channel room line goes in omega (arith, one, fits)
fits_if false channel room line more goes fits = omega arith

along_fits : (n : ℕ) (channel : List ℕ) (room : ℕ) (lines : List (List ℕ)) → total (along n channel room lines) ≤ room
unfolding along
along_fits zero channel room lines = omega arith
along_fits (suc n) channel room lines =
    fits_if (goes_along channel room (next_about channel lines)) channel room (next_about channel lines) _ refl
    (along_fits n channel (room - added_by (next_about channel lines)) (others channel lines))

-- ---- law together

several : (most : ℕ) (line : List ℕ) (more : List (List ℕ)) → is_one_mode line ≡ true → AreModesOf (channel_of line) more
    → length more ≤ most - 1 → GoTogether most (line ∷ more)
several most line [] one modes few = tt
several most line (next ∷ more) one modes few = (omega (arith, few), (one, refl, modes))

together_if : (b : Bool) (most : ℕ) (line : List ℕ) (more : List (List ℕ)) → is_one_mode line ≡ b → AreModesOf (channel_of line) more
    → length more ≤ most - 1 → GoTogether most (line ∷ (cond b more []))
together_if true most line more one modes few = several most line more one modes few
together_if false most line more one modes few = tt

pub group_together : (most : ℕ) (lines : List (List ℕ)) → GoTogether most (group most lines)
group_together most [] = tt
group_together most (line ∷ lines) =
    together_if (is_one_mode line) most line _ refl (along_modes (most - 1) (channel_of line) (room_after line) lines)
    (along_few (most - 1) (channel_of line) (room_after line) lines)

-- ---- law short

mode_len : (line : List ℕ) → is_one_mode line ≡ true → length (mode_of line) ≡ 2
unfolding is_one_mode
mode_len line one =
    let first = and_parts (bytes_eq (first_word line) (codes "MODE")) _ one in
    let second = and_parts (is_mode (mode_of line)) (is_argument (argument_of line)) first.1 in
    let third = and_parts (length (mode_of line) == 2) _ second.0 in
    eqb-true (length (mode_of line)) 2 third.0

-- the modes and the arguments of some lines
parts_len : (channel : List ℕ) (lines : List (List ℕ)) → AreModesOf channel lines
    → length (concat (map mode_of lines)) + length (concat (map spaced_argument lines)) ≡ total lines
parts_len channel [] modes = refl
parts_len channel (line ∷ lines) modes =
    let rest = parts_len channel lines modes.2 in
    let mode = mode_len line modes.0 in
    omega (
      arith,
      rest,
      mode,
      length-append (mode_of line) (concat (map mode_of lines)),
      length-append (spaced_argument line) (concat (map spaced_argument lines)),
    )

short_several : (line : List ℕ) (more : List (List ℕ)) → is_one_mode line ≡ true → AreModesOf (channel_of line) more
    → total more ≤ room_after line → 1 < length (line ∷ more) → length (joined (line ∷ more)) ≤ MAX_JOINED
short_several line [] one modes fits many = absurd (omega (arith, many))
short_several line (next ∷ more) one modes fits many =
    let parts = parts_len (channel_of line) (line ∷ (next ∷ more)) (one, refl, modes) in
    omega (
      arith,
      parts,
      fits,
      length-append (concat (map mode_of (line ∷ (next ∷ more)))) (concat (map spaced_argument (line ∷ (next ∷ more)))),
      length-append (channel_of line) (32 ∷ (concat (map mode_of (line ∷ (next ∷ more))) ++ concat (map spaced_argument (line ∷ (next ∷ more))))),
    )

short_if : (b : Bool) (line : List ℕ) (more : List (List ℕ)) → is_one_mode line ≡ b → AreModesOf (channel_of line) more
    → total more ≤ room_after line → 1 < length (line ∷ (cond b more [])) → length (joined (line ∷ (cond b more []))) ≤ MAX_JOINED
short_if true line more one modes fits many = short_several line more one modes fits many
short_if false line more one modes fits many = absurd (omega (arith, many))

pub group_short : (most : ℕ) (lines : List (List ℕ)) → 1 < length (group most lines) → length (joined (group most lines)) ≤ MAX_JOINED
group_short most [] many = absurd (omega (arith, many))
group_short most (line ∷ lines) many =
    short_if (is_one_mode line) line _ refl (along_modes (most - 1) (channel_of line) (room_after line) lines)
    (along_fits (most - 1) (channel_of line) (room_after line) lines) many

-- ---- law order: where a line is taken out, the lines about any one channel keep their order

same_about : (one other line x : List ℕ) → is_about one line ≡ true → is_about other line ≡ true → is_about one x ≡ is_about other x
unfolding is_about
same_about one other line x first second =
    sym (is_same-right (channel_of line) one (channel_of x) first) ∙ is_same-right (channel_of line) other (channel_of x) second

about_own : (channel line : List ℕ) → channel_of line ≡ channel → is_about channel line ≡ true
unfolding is_about
about_own channel line is = ap (λ c. is_same c channel) is ∙ is_same-refl channel

filter_same : (p r : List ℕ → Bool) (lines : List (List ℕ)) → ((x : List ℕ) → p x ≡ r x) → filter p lines ≡ filter r lines
filter_same p r [] same = refl
filter_same p r (x ∷ xs) same =
    ap (λ b. cond b (x ∷ filter p xs) (filter p xs)) (same x) ∙ ap (λ ys. cond (r x) (x ∷ ys) ys) (filter_same p r xs same)

-- one line before lists that a test takes for the same
filter_after : (p : List ℕ → Bool) (x : List ℕ) (xs ys : List (List ℕ)) → filter p xs ≡ filter p ys → filter p (x ∷ xs) ≡ filter p (x ∷ ys)
filter_after p x xs ys same = ap (λ zs. cond (p x) (x ∷ zs) zs) same

filter_skip : (p : List ℕ → Bool) (x : List ℕ) (xs : List (List ℕ)) → p x ≡ false → filter p (x ∷ xs) ≡ filter p xs
filter_skip p x xs none = ap (λ b. cond b (x ∷ filter p xs) (filter p xs)) none

-- a line that fails the test is taken out
remove_other : (p : List ℕ → Bool) (lines : List (List ℕ)) (i : ℕ) → p (get_or lines i []) ≡ false → i < length lines
    → filter p (remove lines i) ≡ filter p lines
remove_other p [] i fails h = absurd (omega (arith, h))
remove_other p (x ∷ xs) zero fails h = sym (filter_skip p x xs fails)
remove_other p (x ∷ xs) (suc i) fails h =
    filter_after p x (remove xs i) xs (remove_other p xs i fails (omega (arith, h)))

-- the first line that passes the test is taken to the front
first_out_if : (b : Bool) (p : List ℕ → Bool) (x : List ℕ) (xs : List (List ℕ)) → p x ≡ b
    → (position_or_len p xs < length xs → filter p (get_or xs (position_or_len p xs) [] ∷ remove xs (position_or_len p xs)) ≡ filter p xs)
    → cond b 0 (suc (position_or_len p xs)) < suc (length xs)
    → filter p (get_or (x ∷ xs) (cond b 0 (suc (position_or_len p xs))) [] ∷ remove (x ∷ xs) (cond b 0 (suc (position_or_len p xs))))
    ≡ filter p (x ∷ xs)
first_out_if true p x xs is later h = refl
first_out_if false p x xs is later h =
    filter_after p (get_or xs (position_or_len p xs) []) (x ∷ remove xs (position_or_len p xs)) (remove xs (position_or_len p xs))
    (filter_skip p x (remove xs (position_or_len p xs)) is)
    ∙ later (omega (arith, h)) ∙ sym (filter_skip p x xs is)

position_cases : (b : Bool) (n : ℕ) → cond (not b) (1 + n) 0 ≡ cond b 0 (suc n)
position_cases true n = refl
position_cases false n = omega arith

position_next : (p : List ℕ → Bool) (x : List ℕ) (xs : List (List ℕ)) → position_or_len p (x ∷ xs) ≡ cond (p x) 0 (suc (position_or_len p xs))
position_next p x xs = position_cases (p x) (position_or_len p xs)

first_out : (p : List ℕ → Bool) (lines : List (List ℕ)) → position_or_len p lines < length lines
    → filter p (get_or lines (position_or_len p lines) [] ∷ remove lines (position_or_len p lines)) ≡ filter p lines
first_out p [] h = absurd (omega (arith, h))
first_out p (x ∷ xs) h =
    let place : position_or_len p (x ∷ xs) ≡ cond (p x) 0 (suc (position_or_len p xs)) = position_next p x xs in
    ap (λ i. filter p (get_or (x ∷ xs) i [] ∷ remove (x ∷ xs) i)) place
    ∙ first_out_if (p x) p x xs refl (first_out p xs) (subst (λ i. i < suc (length xs)) place h)

take_out_if : (b : Bool) (channel one : List ℕ) (lines : List (List ℕ)) → is_about one (next_about channel lines) ≡ b
    → is_about channel (next_about channel lines) ≡ true → place_about channel lines < length lines
    → filter (is_about one) (next_about channel lines ∷ others channel lines) ≡ filter (is_about one) lines
take_out_if true channel one lines about own h =
    let same : (x : List ℕ) → is_about one x ≡ is_about channel x = λ x. same_about one channel (next_about channel lines) x about own in
    filter_same (is_about one) (is_about channel) (next_about channel lines ∷ others channel lines) same
    ∙ first_out (is_about channel) lines h ∙ sym (filter_same (is_about one) (is_about channel) lines same)
take_out_if false channel one lines about own h =
    filter_skip (is_about one) (next_about channel lines) (others channel lines) about
    ∙ remove_other (is_about one) lines (place_about channel lines) about h

-- what goes along is among the lines
is_there : (channel : List ℕ) (room : ℕ) (lines : List (List ℕ)) → goes_along channel room (next_about channel lines) ≡ true
    → place_about channel lines < length lines
is_there channel room lines goes =
    ⊎_elim
    (λ h. h)
    (λ h. let no : false ≡ true = sym (none_goes channel room lines h) ∙ goes in let never : ⊥ = cc in absurd never)
    (cases_lt (place_about channel lines) (length lines))

order_if : (b : Bool) (channel one : List ℕ) (room : ℕ) (lines more rest : List (List ℕ)) → goes_along channel room (next_about channel lines) ≡ b
    → filter (is_about one) (more ++ rest) ≡ filter (is_about one) (others channel lines)
    → filter (is_about one) (cond b (next_about channel lines ∷ more) [] ++ cond b rest lines) ≡ filter (is_about one) lines
order_if true channel one room lines more rest goes later =
    filter_after (is_about one) (next_about channel lines) (more ++ rest) (others channel lines) later
    ∙ take_out_if (is_about one (next_about channel lines)) channel one lines refl
    (about_own channel (next_about channel lines) (goes_mode channel room (next_about channel lines) goes).1) (is_there channel room lines goes)
order_if false channel one room lines more rest goes later = refl

along_order : (n : ℕ) (channel one : List ℕ) (room : ℕ) (lines : List (List ℕ))
    → filter (is_about one) (along n channel room lines ++ left n channel room lines) ≡ filter (is_about one) lines
unfolding along left
along_order zero channel one room lines = refl
along_order (suc n) channel one room lines =
    order_if (goes_along channel room (next_about channel lines)) channel one room lines _ _ refl
    (along_order n channel one (room - added_by (next_about channel lines)) (others channel lines))

group_order_if : (b : Bool) (one line : List ℕ) (lines more rest : List (List ℕ)) → filter (is_about one) (more ++ rest) ≡ filter (is_about one) lines
    → filter (is_about one) ((line ∷ (cond b more [])) ++ cond b rest lines) ≡ filter (is_about one) (line ∷ lines)
group_order_if true one line lines more rest order = filter_after (is_about one) line (more ++ rest) lines order
group_order_if false one line lines more rest order = refl

group_order : (most : ℕ) (one line : List ℕ) (lines : List (List ℕ))
    → filter (is_about one) (group most (line ∷ lines) ++ ungrouped most (line ∷ lines)) ≡ filter (is_about one) (line ∷ lines)
group_order most one line lines =
    group_order_if (is_one_mode line) one line lines _ _ (along_order (most - 1) (channel_of line) one (room_after line) lines)

-- ---- law order, of one turn

lower_order : (one : List ℕ) (q : Sending) (timer : ℕ) (lower : List (List ℕ)) → waiting q ≡ lower
    → filter (is_about one) (first_group 0 [] [] lower ++ drop 1 (waiting q)) ≡ filter (is_about one) (waiting q)
lower_order one q timer [] is = ap (λ xs. filter (is_about one) (drop 1 xs)) is ∙ sym (ap (filter (is_about one)) is)
lower_order one q timer (x ∷ lower) is =
    ap (λ xs. filter (is_about one) (x ∷ drop 1 xs)) is ∙ sym (ap (filter (is_about one)) is)

first_lower : (most : ℕ) (lower : List (List ℕ)) → first_group most [] [] lower ≡ first_group 0 [] [] lower
first_lower most [] = refl
first_lower most (x ∷ lower) = refl

first_order : (most : ℕ) (one : List ℕ) (q : Sending) (timer : ℕ) (prompt mode : List (List ℕ)) → q.prompt ≡ prompt → q.mode ≡ mode
    → filter (is_about one) (first_group most prompt mode (q.server ++ q.help) ++ waiting (without_group most q timer prompt mode))
    ≡ filter (is_about one) (waiting q)
first_order most one q timer (x ∷ prompt) mode is also =
    let all : waiting q ≡ (x ∷ prompt) ++ (q.mode ++ (q.server ++ q.help)) = ap (λ ps. ps ++ (q.mode ++ (q.server ++ q.help))) is in
    ap (λ xs. filter (is_about one) (x ∷ xs)) (waiting-gone 1 q timer ∙ ap (drop 1) all) ∙ sym (ap (filter (is_about one)) all)
first_order most one q timer [] (x ∷ mode) is also =
    let all : waiting q ≡ (x ∷ mode) ++ (q.server ++ q.help) =
    ap (λ ps. ps ++ (q.mode ++ (q.server ++ q.help))) is ∙ ap (λ ms. ms ++ (q.server ++ q.help)) also in
    ap (λ ps. filter (is_about one) (group most (x ∷ mode) ++ (ps ++ (ungrouped most (x ∷ mode) ++ (q.server ++ q.help))))) is
    ∙ ap (filter (is_about one)) (sym (append_assoc (group most (x ∷ mode)) (ungrouped most (x ∷ mode)) (q.server ++ q.help)))
    ∙ filter-append (is_about one) (group most (x ∷ mode) ++ ungrouped most (x ∷ mode)) (q.server ++ q.help)
    ∙ ap (λ xs. xs ++ filter (is_about one) (q.server ++ q.help)) (group_order most one x mode)
    ∙ sym (filter-append (is_about one) (x ∷ mode) (q.server ++ q.help))
    ∙ sym (ap (filter (is_about one)) all)
first_order most one q timer [] [] is also =
    let all : waiting q ≡ q.server ++ q.help =
    ap (λ ps. ps ++ (q.mode ++ (q.server ++ q.help))) is ∙ ap (λ ms. ms ++ (q.server ++ q.help)) also in
    ap (λ xs. filter (is_about one) (xs ++ waiting (gone 1 q timer))) (first_lower most (q.server ++ q.help))
    ∙ ap (λ xs. filter (is_about one) (first_group 0 [] [] (q.server ++ q.help) ++ xs)) (waiting-gone 1 q timer)
    ∙ lower_order one q timer (q.server ++ q.help) all

next_order : (most : ℕ) (one : List ℕ) (q : Sending) (now : ℕ) (g : List (List ℕ)) → (g ≡ []) ⊎ (g ≡ first_group most q.prompt q.mode (q.server ++ q.help))
    → filter (is_about one) (g ++ waiting (after_next most q now g)) ≡ filter (is_about one) (waiting q)
next_order most one q now [] which = refl
next_order most one q now (x ∷ xs) which =
    ⊎_elim
    (λ (none : x ∷ xs ≡ []). let no : ⊥ = cc in absurd no)
    (λ (first : x ∷ xs ≡ first_group most q.prompt q.mode (q.server ++ q.help)).
    ap (λ g. filter (is_about one) (g ++ waiting (without_group most q (max q.timer now + COST) q.prompt q.mode))) first
    ∙ first_order most one q (max q.timer now + COST) q.prompt q.mode refl refl)
    which

next_which : (most : ℕ) (q : Sending) (now : ℕ)
    → (next_group most q now ≡ []) ⊎ (next_group most q now ≡ first_group most q.prompt q.mode (q.server ++ q.help))
unfolding next_group
next_which most q now = which (nat_lt (max q.timer now) (now + AHEAD))
  where
    which : (b : Bool) → (cond b (first_group most q.prompt q.mode (q.server ++ q.help)) [] ≡ [])
        ⊎ (cond b (first_group most q.prompt q.mode (q.server ++ q.help)) [] ≡ first_group most q.prompt q.mode (q.server ++ q.help))
    which true = inr refl
    which false = inl refl

turn_order : (most : ℕ) (one : List ℕ) (q : Sending) (now : ℕ)
    → filter (is_about one) (next_group most q now ++ waiting (after_group most q now)) ≡ filter (is_about one) (waiting q)
unfolding after_group
turn_order most one q now = next_order most one q now (next_group most q now) (next_which most q now)

-- ---- law order, of a moment

lines_with : (g : List (List ℕ)) (later : List (List (List ℕ))) → lines_of (with_group g later) ≡ g ++ lines_of later
lines_with [] later = refl
lines_with (x ∷ xs) later = refl

turns_order : (n most : ℕ) (one : List ℕ) (q : Sending) (now : ℕ)
    → filter (is_about one) (lines_of (groups_in n most q now) ++ waiting (after_turns n most q now)) ≡ filter (is_about one) (waiting q)
turns_order zero most one q now =
    ap (λ gs. filter (is_about one) (lines_of gs ++ waiting (after_turns 0 most q now))) (groups_none most q now)
    ∙ ap (λ r. filter (is_about one) (waiting r)) (after_none most q now)
turns_order (suc n) most one q now =
    ap (λ gs. filter (is_about one) (lines_of gs ++ waiting (after_turns (suc n) most q now))) (groups_step n most q now)
    ∙ ap (λ r. filter (is_about one) (lines_of (with_group (next_group most q now) (groups_in n most (after_group most q now) now)) ++ waiting r)) (after_step n most q now)
    ∙ ap (λ xs. filter (is_about one) (xs ++ waiting (after_turns n most (after_group most q now) now)))
    (lines_with (next_group most q now) (groups_in n most (after_group most q now) now))
    ∙ ap (filter (is_about one))
    (append_assoc (next_group most q now) (lines_of (groups_in n most (after_group most q now) now)) (waiting (after_turns n most (after_group most q now) now)))
    ∙ filter-append (is_about one) (next_group most q now)
    (lines_of (groups_in n most (after_group most q now) now) ++ waiting (after_turns n most (after_group most q now) now))
    ∙ ap (λ xs. filter (is_about one) (next_group most q now) ++ xs) (turns_order n most one (after_group most q now) now)
    ∙ sym (filter-append (is_about one) (next_group most q now) (waiting (after_group most q now)))
    ∙ turn_order most one q now

pub moment_order : (most : ℕ) (q : Sending) (now : ℕ) (one : List ℕ)
    → filter (is_about one) (lines_of (groups most q now) ++ waiting (after_joined most q now)) ≡ filter (is_about one) (waiting q)
moment_order most q now one = turns_order 5 most one q now

-- ---- laws pace and greatest

-- a turn either sends nothing, or a line in time
pub record Turn (most now : ℕ) (q : Sending) (g : List (List ℕ)) (next : Sending) : Type 0 where
  pub timer : (later : List (List (List ℕ))) → next.timer + COST * length later ≡ max q.timer now + COST * length (with_group g later)
  pub reached : now ≤ next.timer
  pub soon : (g ≡ []) ⊎ (max q.timer now < now + AHEAD)

timer_without : (most : ℕ) (q : Sending) (timer : ℕ) (prompt mode : List (List ℕ)) → (without_group most q timer prompt mode).timer ≡ timer
timer_without most q timer (x ∷ prompt) mode = refl
timer_without most q timer [] (x ∷ mode) = refl
timer_without most q timer [] [] = refl

turn_if : (most : ℕ) (q : Sending) (now : ℕ) (g : List (List ℕ)) → (g ≡ []) ⊎ (max q.timer now < now + AHEAD)
    → Turn most now q g (after_next most q now g)
turn_if most q now [] soon = record { timer = λ later. refl; reached = omega arith; soon = soon }
turn_if most q now (x ∷ xs) soon =
    let timer : (without_group most q (max q.timer now + COST) q.prompt q.mode).timer ≡ max q.timer now + COST =
    timer_without most q (max q.timer now + COST) q.prompt q.mode in
    record { timer = λ later. omega (arith, timer); reached = omega (arith, timer); soon = soon }

next_soon : (most : ℕ) (q : Sending) (now : ℕ) → (next_group most q now ≡ []) ⊎ (max q.timer now < now + AHEAD)
unfolding next_group
next_soon most q now =
    ⊎_elim
    (λ (soon : max q.timer now < now + AHEAD). inr soon)
    (λ (late : now + AHEAD ≤ max q.timer now).
    inl (ap (λ b. cond b (first_group most q.prompt q.mode (q.server ++ q.help)) []) (le-ltb _ _ late)))
    (cases_lt (max q.timer now) (now + AHEAD))

turn_is : (most : ℕ) (q : Sending) (now : ℕ) → Turn most now q (next_group most q now) (after_group most q now)
unfolding after_group
turn_is most q now = turn_if most q now (next_group most q now) (next_soon most q now)

-- the timer after some turns, and how far it gets
pub record Paced (now : ℕ) (q : Sending) (sent : ℕ) (next : Sending) : Type 0 where
  pub timer : max next.timer now ≡ max q.timer now + COST * sent
  pub grows : q.timer ≤ next.timer
  pub bound : max q.timer now + COST * sent ≤ max (max q.timer now) (now + (AHEAD + COST - 1))

paced_step : (most now : ℕ) (q : Sending) (g : List (List ℕ)) (next last : Sending) (later : List (List (List ℕ))) → Turn most now q g next
    → Paced now next (length later) last → Paced now q (length (with_group g later)) last
paced_step most now q [] next last later t p =
    let timer = t.timer later in
    record {
      timer = omega (arith, timer, t.reached, p.timer);
      grows = omega (arith, timer, p.grows);
      bound = omega (arith, timer, t.reached, p.bound);
    }
paced_step most now q (x ∷ xs) next last later t p =
    let timer = t.timer later in
    ⊎_elim
    (λ (none : x ∷ xs ≡ []). let no : ⊥ = cc in absurd no)
    (λ (soon : max q.timer now < now + AHEAD).
    record {
      timer = omega (arith, timer, t.reached, p.timer);
      grows = omega (arith, timer, p.grows);
      bound = omega (arith, timer, t.reached, p.bound, soon);
    })
    t.soon

turns_paced : (n most : ℕ) (q : Sending) (now : ℕ) → Paced now q (length (groups_in n most q now)) (after_turns n most q now)
turns_paced zero most q now =
    subst (λ r. Paced now q (length (groups_in 0 most q now)) r) (sym (after_none most q now))
    (subst (λ gs. Paced now q (length gs) q) (sym (groups_none most q now)) (record { timer = omega arith; grows = omega arith; bound = omega arith }))
turns_paced (suc n) most q now =
    subst (λ r. Paced now q (length (groups_in (suc n) most q now)) r) (sym (after_step n most q now))
    (subst (λ gs. Paced now q (length gs) (after_turns n most (after_group most q now) now)) (sym (groups_step n most q now))
    (paced_step most now q (next_group most q now) (after_group most q now) (after_turns n most (after_group most q now) now)
    (groups_in n most (after_group most q now) now) (turn_is most q now) (turns_paced n most (after_group most q now) now)))

pub moments_pace : (most : ℕ) (q : Sending) (moments : List ℕ) (last : ℕ) → AllUpTo last moments
    → q.timer + COST * length (groups_over most q moments) ≤ max q.timer (last + (AHEAD + COST - 1))
moments_pace most q [] last upto = omega arith
moments_pace most q (now ∷ moments) last upto =
    let p : Paced now q (length (groups most q now)) (after_joined most q now) = turns_paced 5 most q now in
    let both : length (groups_over most q (now ∷ moments))
    ≡ length (groups most q now) + length (groups_over most (after_joined most q now) moments) =
    length-append (groups most q now) (groups_over most (after_joined most q now) moments) in
    let rest = moments_pace most (after_joined most q now) moments last upto.1 in
    let first : now ≤ last = upto.0 in
    omega (arith, p.timer, p.grows, p.bound, both, rest, first)

late_none : (most : ℕ) (q : Sending) (now : ℕ) → now + AHEAD ≤ max q.timer now → next_group most q now ≡ []
unfolding next_group
late_none most q now late = ap (λ b. cond b (first_group most q.prompt q.mode (q.server ++ q.help)) []) (le-ltb _ _ late)

-- after as many turns nothing more goes, or the timer has got so far
none_or_late_if : (n most : ℕ) (q : Sending) (now : ℕ) (g : List (List ℕ)) → next_group most q now ≡ g
    → (next_group most (after_turns n most (after_group most q now) now) now ≡ [])
    ⊎ (max (after_group most q now).timer now + COST * n ≤ max (after_turns n most (after_group most q now) now).timer now)
    → (next_group most (after_turns n most (after_group most q now) now) now ≡ [])
    ⊎ (max q.timer now + COST * suc n ≤ max (after_turns n most (after_group most q now) now).timer now)
none_or_late_if n most q now [] is later =
    let stays : after_group most q now ≡ record q { timer = max q.timer now } = after_nothing most q now is in
    let none : next_group most (record q { timer = max q.timer now }) now ≡ [] = next_reached most q now ∙ is in
    let same : after_turns n most (record q { timer = max q.timer now }) now ≡ record q { timer = max q.timer now } =
    (nothing_later n most (record q { timer = max q.timer now }) now none (omega arith)).1 in
    inl (ap (λ r. next_group most (after_turns n most r now) now) stays ∙ ap (λ r. next_group most r now) same ∙ none)
none_or_late_if n most q now (x ∷ xs) is later =
    let timer = (turn_is most q now).timer [] in
    let one = ap (λ g. length (with_group g [])) is in
    ⊎_elim
    (λ none. inl none)
    (λ (late : max (after_group most q now).timer now + COST * n ≤ max (after_turns n most (after_group most q now) now).timer now).
    inr (omega (arith, timer, one, late)))
    later

none_or_late : (n most : ℕ) (q : Sending) (now : ℕ)
    → (next_group most (after_turns n most q now) now ≡ []) ⊎ (max q.timer now + COST * n ≤ max (after_turns n most q now).timer now)
none_or_late zero most q now =
    inr (subst (λ (r : Sending). max q.timer now + COST * 0 ≤ max r.timer now) (sym (after_none most q now)) (omega arith))
none_or_late (suc n) most q now =
    subst
    (λ (r : Sending). (next_group most r now ≡ []) ⊎ (max q.timer now + COST * suc n ≤ max r.timer now))
    (sym (after_step n most q now))
    (none_or_late_if n most q now (next_group most q now) refl (none_or_late n most (after_group most q now) now))

pub moment_greatest : (most : ℕ) (q : Sending) (now : ℕ) → next_group most (after_joined most q now) now ≡ []
moment_greatest most q now =
    ⊎_elim
    (λ none. none)
    (λ (late : max q.timer now + COST * 5 ≤ max (after_turns 5 most q now).timer now).
    late_none most (after_turns 5 most q now) now (omega (arith, late)))
    (none_or_late 5 most q now)

-- ---- law prompt

pub prompt_first : (most : ℕ) (q : Sending) (now : ℕ) (line : List ℕ) (later : List (List ℕ)) → q.prompt ≡ line ∷ later
    → max q.timer now < now + AHEAD → next_group most q now ≡ line ∷ []
unfolding next_group
prompt_first most q now line later is soon =
    ap (λ b. cond b (first_group most q.prompt q.mode (q.server ++ q.help)) []) (lt-ltb _ _ soon)
    ∙ ap (λ prompt. first_group most prompt q.mode (q.server ++ q.help)) is

-- ---- laws once and fair

stands_remove : (lines : List (List ℕ)) (i : ℕ) (line : List ℕ) → stands_in lines line ≡ false → stands_in (remove lines i) line ≡ false
stands_remove [] zero line none = refl
stands_remove [] (suc i) line none = refl
stands_remove (x ∷ xs) zero line none = (or_parts (bytes_eq line x) (stands_in xs line) none).1
stands_remove (x ∷ xs) (suc i) line none =
    let parts = or_parts (bytes_eq line x) (stands_in xs line) none in
    or_from (bytes_eq line x) (stands_in (remove xs i) line) parts.0 (stands_remove xs i line parts.1)

once_remove : (lines : List (List ℕ)) (i : ℕ) → StandOnce lines → StandOnce (remove lines i)
once_remove [] zero once = tt
once_remove [] (suc i) once = tt
once_remove (x ∷ xs) zero once = once.1
once_remove (x ∷ xs) (suc i) once = (stands_remove xs i x once.0, once_remove xs i once.1)

once_either : (b : Bool) (rest lines : List (List ℕ)) → StandOnce rest → StandOnce lines → StandOnce (cond b rest lines)
once_either true rest lines first second = first
once_either false rest lines first second = second

left_once : (n : ℕ) (channel : List ℕ) (room : ℕ) (lines : List (List ℕ)) → StandOnce lines → StandOnce (left n channel room lines)
unfolding left
left_once zero channel room lines once = once
left_once (suc n) channel room lines once =
    once_either (goes_along channel room (next_about channel lines)) _ lines
    (left_once n channel (room - added_by (next_about channel lines)) (others channel lines) (once_remove lines (place_about channel lines) once))
    once

without_once : (most : ℕ) (q : Sending) (timer : ℕ) (prompt mode : List (List ℕ)) → q.mode ≡ mode → StandOnce q.mode
    → StandOnce (without_group most q timer prompt mode).mode
without_once most q timer (x ∷ prompt) mode is once = StandOnce-drop (1 - length q.prompt) q.mode once
without_once most q timer [] (x ∷ mode) is once =
    let parts : StandOnce (x ∷ mode) = subst StandOnce is once in
    once_either (is_one_mode x) _ mode (left_once (most - 1) (channel_of x) (room_after x) mode parts.1) parts.1
without_once most q timer [] [] is once = StandOnce-drop (1 - length q.prompt) q.mode once

next_once : (most : ℕ) (q : Sending) (now : ℕ) (g : List (List ℕ)) → StandOnce q.mode → StandOnce (after_next most q now g).mode
next_once most q now [] once = once
next_once most q now (x ∷ xs) once = without_once most q (max q.timer now + COST) q.prompt q.mode refl once

turn_once : (most : ℕ) (q : Sending) (now : ℕ) → StandOnce q.mode → StandOnce (after_group most q now).mode
unfolding after_group
turn_once most q now once = next_once most q now (next_group most q now) once

turns_once : (n most : ℕ) (q : Sending) (now : ℕ) → StandOnce q.mode → StandOnce (after_turns n most q now).mode
unfolding after_turns
turns_once zero most q now once = once
turns_once (suc n) most q now once = turns_once n most (after_group most q now) now (turn_once most q now once)

pub moment_once : (most : ℕ) (q : Sending) (now : ℕ) → StandOnce q.mode → StandOnce (after_joined most q now).mode
moment_once most q now once = turns_once 5 most q now once

without_fair : (most : ℕ) (q : Sending) (timer : ℕ) (prompt mode : List (List ℕ)) → IsFair q → IsFair (without_group most q timer prompt mode)
without_fair most q timer (x ∷ prompt) mode fair = IsFair-gone 1 q timer fair
without_fair most q timer [] (x ∷ mode) fair = fair
without_fair most q timer [] [] fair = IsFair-gone 1 q timer fair

next_fair : (most : ℕ) (q : Sending) (now : ℕ) (g : List (List ℕ)) → IsFair q → IsFair (after_next most q now g)
next_fair most q now [] fair = fair
next_fair most q now (x ∷ xs) fair = without_fair most q (max q.timer now + COST) q.prompt q.mode fair

turn_fair : (most : ℕ) (q : Sending) (now : ℕ) → IsFair q → IsFair (after_group most q now)
unfolding after_group
turn_fair most q now fair = next_fair most q now (next_group most q now) fair

turns_fair : (n most : ℕ) (q : Sending) (now : ℕ) → IsFair q → IsFair (after_turns n most q now)
unfolding after_turns
turns_fair zero most q now fair = fair
turns_fair (suc n) most q now fair = turns_fair n most (after_group most q now) now (turn_fair most q now fair)

pub moment_fair : (most : ℕ) (q : Sending) (now : ℕ) → IsFair q → IsFair (after_joined most q now)
moment_fair most q now fair = turns_fair 5 most q now fair
