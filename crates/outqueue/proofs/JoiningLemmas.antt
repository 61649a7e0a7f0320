-- Modes that go together: what joining leaves, and what it keeps.
use Rattle.std.proofs.Common.{◌≡◌, ℕ, zero, suc, ◌+◌, ◌-◌, ◌<◌, ◌≤◌, true, false, cond}
use Rattle.std.proofs.Common.{List, [], ◌∷◌, ◌++◌, length, map, take, get_or, bytes_eq, refl, sym, ap, ◌∙◌, arith, append_assoc}
use Rattle.std.specs.List.{concat}
use Rattle.std.proofs.lemmas.Bool.{and_parts, leb-true}
use Rattle.std.proofs.lemmas.List.{append-nil}
use Rattle.std.proofs.Math.ListN.{get_or-eq_default}
use Rattle.outqueue.specs.Joining.{channel_of, place_about, next_about, others, goes_along, added_by, along, left, is_one_mode}

-- ---- the line that they make

concat_more : (f : List ℕ → List ℕ) (lines : List (List ℕ)) (n : ℕ) (d : List ℕ) → n < length lines
    → concat (map f (take (suc n) lines)) ≡ concat (map f (take n lines)) ++ f (get_or lines n d)
concat_more f [] n d h = absurd (omega (arith, h))
concat_more f (line ∷ lines) zero d h = append-nil (f line)
concat_more f (line ∷ lines) (suc n) d h =
    ap (λ rest. f line ++ rest) (concat_more f lines n d (omega (arith, h)))
    ∙ sym (append_assoc (f line) (concat (map f (take n lines))) (f (get_or lines n d)))

-- what is appended for one line more
pub one_more : (f : List ℕ → List ℕ) (lines : List (List ℕ)) (n : ℕ) (line : List ℕ) (first old new : List ℕ) → n < length lines
    → line ≡ get_or lines n line → old ≡ first ++ concat (map f (take n lines)) → new ≡ old ++ f line
    → new ≡ first ++ concat (map f (take (n + 1) lines))
one_more f lines n line first old new h is before after =
    let next : n + 1 ≡ suc n = omega arith in
    after ∙ ap (λ xs. xs ++ f line) before ∙ append_assoc first (concat (map f (take n lines))) (f line)
    ∙ ap (λ xs. first ++ (concat (map f (take n lines)) ++ f xs)) is
    ∙ ap (λ xs. first ++ xs) (sym (concat_more f lines n line h))
    ∙ ap (λ k. first ++ concat (map f (take k lines))) (sym next)

-- ---- which lines go along

-- the empty line does not go along
empty_stays : (channel : List ℕ) (room : ℕ) → goes_along channel room [] ≡ false
unfolding goes_along is_one_mode
empty_stays channel room = refl

pub none_goes : (channel : List ℕ) (room : ℕ) (lines : List (List ℕ)) → length lines ≤ place_about channel lines
    → goes_along channel room (next_about channel lines) ≡ false
none_goes channel room lines h =
    ap (goes_along channel room) (get_or-eq_default lines [] h) ∙ empty_stays channel room

-- while lines go along, the next one is taken
along_step : (n : ℕ) (channel : List ℕ) (room : ℕ) (lines : List (List ℕ)) → goes_along channel room (next_about channel lines) ≡ true
    → along (suc n) channel room lines
    ≡ next_about channel lines ∷ along n channel (room - added_by (next_about channel lines)) (others channel lines)
unfolding along
along_step n channel room lines goes =
    ap
    (λ b. cond b (next_about channel lines ∷ along n channel (room - added_by (next_about channel lines)) (others channel lines)) [])
    goes

left_step : (n : ℕ) (channel : List ℕ) (room : ℕ) (lines : List (List ℕ)) → goes_along channel room (next_about channel lines) ≡ true
    → left (suc n) channel room lines ≡ left n channel (room - added_by (next_about channel lines)) (others channel lines)
unfolding left
left_step n channel room lines goes =
    ap (λ b. cond b (left n channel (room - added_by (next_about channel lines)) (others channel lines)) lines) goes

-- then none is
along_ends : (n : ℕ) (channel : List ℕ) (room : ℕ) (lines : List (List ℕ)) → goes_along channel room (next_about channel lines) ≡ false
    → along n channel room lines ≡ []
unfolding along
along_ends zero channel room lines stays = refl
along_ends (suc n) channel room lines stays =
    ap
    (λ b. cond b (next_about channel lines ∷ along n channel (room - added_by (next_about channel lines)) (others channel lines)) [])
    stays

left_ends : (n : ℕ) (channel : List ℕ) (room : ℕ) (lines : List (List ℕ)) → goes_along channel room (next_about channel lines) ≡ false
    → left n channel room lines ≡ lines
unfolding left
left_ends zero channel room lines stays = refl
left_ends (suc n) channel room lines stays =
    ap (λ b. cond b (left n channel (room - added_by (next_about channel lines)) (others channel lines)) lines) stays

along_none : (channel : List ℕ) (room : ℕ) (lines : List (List ℕ)) → along 0 channel room lines ≡ []
unfolding along
along_none channel room lines = refl

left_none : (channel : List ℕ) (room : ℕ) (lines : List (List ℕ)) → left 0 channel room lines ≡ lines
unfolding left
left_none channel room lines = refl

-- where a walk stands that has taken some of the lines that go along with modes of a channel
pub record Walked (most turn : ℕ) (channel : List ℕ) (room : ℕ) (taken rest all all_left : List (List ℕ)) : Type 0 where
  pub goes : taken ++ along (most - turn) channel room rest ≡ all
  pub stays : left (most - turn) channel room rest ≡ all_left

pub walk_goes : (most turn : ℕ) (channel : List ℕ) (room next_room : ℕ) (rest next_rest taken next_taken all all_left : List (List ℕ)) (line : List ℕ)
    → turn < most → goes_along channel room (next_about channel rest) ≡ true → line ≡ next_about channel rest
    → next_room ≡ room - added_by line → next_rest ≡ others channel rest → next_taken ≡ taken ++ line ∷ []
    → Walked most turn channel room taken rest all all_left
    → Walked most (turn + 1) channel next_room next_taken next_rest all all_left
walk_goes most turn channel room next_room rest next_rest taken next_taken all all_left line h goes is less fewer more w =
    let n = most - (turn + 1) in
    let one : most - turn ≡ suc (most - (turn + 1)) = omega (arith, h) in
    let left_room : next_room ≡ room - added_by (next_about channel rest) = less ∙ ap (λ l. room - added_by l) is in
    record {
      goes =
          ap (λ xs. xs ++ along n channel next_room next_rest) more
          ∙ append_assoc taken (line ∷ []) (along n channel next_room next_rest)
          ∙ ap (λ l. taken ++ (l ∷ along n channel next_room next_rest)) is
          ∙ ap (λ k. taken ++ (next_about channel rest ∷ along n channel k next_rest)) left_room
          ∙ ap (λ xs. taken ++ (next_about channel rest ∷ along n channel (room - added_by (next_about channel rest)) xs)) fewer
          ∙ ap (λ xs. taken ++ xs) (sym (along_step n channel room rest goes))
          ∙ ap (λ k. taken ++ along k channel room rest) (sym one)
          ∙ w.goes;
      stays =
          ap (λ k. left n channel k next_rest) left_room
          ∙ ap (left n channel (room - added_by (next_about channel rest))) fewer
          ∙ sym (left_step n channel room rest goes)
          ∙ ap (λ k. left k channel room rest) (sym one)
          ∙ w.stays;
    }

pub walk_stays : (most turn : ℕ) (channel : List ℕ) (room next_room : ℕ) (rest next_rest taken next_taken all all_left : List (List ℕ))
    → goes_along channel room (next_about channel rest) ≡ false → next_room ≡ room → next_rest ≡ rest → next_taken ≡ taken
    → Walked most turn channel room taken rest all all_left
    → Walked most (turn + 1) channel next_room next_taken next_rest all all_left
walk_stays most turn channel room next_room rest next_rest taken next_taken all all_left stays same_room same same_taken w =
    let n = most - (turn + 1) in
    record {
      goes =
          ap (λ xs. xs ++ along n channel next_room next_rest) same_taken
          ∙ ap (λ k. taken ++ along n channel k next_rest) same_room
          ∙ ap (λ xs. taken ++ along n channel room xs) same
          ∙ ap (λ xs. taken ++ xs) (along_ends n channel room rest stays ∙ sym (along_ends (most - turn) channel room rest stays))
          ∙ w.goes;
      stays =
          ap (λ k. left n channel k next_rest) same_room
          ∙ ap (left n channel room) same
          ∙ left_ends n channel room rest stays ∙ sym (left_ends (most - turn) channel room rest stays)
          ∙ w.stays;
    }

pub walk_ends : (most turn : ℕ) (channel : List ℕ) (room : ℕ) (taken rest all all_left : List (List ℕ)) → most ≤ turn
    → Walked most turn channel room taken rest all all_left → (taken ≡ all) × (rest ≡ all_left)
walk_ends most turn channel room taken rest all all_left h w =
    let none : most - turn ≡ 0 = omega (arith, h) in (
      sym (ap (λ k. taken ++ along k channel room rest) none ∙ ap (λ xs. taken ++ xs) (along_none channel room rest) ∙ append-nil taken)
          ∙ w.goes,
      sym (ap (λ k. left k channel room rest) none ∙ left_none channel room rest) ∙ w.stays,
    )

-- a line that goes along fits into the room
pub goes_fits : (channel : List ℕ) (room : ℕ) (line : List ℕ) → goes_along channel room line ≡ true → added_by line ≤ room
unfolding goes_along
goes_fits channel room line goes =
    let first = and_parts (is_one_mode line) _ goes in
    let second = and_parts (bytes_eq (channel_of line) channel) _ first.1 in
    leb-true (added_by line) room second.1
