-- The replies that a hub keeps to a leaf: the last of them, one more of them, and the one to a request.
use Rattle.std.proofs.Common.{◌≡◌, ℕ, zero, suc, ◌+◌, ◌-◌, ◌<◌, ◌≤◌, ◌==◌, Bool, true, false, if◌then◌else◌, List, [], ◌∷◌, ◌++◌, length, drop, slice_get, Some, refl, ap, sym, subst, ◌∙◌, arith, length-drop, eqb-true}
use Rattle.std.proofs.lemmas.List.{drop-append-le}
use Rattle.std.specs.List.{AllByRecursion}
use Rattle.botjournal.specs.declared.reply.Reply.{Reply}
use Rattle.botjournal.specs.declared.reply.Verdict.{Verdict}
use Rattle.protocol.specs.Numbers.{item_at}
use Rattle.protocol.specs.HubRules.{request_number, last_request, last_eight, with_next, reply_to, AreNumbered, AreInTurn}
use Rattle.protocol.specs.Standing.{KeepsLast}
use Rattle.usercodec.proofs.RecordLengths.{all_map}
use Rattle.protocol.proofs.Lists.{all-append, all-drop, item_at-more, item_at-end, last_item-end, Extends-one, length-one}

-- ---- numbers

numbered-drop : (n k m : ℕ) (kept : List Reply) → m ≡ n + k → AreNumbered n kept → AreNumbered m (drop k kept)
numbered-drop n zero m kept is numbered =
    let same : n ≡ m = omega (arith, is) in subst (λ j. AreNumbered j kept) same numbered
numbered-drop n (suc k) m [] is numbered = tt
numbered-drop n (suc k) m (reply ∷ kept) is numbered = numbered-drop (n + 1) k m kept (omega (arith, is)) numbered.1

numbered-last : (n : ℕ) (kept : List Reply) (reply : Reply) → reply.request ≡ n + length kept → AreNumbered n kept
    → AreNumbered n (kept ++ reply ∷ [])
numbered-last n [] reply is numbered = (omega (arith, is), tt)
numbered-last n (first ∷ kept) reply is numbered =
    (numbered.0, numbered-last (n + 1) kept reply (omega (arith, is)) numbered.1)

number_at : (n : ℕ) (kept : List Reply) (place : ℕ) → place < length kept → AreNumbered n kept
    → request_number (slice_get kept place) ≡ n + place
number_at n [] place within numbered = absurd (omega (arith, within))
number_at n (reply ∷ kept) zero within numbered = omega (arith, numbered.0)
number_at n (reply ∷ kept) (suc place) within numbered =
    omega (arith, number_at (n + 1) kept place (omega (arith, within)) numbered.1)

-- the last request's number is this number above the first one's
numbers_end : (n : ℕ) (kept : List Reply) → 0 < length kept → AreNumbered n kept → last_request kept + 1 ≡ n + length kept
numbers_end n kept some numbered = omega (arith, number_at n kept (length kept - 1) (omega (arith, some)) numbered, some)

-- ---- one more

-- the oldest goes where there are eight
eight_with : (kept : List Reply) (next : Reply) → last_eight (kept ++ next ∷ []) ≡ drop (length kept - 7) kept ++ next ∷ []
eight_with kept next =
    let cut : length (kept ++ next ∷ []) - 8 ≡ length kept - 7 = omega (arith, length-one kept next) in
    ap (λ n. drop n (kept ++ next ∷ [])) cut ∙ drop-append-le (length kept - 7) kept (next ∷ []) (omega arith)

-- what holds of each reply that is kept, and of the next one
pub with_next-all : (P : Reply → Type 0) (leaf : ℕ) (answer : Verdict) (kept : List Reply) → AllByRecursion P kept
    → P (record { leaf = leaf; request = last_request kept + 1; answer = answer }) → AllByRecursion P (with_next leaf answer kept)
with_next-all P leaf answer kept all one =
    all-drop P (length (kept ++ next ∷ []) - 8) (kept ++ next ∷ []) (all-append P kept (next ∷ []) all (one, tt))
  where
    next : Reply
    next = record { leaf = leaf; request = last_request kept + 1; answer = answer }

-- the last request's number is one more
pub with_next-last : (leaf : ℕ) (answer : Verdict) (kept : List Reply) → last_request (with_next leaf answer kept) ≡ last_request kept + 1
with_next-last leaf answer kept =
    ap last_request (eight_with kept next) ∙ ap request_number (last_item-end (drop (length kept - 7) kept) next)
  where
    next : Reply
    next = record { leaf = leaf; request = last_request kept + 1; answer = answer }

pub with_next-in_turn : (leaf : ℕ) (answer : Verdict) (kept : List Reply) → AreInTurn kept → AreInTurn (with_next leaf answer kept)
with_next-in_turn leaf answer [] turn = record { first = 1; numbered = (refl, tt); few = omega arith }
with_next-in_turn leaf answer (one ∷ others) turn = subst AreInTurn (sym (eight_with kept next)) (record {
  first = turn.first + (length kept - 7);
  numbered =
      numbered-last (turn.first + (length kept - 7)) rest next
      (omega (arith, numbers_end turn.first kept (omega arith) turn.numbered, length-drop (length kept - 7) kept))
      (numbered-drop turn.first (length kept - 7) (turn.first + (length kept - 7)) kept refl turn.numbered);
  few = omega (arith, length-one rest next, length-drop (length kept - 7) kept, turn.few);
})
  where
    kept : List Reply
    kept = one ∷ others

    next : Reply
    next = record { leaf = leaf; request = last_request kept + 1; answer = answer }

    rest : List Reply
    rest = drop (length kept - 7) kept

-- ---- the reply to a request

-- it is kept, to a request of that number
reply_to-kept : (P : Reply → Type 0) (r : ℕ) (kept : List Reply) (reply : Reply) → reply_to r kept ≡ Some reply
    → AllByRecursion P kept → (reply.request ≡ r) × P reply
reply_to-kept P r [] reply is all = cc
reply_to-kept P r (one ∷ kept) reply is all = by (one.request == r) refl is (λ rest. reply_to-kept P r kept reply rest all.1)
  where
    by : (b : Bool) → (one.request == r) ≡ b → (if b then Some one else reply_to r kept) ≡ Some reply
        → (reply_to r kept ≡ Some reply → (reply.request ≡ r) × P reply) → (reply.request ≡ r) × P reply
    by true e is rest =
        let same : one ≡ reply = cc in
        (ap (λ (x : Reply). x.request) (sym same) ∙ eqb-true one.request r e, subst P same all.0)
    by false e is rest = rest is

-- so it is one of the numbers that are kept
reply_to-above : (n r : ℕ) (kept : List Reply) (reply : Reply) → reply_to r kept ≡ Some reply → AreNumbered n kept
    → (0 < length kept) × (n ≤ r)
reply_to-above n r [] reply is numbered = cc
reply_to-above n r (one ∷ kept) reply is numbered =
    by (one.request == r) refl is (λ rest. reply_to-above (n + 1) r kept reply rest numbered.1)
  where
    by : (b : Bool) → (one.request == r) ≡ b → (if b then Some one else reply_to r kept) ≡ Some reply
        → (reply_to r kept ≡ Some reply → (0 < length kept) × (n + 1 ≤ r)) → (0 < length (one ∷ kept)) × (n ≤ r)
    by true e is rest = (omega arith, omega (arith, numbered.0, eqb-true one.request r e))
    by false e is rest = (omega arith, omega (arith, (rest is).1))

-- ---- the replies and the answers

-- one more answer, which is the reply to the next request
pub keeps_next : (leaf : ℕ) (kept : List Reply) (answers : List Verdict) (x y : Verdict) → x ≡ y → KeepsLast kept answers
    → KeepsLast (with_next leaf x kept) (answers ++ y ∷ [])
keeps_next leaf kept answers x y is keeps = record {
  in_turn = with_next-in_turn leaf x kept keeps.in_turn;
  last = with_next-last leaf x kept ∙ ap (λ n. n + 1) keeps.last ∙ sym (length-one answers y);
  these = with_next-all Says leaf x kept old new;
}
  where
    Says : Reply → Type 0
    Says reply = item_at (answers ++ y ∷ []) reply.request ≡ Some reply.answer

    old : AllByRecursion Says kept
    old =
        all_map (λ (reply : Reply). item_at answers reply.request ≡ Some reply.answer) Says
        (λ reply at. item_at-more answers (answers ++ y ∷ []) reply.request reply.answer (Extends-one answers y) at) kept keeps.these

    new : item_at (answers ++ y ∷ []) (last_request kept + 1) ≡ Some x
    new =
        subst (λ n. item_at (answers ++ y ∷ []) (n + 1) ≡ Some x) (sym keeps.last)
        (item_at-end answers y ∙ ap (λ (a : Verdict). Some a) (sym is))

-- the reply to a request has its answer, which is one of the last eight
pub kept_is_answer : (kept : List Reply) (answers : List Verdict) (r : ℕ) (reply : Reply) → KeepsLast kept answers
    → reply_to r kept ≡ Some reply → (length answers < r + 8) × (item_at answers r ≡ Some reply.answer)
kept_is_answer kept answers r reply keeps is =
    let turn = keeps.in_turn in
    let found = reply_to-kept (λ (x : Reply). item_at answers x.request ≡ Some x.answer) r kept reply is keeps.these in
    let above = reply_to-above turn.first r kept reply is turn.numbered in
    let end = numbers_end turn.first kept above.0 turn.numbered in
    (omega (arith, above.1, end, turn.few, keeps.last), subst (λ n. item_at answers n ≡ Some reply.answer) found.0 found.1)
