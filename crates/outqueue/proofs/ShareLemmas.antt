-- Lines that stand once, and fair shares, whatever is put and sent.
use Rattle.std.proofs.Common.{◌≡◌, ℕ, zero, suc, ◌+◌, ◌-◌, ◌≤◌, ◌<◌, Bool, true, false, cond, max, ◌*◌, is_some, Option, Some, None, bytes_eq}
use Rattle.std.proofs.Common.{List, [], ◌∷◌, ◌++◌, length, take, drop, refl, sym, ◌∙◌, subst, arith}
use Rattle.std.specs.List.{count_by}
use Rattle.std.proofs.lemmas.Bool.{or_parts, or_from, leb-false, false_from_ne_true}
use Rattle.std.proofs.lemmas.List.Folds.{list_any-append}
use Rattle.std.proofs.lemmas.List.Sums.{sum_by-append, sum_by-take-drop}
use Rattle.std.proofs.lemmas.Slice.Eq.{bytes_eq-Decides}
use Rattle.outqueue.specs.declared.limits.TheConstants.{SHARE, COST}
use Rattle.outqueue.specs.declared.fault.QueueFault.{QueueFault}
use Rattle.outqueue.specs.declared.queue.Queue.{Queue}
use Rattle.outqueue.specs.declared.queue.Queue.TheVariants.{Mode, Server, Help}
use Rattle.outqueue.specs.declared.queue.QueueSet.{QueueSet}
use Rattle.outqueue.specs.declared.queue.QueueSet.TheVariants.{One, All}
use Rattle.outqueue.specs.declared.queues.Counts.{Counts}
use Rattle.outqueue.specs.Once.{stands, is_share_full, once_refusal, put_once, refused_or_full}
use Rattle.outqueue.specs.Refusals.{refusal, put_last}
use Rattle.outqueue.specs.Sending.{Sending, gone, next_line, after_line, after, count_at, with_first, without}
use Rattle.outqueue.specs.Shares.{stands_in, StandOnce, target_of, is_for, waiting_for, IsFair}

-- ---- lines that stand once

bytes_eq-other : (xs ys : List ℕ) → bytes_eq xs ys ≡ false → bytes_eq ys xs ≡ false
bytes_eq-other xs ys differ =
    false_from_ne_true (bytes_eq ys xs) (λ same.
    let equal : xs ≡ ys = sym ((bytes_eq-Decides ys xs).0 same) in
    let both : bytes_eq xs ys ≡ true = (bytes_eq-Decides xs ys).1 equal in cc)

stands_in-take : (n : ℕ) (lines : List (List ℕ)) (line : List ℕ) → stands_in lines line ≡ false → stands_in (take n lines) line ≡ false
stands_in-take zero lines line none = refl
stands_in-take (suc n) [] line none = refl
stands_in-take (suc n) (x ∷ xs) line none =
    let parts = or_parts (bytes_eq line x) (stands_in xs line) none in
    or_from (bytes_eq line x) (stands_in (take n xs) line) parts.0 (stands_in-take n xs line parts.1)

pub StandOnce-take : (n : ℕ) (lines : List (List ℕ)) → StandOnce lines → StandOnce (take n lines)
StandOnce-take zero lines once = tt
StandOnce-take (suc n) [] once = tt
StandOnce-take (suc n) (x ∷ xs) once = (stands_in-take n xs x once.0, StandOnce-take n xs once.1)

pub StandOnce-drop : (n : ℕ) (lines : List (List ℕ)) → StandOnce lines → StandOnce (drop n lines)
StandOnce-drop zero lines once = once
StandOnce-drop (suc n) [] once = tt
StandOnce-drop (suc n) (x ∷ xs) once = StandOnce-drop n xs once.1

StandOnce-last : (lines : List (List ℕ)) (line : List ℕ) → stands_in lines line ≡ false → StandOnce lines → StandOnce (lines ++ line ∷ [])
StandOnce-last [] line none once = (refl, tt)
StandOnce-last (x ∷ xs) line none once =
    let parts = or_parts (bytes_eq line x) (stands_in xs line) none in
    let other : bytes_eq x line ≡ false = bytes_eq-other line x parts.0 in (
      list_any-append (bytes_eq x) xs (line ∷ [])
          ∙ or_from (stands_in xs x) (stands_in (line ∷ []) x) once.0 (or_from (bytes_eq x line) false other refl),
      StandOnce-last xs line parts.1 once.1,
    )

once_if : (b : Bool) (q : Sending) (line : List ℕ) → stands_in q.mode line ≡ b → StandOnce q.mode → StandOnce (cond b q (put_last q Mode line)).mode
once_if true q line is once = once
once_if false q line is once = StandOnce-last q.mode line is once

pub StandOnce-put : (q : Sending) (queue : Queue) (line : List ℕ) → StandOnce q.mode → StandOnce (put_once q queue line).mode
unfolding put_once stands
StandOnce-put q Mode line once = once_if (stands_in q.mode line) q line refl once
StandOnce-put q Server line once = once
StandOnce-put q Help line once = once

once_gone : (b : Bool) (q : Sending) (timer other : ℕ) → StandOnce q.mode → StandOnce (cond b (gone 1 q timer) (record q { timer = other })).mode
once_gone true q timer other once = StandOnce-drop (1 - length q.prompt) q.mode once
once_gone false q timer other once = once

pub StandOnce-after_line : (q : Sending) (now : ℕ) → StandOnce q.mode → StandOnce (after_line q now).mode
unfolding after_line
StandOnce-after_line q now once = once_gone (is_some (next_line q now)) q _ _ once

pub StandOnce-after : (q : Sending) (now : ℕ) → StandOnce q.mode → StandOnce (after q now).mode
unfolding after
StandOnce-after q now once = StandOnce-drop (count_at q now - length q.prompt) q.mode once

pub StandOnce-without : (q : Sending) (which : QueueSet) → StandOnce q.mode → StandOnce (without q which).mode
StandOnce-without q (One Mode) once = tt
StandOnce-without q (One Server) once = once
StandOnce-without q (One Help) once = once
StandOnce-without q All once = tt

-- ---- fair shares

count_by-take : {X : Type 0} (p : X → Bool) (n : ℕ) (xs : List X) → count_by p (take n xs) ≤ count_by p xs
count_by-take p n xs = omega (arith, sum_by-take-drop (λ x. cond (p x) 1 0) xs n)

count_by-drop : {X : Type 0} (p : X → Bool) (n : ℕ) (xs : List X) → count_by p (drop n xs) ≤ count_by p xs
count_by-drop p n xs = omega (arith, sum_by-take-drop (λ x. cond (p x) 1 0) xs n)

-- as many as before, or one more if the line is for the target
count_by-last : {X : Type 0} (p : X → Bool) (xs : List X) (x : X) → count_by p (xs ++ x ∷ []) ≡ count_by p xs + cond (p x) 1 0
count_by-last p xs x = sum_by-append (λ y. cond (p y) 1 0) xs (x ∷ []) ∙ omega arith

-- a target that has less than its share, or is not that of the line
share_if : (b : Bool) (line target : List ℕ) (before : List ℕ → ℕ) → is_for target line ≡ b → before (target_of line) < SHARE
    → before target ≤ SHARE → before target + cond b 1 0 ≤ SHARE
share_if true line target before is room fair =
    let same : target_of line ≡ target = (bytes_eq-Decides (target_of line) target).0 is in
    let few : before target < SHARE = subst (λ t. before t < SHARE) same room in
    omega arith
share_if false line target before is room fair = omega arith

fair_server : (q : Sending) (line : List ℕ) → waiting_for q (target_of line) < SHARE → IsFair q → IsFair (put_last q Server line)
fair_server q line room fair target =
    let one = count_by-last (is_for target) q.server line in
    let share = share_if (is_for target line) line target (waiting_for q) refl room (fair target) in
    omega arith

fair_help : (q : Sending) (line : List ℕ) → waiting_for q (target_of line) < SHARE → IsFair q → IsFair (put_last q Help line)
fair_help q line room fair target =
    let one = count_by-last (is_for target) q.help line in
    let share = share_if (is_for target line) line target (waiting_for q) refl room (fair target) in
    omega arith

not_full : (r : Option QueueFault) (is_full : Bool) → refused_or_full r is_full ≡ None → is_full ≡ false
not_full (Some fault) is_full none = let no : ⊥ = cc in absurd no
not_full None true none = let no : ⊥ = cc in absurd no
not_full None false none = refl

fair_mode : (b : Bool) (q : Sending) (line : List ℕ) → IsFair q → IsFair (cond b q (put_last q Mode line))
fair_mode true q line fair = fair
fair_mode false q line fair = fair

pub IsFair-put : (q : Sending) (queue : Queue) (line : List ℕ) → once_refusal q queue line ≡ None → IsFair q → IsFair (put_once q queue line)
unfolding put_once stands once_refusal is_share_full
IsFair-put q Mode line none fair = fair_mode (stands_in q.mode line) q line fair
IsFair-put q Server line none fair =
    fair_server q line (leb-false SHARE (waiting_for q (target_of line)) (not_full (refusal q Server line) _ none)) fair
IsFair-put q Help line none fair =
    fair_help q line (leb-false SHARE (waiting_for q (target_of line)) (not_full (refusal q Help line) _ none)) fair

-- fewer lines are as fair
fair_fewer : (old new : Sending) → ((target : List ℕ) → waiting_for new target ≤ waiting_for old target) → IsFair old → IsFair new
fair_fewer old new fewer fair target = let less = fewer target in let share = fair target in omega arith

fewer_gone : (n : ℕ) (q : Sending) (timer : ℕ) (target : List ℕ) → waiting_for (gone n q timer) target ≤ waiting_for q target
fewer_gone n q timer target =
    let server = count_by-drop (is_for target) (n - (length q.prompt + length q.mode)) q.server in
    let help = count_by-drop (is_for target) (n - (length q.prompt + (length q.mode + length q.server))) q.help in
    omega arith

pub IsFair-gone : (n : ℕ) (q : Sending) (timer : ℕ) → IsFair q → IsFair (gone n q timer)
IsFair-gone n q timer fair = fair_fewer q (gone n q timer) (fewer_gone n q timer) fair

fair_gone : (b : Bool) (q : Sending) (timer other : ℕ) → IsFair q → IsFair (cond b (gone 1 q timer) (record q { timer = other }))
fair_gone true q timer other fair = IsFair-gone 1 q timer fair
fair_gone false q timer other fair = fair

pub IsFair-after_line : (q : Sending) (now : ℕ) → IsFair q → IsFair (after_line q now)
unfolding after_line
IsFair-after_line q now fair = fair_gone (is_some (next_line q now)) q _ _ fair

pub IsFair-after : (q : Sending) (now : ℕ) → IsFair q → IsFair (after q now)
unfolding after
IsFair-after q now fair = IsFair-gone (count_at q now) q (max q.timer now + COST * count_at q now) fair

pub IsFair-with_first : (q : Sending) (counts : Counts) → IsFair q → IsFair (with_first q counts)
IsFair-with_first q counts fair target =
    let server = count_by-take (is_for target) counts.server q.server in
    let help = count_by-take (is_for target) counts.help q.help in
    let share = fair target in
    omega arith

pub IsFair-without : (q : Sending) (which : QueueSet) → IsFair q → IsFair (without q which)
IsFair-without q (One Mode) fair target = fair target
IsFair-without q (One Server) fair target = let share = fair target in omega arith
IsFair-without q (One Help) fair target = let share = fair target in omega arith
IsFair-without q All fair target = omega arith
