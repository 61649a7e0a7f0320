-- How one run of device calls goes on from another.
use Rattle.std.proofs.Common.{◌≡◌, ◌≤◌, ⊎_elim, inl, inr, List, ℕ, refl, subst, sym, ◌∙◌, arith}
use Rattle.disks.specs.Events.{Torn}
use Rattle.disks.specs.State.{State, IsSettled, LeavesOnly, moment, may_leave}
use Rattle.disks.specs.Calls.{SameBytes, Elapses, Tears}
use Rattle.disks.specs.Laws.{counts_now, only_now}
use Rattle.bytejournal.specs.Opening.{Untouched}

-- two runs, one after the other
pub joined : (first second third : State) (P Q R : List ℕ → Type 0) → LeavesOnly first second P → LeavesOnly second third Q
    → ((image : List ℕ) → P image → R image) → ((image : List ℕ) → Q image → R image) → LeavesOnly first third R
joined first second third P Q R one two from_P from_Q = record {
  later = omega (arith, one.later, two.later);
  each = λ image left. ⊎_elim (λ earlier. from_P image (one.each image earlier)) (from_Q image) (two.before (moment first) image one.later left);
  before = λ t image le left. ⊎_elim (λ mid. ⊎_elim (λ earlier. inl earlier) (λ p. inr (from_P image p)) (one.before t image le mid))
      (λ q. inr (from_Q image q)) (two.before t image (omega (arith, le, one.later)) left);
}

-- a run, and a call after it that changes no byte
pub then_same : (first second third : State) (P : List ℕ → Type 0) → LeavesOnly first second P → SameBytes second third → LeavesOnly first third P
then_same first second third P one same = record {
  later = omega (arith, one.later, same.time.later);
  each = λ image left. ⊎_elim (λ earlier. one.each image earlier)
      (λ now. one.each image (counts_now second (moment first) image one.later (same.left image now)))
      (same.time.nothing_else (moment first) image one.later left);
  before = λ t image le left. ⊎_elim (λ earlier. one.before t image le earlier)
      (λ now. one.before t image le (counts_now second t image (omega (arith, le, one.later)) (same.left image now)))
      (same.time.nothing_else t image (omega (arith, le, one.later)) left);
}

-- a run whose images have more in common than is asked
pub loosened : (old new : State) (P Q : List ℕ → Type 0) → LeavesOnly old new P → ((image : List ℕ) → P image → Q image) → LeavesOnly old new Q
loosened old new P Q run holds = record {
  later = run.later;
  each = λ image left. holds image (run.each image left);
  before = λ t image le left. ⊎_elim (λ earlier. inl earlier) (λ p. inr (holds image p)) (run.before t image le left);
}

-- a call that changes nothing
pub kept : (old new : State) → IsSettled old → SameBytes old new → LeavesOnly old new (λ image. image ≡ old.seen)
kept old new settled same = record {
  later = same.time.later;
  each = λ image left. ⊎_elim (λ earlier. settled image (only_now old image earlier)) (λ now. settled image (same.left image now))
      (same.time.nothing_else (moment old) image (omega arith) left);
  before = λ t image le left. ⊎_elim (λ earlier. inl earlier) (λ now. inr (settled image (same.left image now))) (same.time.nothing_else t image le left);
}

-- no call
same : (disk : State) → SameBytes disk disk
same disk = record {
  seen = refl;
  left = λ image left. left;
  time = record { later = omega arith; nothing_else = λ t image le left. inl left; keeps = λ t image le left. left };
}

-- what the bytes that were seen have, each moment of a call that changes nothing has
pub kept_has : (old new : State) (P : List ℕ → Type 0) → IsSettled old → SameBytes old new → P old.seen → LeavesOnly old new P
kept_has old new P settled is has =
    let run = kept old new settled is in
    record {
      later = run.later;
      each = λ image left. subst P (sym (run.each image left)) has;
      before = λ t image le left. ⊎_elim (λ earlier. inl earlier) (λ now. inr (subst P (sym now) has)) (run.before t image le left);
    }

-- a call that changes no byte, and a run after it
pub same_then : (first second third : State) (P : List ℕ → Type 0) → IsSettled first → SameBytes first second → P first.seen
    → LeavesOnly second third P → LeavesOnly first third P
same_then first second third P settled is has run =
    joined first second third P P P (kept_has first second P settled is has) run (λ image p. p) (λ image p. p)

-- where nothing was called
pub still_has : (disk : State) (P : List ℕ → Type 0) → IsSettled disk → P disk.seen → LeavesOnly disk disk P
still_has disk P settled has = kept_has disk disk P settled (same disk) has

-- a write
pub torn : (old new : State) (at n : ℕ) → IsSettled old → Tears at n old new → Elapses old new → LeavesOnly old new (Torn at n old.seen)
torn old new at n settled tears time = record {
  later = time.later;
  each = λ image left. ⊎_elim (λ earlier. not_yet image (settled image (only_now old image earlier))) (now image)
      (time.nothing_else (moment old) image (omega arith) left);
  before = λ t image le left. ⊎_elim (λ earlier. inl earlier) (λ is. inr (now image is)) (time.nothing_else t image le left);
}
  where
    not_yet : (image : List ℕ) → image ≡ old.seen → Torn at n old.seen image
    not_yet image is = subst (λ (l : List ℕ). Torn at n old.seen l) (sym is)
        (record { before = refl; after = refl; no_shorter = omega arith; no_longer = omega arith })

    now : (image : List ℕ) → may_leave new image → Torn at n old.seen image
    now image left =
        let was = tears image left in
        subst (λ (l : List ℕ). Torn at n l image) (settled was.0 was.1) was.2

-- a call that reads
pub untouched : (old new : State) → IsSettled old → old.failed ≤ new.failed → new.events ≡ old.events → SameBytes old new → Untouched old new
untouched old new settled fewer events is = record {
  seen = is.seen;
  events = events;
  settled = λ image left. settled image (is.left image left) ∙ sym is.seen;
  no_fewer = fewer;
  any_moment = kept old new settled is;
}

pub untouched_still : (disk : State) → IsSettled disk → Untouched disk disk
untouched_still disk settled = untouched disk disk settled (omega arith) refl (same disk)
