-- What a crash leaves on disks to which nothing has happened.
use Rattle.std.proofs.Common.{List, ℕ, sym, subst, arith}
use Rattle.disks.specs.State.{State, IsSettled}
use Rattle.disks.specs.Laws.{only_now}
use Rattle.botjournal.specs.Ledger.{AtEachMoment, device_on}

-- at this moment a crash leaves what is seen on settled disks
pub still_leaves : (first second : State) (P : List ℕ → List ℕ → Type 0) → IsSettled first → IsSettled second
    → P first.seen second.seen → AtEachMoment (device_on first second) (device_on first second) P
still_leaves first second P settled other is = record {
  first_later = omega arith;
  second_later = omega arith;
  each = λ x y left right.
      subst (λ image. P image y) (sym (settled x (only_now first x left)))
      (subst (P first.seen) (sym (other y (only_now second y right))) is);
}
