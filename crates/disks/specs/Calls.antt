-- What the calls of a disk do, and what a crash may do between two syncs.
use Rattle.std.specs.Prelude.{◌≡◌, ◌⊎◌, ℕ, ◌+◌, ◌≤◌, min, ◌-◌, List, ◌++◌, length, take, drop, Result, OnErr}
use Rattle.disks.specs.Events.{Torn}
use Rattle.disks.specs.State.{State, Rose, may_leave, moment, left_since}

-- `new` is `old` with this text written at this offset
abbrev pub Holds : List ℕ → ℕ → List ℕ → List ℕ → Type 0
Holds old at text new = new ≡ take at old ++ (text ++ drop (at + length text) old)

-- a crash may leave now what it might have left before, or that with the range torn
abbrev pub Tears : ℕ → ℕ → State → State → Type 0
Tears at n old new = (image : List ℕ) → may_leave new image → (past : List ℕ) × may_leave old past × Torn at n past image

-- a crash may leave nothing now that it might not have left before
abbrev pub NoMoreLeft : State → State → Type 0
NoMoreLeft old new = (image : List ℕ) → may_leave new image → may_leave old image

-- Time passes: a crash since `t` might have left what it might have left before, or what it may leave now.
pub record Elapses (old new : State) : Type 0 where
  pub later : moment old ≤ moment new
  pub nothing_else : (t : ℕ) (image : List ℕ) → t ≤ moment old → left_since new t image → left_since old t image ⊎ may_leave new image
  pub keeps : (t : ℕ) (image : List ℕ) → t ≤ moment old → left_since old t image → left_since new t image

-- when a call returns a fault, the number of failures has risen
pub record HasCause {T E : Type 0} (old new : State) (result : Result T E) : Type 0 where
  pub no_fewer : old.failed ≤ new.failed
  pub fault : OnErr result (Rose old.failed new.failed)

-- of the writes and syncs that room was made for, the call uses at most this many
pub record Spends (calls : ℕ) (old new : State) : Type 0 where
  pub calls_left : old.calls ≤ new.calls + calls
  pub end_left : old.end ≤ new.end

-- the disk's bytes are as they were, and a crash may leave nothing that it might not have left before
pub record SameBytes (old new : State) : Type 0 where
  pub seen : new.seen ≡ old.seen
  pub left : NoMoreLeft old new
  pub time : Elapses old new

-- how many bytes a read of `n` bytes at this offset returns
abbrev pub read_count : List ℕ → ℕ → ℕ → ℕ
read_count seen at n = min n (length seen - at)
