use Rattle.std.proofs.Common.{ℕ, List, ◌++◌, take}
use Rattle.sha2.specs.Hashers.{Holds256}
use Rattle.recordsums.specs.RecordSums.{users_spelled}
use Rattle.recordsums.proofs.record_sum.add_users.Given as goal

abbrev pub invariant-loop-place : goal.invariant-loop-place
invariant-loop-place l =
    (m : List ℕ) → Holds256 l.fn.hasher m → Holds256 l.hasher (m ++ users_spelled (take l.place l.userfile.users))
