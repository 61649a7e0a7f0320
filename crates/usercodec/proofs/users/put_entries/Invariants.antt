use Rattle.std.proofs.Common.{◌≡◌, ◌≤◌, ◌++◌, ◌∷◌, length, take, vec_capacity}
use Rattle.std.specs.List.{flat_map}
use Rattle.usercodec.specs.Records.{entry_bytes}
use Rattle.usercodec.proofs.users.put_entries.Given as goal

-- what is written so far, and no less capacity
abbrev pub invariant-loop-entry : goal.invariant-loop-entry
invariant-loop-entry l = record {
  bytes : l.out.items ≡ l.fn.out.items ++ length l.entries ∷ flat_map entry_bytes (take l.entry-index l.entries);
  capacity : vec_capacity l.fn.out ≤ vec_capacity l.out;
}
