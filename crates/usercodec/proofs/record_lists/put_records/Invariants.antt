use Rattle.std.proofs.Common.{◌≡◌, ◌≤◌, ◌++◌, take, vec_capacity}
use Rattle.std.specs.List.{flat_map}
use Rattle.usercodec.specs.Records.{record_bytes}
use Rattle.usercodec.proofs.record_lists.put_records.Given as goal

-- what is written so far, and no less capacity
abbrev pub invariant-loop-value : goal.invariant-loop-value
invariant-loop-value l = record {
  bytes : l.out.items ≡ l.fn.out.items ++ flat_map record_bytes (take l.value-index l.records);
  capacity : vec_capacity l.fn.out ≤ vec_capacity l.out;
}
