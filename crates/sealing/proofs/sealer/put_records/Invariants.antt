use Rattle.std.proofs.Common.{◌+◌, ◌≤◌, length, vec_capacity}
use Rattle.sealing.specs.Streams.{sealed_len}
use Rattle.sealing.specs.Steps.{ArePut}
use Rattle.sealing.proofs.sealer.put_records.Given as goal

-- the records so far carry the frames before the rest, and if there was room for all records, there is room for the
-- others
abbrev pub invariant-loop-rest : goal.invariant-loop-rest
invariant-loop-rest l = record {
  put : ArePut l.key l.first l.fn.out.items l.frames l.rest l.out.items l.count;
  room : length l.fn.out.items + sealed_len (length l.frames) ≤ vec_capacity l.fn.out
      → length l.out.items + sealed_len (length l.rest) ≤ vec_capacity l.out;
}

abbrev pub decreases-loop-rest : goal.decreases-loop-rest
decreases-loop-rest l = length l.rest
