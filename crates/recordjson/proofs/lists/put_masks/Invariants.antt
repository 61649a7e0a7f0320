use Rattle.std.proofs.Common.{◌≡◌, ◌++◌, drop}
use Rattle.recordjson.specs.Words.{quoted}
use Rattle.recordjson.specs.Words.{listed}
use Rattle.recordjson.proofs.MemberLemmas.{left}
use Rattle.recordjson.proofs.lists.put_masks.Given as goal

abbrev pub invariant-loop-place : goal.invariant-loop-place
invariant-loop-place l = l.line ++ left quoted l.place (drop l.place l.masks) ≡ l.fn.line ++ listed quoted l.masks
