use Rattle.std.proofs.Common.{◌≡◌, ◌≤◌, ◌++◌, ◌∷◌, length, take, vec_capacity}
use Rattle.std.specs.List.{flat_map}
use Rattle.usercodec.specs.Fields.{text}
use Rattle.usercodec.proofs.users.put_masks.Given as goal

-- what is written so far, and no less capacity
abbrev pub invariant-loop-mask : goal.invariant-loop-mask
invariant-loop-mask l = record {
  bytes : l.out.items ≡ l.fn.out.items ++ length l.masks ∷ flat_map text (take l.mask-index l.masks);
  capacity : vec_capacity l.fn.out ≤ vec_capacity l.out;
}
