use Rattle.std.proofs.Common.{◌≡◌, take, length}
use Rattle.registration.specs.Macs.{combined}
use Rattle.registration.proofs.mac.combined.Given as goal

abbrev pub invariant-loop-i : goal.invariant-loop-i
invariant-loop-i l = record {
  few : length l.bytes.items ≡ l.i;
  so_far : l.bytes.items ≡ combined (take l.i l.left) (take l.i l.right);
}
