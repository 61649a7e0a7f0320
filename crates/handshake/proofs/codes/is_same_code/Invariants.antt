use Rattle.std.proofs.Common.{◌≡◌, ◌≤◌, take}
use Rattle.std.specs.Prelude.{◌==◌}
use Rattle.std.specs.Str.{bytes_eq}
use Rattle.handshake.proofs.codes.is_same_code.Given as goal

abbrev pub invariant-loop-i : goal.invariant-loop-i
invariant-loop-i l = record {
  few : l.differing ≤ l.i;
  same : (l.differing == 0) ≡ bytes_eq (take l.i l.code) (take l.i l.other);
}
