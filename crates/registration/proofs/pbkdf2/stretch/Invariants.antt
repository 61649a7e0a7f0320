use Rattle.std.proofs.Common.{◌≡◌, length}
use Rattle.registration.specs.Macs.{mac_len}
use Rattle.registration.specs.Pbkdf2.{sum_after, u_after}
use Rattle.registration.proofs.pbkdf2.stretch.Given as goal

abbrev pub invariant-loop-round : goal.invariant-loop-round
invariant-loop-round l = record {
  last : l.last ≡ u_after l.key l.initial.last l._round;
  sum : l.sum ≡ sum_after l.key l.initial.sum l.initial.last l._round;
  last_len : length l.last ≡ mac_len l.key;
  sum_len : length l.sum ≡ mac_len l.key;
}
