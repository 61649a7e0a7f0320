use Rattle.std.proofs.Common.{◌≡◌, ◌+◌, ◌++◌, ◌≤◌, length}
use Rattle.std.specs.Vec.{vec_capacity}
use Rattle.floods.specs.Sifting.{after_bytes, begun, dropped, sifted}
use Rattle.floods.proofs.sieve.Sieve.sift.Given as goal

-- what has passed and what passes of the rest is what passes of all
abbrev pub invariant-loop-place : goal.invariant-loop-place
invariant-loop-place g l =
    let trusted = g.T.Trusts.trusted l.trusts in
    record {
      room : length l.sifted.bytes.items + length l.self.line + length l.rest ≤ vec_capacity l.sifted.bytes;
      few : l.sifted.dropped + length l.rest ≤ length l.bytes;
      fewer : l.sifted.begun + length l.rest ≤ length l.bytes;
      bytes : l.sifted.bytes.items ++ sifted trusted l.now l.self l.rest ≡ sifted trusted l.now l.initial.self l.bytes;
      dropped : l.sifted.dropped + dropped trusted l.now l.self l.rest ≡ dropped trusted l.now l.initial.self l.bytes;
      begun : l.sifted.begun + begun trusted l.now l.self l.rest ≡ begun trusted l.now l.initial.self l.bytes;
      after : after_bytes trusted l.now l.self l.rest ≡ after_bytes trusted l.now l.initial.self l.bytes;
    }

abbrev pub decreases-loop-place : goal.decreases-loop-place
decreases-loop-place g l = length l.rest
