use Rattle.std.proofs.Common.{◌≡◌, drop}
use Rattle.resolver.specs.Replies.{after_name}
use Rattle.resolver.proofs.records.after_name.Given as goal

abbrev pub invariant-loop-place : goal.invariant-loop-place
invariant-loop-place l = after_name l.left (drop l.place l.bytes) ≡ after_name 0 l.bytes
