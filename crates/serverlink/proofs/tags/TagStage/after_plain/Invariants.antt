use Rattle.std.proofs.Common.{◌≡◌, ◌≤◌, length}
use Rattle.serverlink.specs.Tags.{stage_after, untagged}
use Rattle.serverlink.proofs.tags.TagStage.after_plain.Given as goal

-- if nothing of the rest is dropped, nothing of all is
abbrev pub invariant-loop-place : goal.invariant-loop-place
invariant-loop-place l = record {
  bytes : untagged l.stage l.rest ≡ l.rest → untagged l.self l.bytes ≡ l.bytes;
  short : length l.rest ≤ length l.bytes;
  stage : stage_after l.stage l.rest ≡ stage_after l.self l.bytes;
}

abbrev pub decreases-loop-place : goal.decreases-loop-place
decreases-loop-place l = length l.rest
