use Rattle.std.proofs.Common.{◌≡◌, ◌≤◌, ◌++◌, length, take, drop}
use Rattle.serverlink.specs.Tags.{stage_after, untagged}
use Rattle.serverlink.proofs.tags.TagStage.move_to_front.Given as goal

-- what stands at the front, and what is left, are what the bytes leave
abbrev pub invariant-loop-place : goal.invariant-loop-place
invariant-loop-place l = record {
  few : l.kept ≤ l.place;
  whole : length l.bytes ≡ length l.initial.bytes;
  bytes : take l.kept l.bytes ++ untagged l.self (drop l.place l.bytes) ≡ untagged l.initial.self l.initial.bytes;
  stage : stage_after l.self (drop l.place l.bytes) ≡ stage_after l.initial.self l.initial.bytes;
}
