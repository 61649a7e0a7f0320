use Rattle.std.proofs.Common.{◌≡◌, ℕ, ◌&&◌, ltb}
use Rattle.bottimers.specs.CronSets.{has}
use Rattle.bottimers.specs.CronText.{in_span}
use Rattle.bottimers.proofs.span.Span.bits.Given as goal

-- the numbers so far
abbrev pub invariant-loop-n : goal.invariant-loop-n
invariant-loop-n l = (k : ℕ) → has l.set k ≡ (ltb k l.n && in_span l.self k)
