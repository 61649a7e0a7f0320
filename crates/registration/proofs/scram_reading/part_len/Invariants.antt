use Rattle.std.proofs.Common.{◌≡◌, ◌≤◌, ◌-◌, ◌<◌, ℕ, false, eqb, length, get_or}
use Rattle.registration.proofs.scram_reading.part_len.Given as goal

-- no byte so far is a comma
abbrev pub invariant-loop-count : goal.invariant-loop-count
invariant-loop-count l = record {
  within : l.count ≤ length l.text;
  before : (k : ℕ) → k < l.count → eqb (get_or l.text k 0) 44 ≡ false;
}

abbrev pub decreases-loop-count : goal.decreases-loop-count
decreases-loop-count l = length l.text - l.count
