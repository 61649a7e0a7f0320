use Rattle.std.proofs.Common.{◌≡◌, ◌≤◌, ◌-◌, ◌<◌, ℕ, true, eqb, length, get_or}
use Rattle.bytetext.proofs.words.count_spaces.Given as goal

-- each byte so far is a space
abbrev pub invariant-loop-count : goal.invariant-loop-count
invariant-loop-count l = record {
  within : l.count ≤ length l.text;
  before : (k : ℕ) → k < l.count → eqb (get_or l.text k 0) 32 ≡ true;
}

abbrev pub decreases-loop-count : goal.decreases-loop-count
decreases-loop-count l = length l.text - l.count
