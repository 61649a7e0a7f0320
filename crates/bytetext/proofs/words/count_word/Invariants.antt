use Rattle.std.proofs.Common.{◌≡◌, ◌≤◌, ◌-◌, ◌<◌, ℕ, false, eqb, length, get_or}
use Rattle.bytetext.proofs.words.count_word.Given as goal

-- no byte so far is a space
abbrev pub invariant-loop-count : goal.invariant-loop-count
invariant-loop-count l = record {
  within : l.count ≤ length l.text;
  before : (k : ℕ) → k < l.count → eqb (get_or l.text k 0) 32 ≡ false;
}

abbrev pub decreases-loop-count : goal.decreases-loop-count
decreases-loop-count l = length l.text - l.count
