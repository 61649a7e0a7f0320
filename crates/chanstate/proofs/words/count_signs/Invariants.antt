use Rattle.std.proofs.Common.{◌≡◌, ◌≤◌, ◌-◌, ◌<◌, ℕ, true, length, get_or}
use Rattle.chanstate.specs.Announced.{is_sign}
use Rattle.chanstate.proofs.words.count_signs.Given as goal

-- the bytes so far are marks
abbrev pub invariant-loop-count : goal.invariant-loop-count
invariant-loop-count l = record {
  within : l.count ≤ length l.word;
  signs : (k : ℕ) → k < l.count → is_sign l.support (get_or l.word k 0) ≡ true;
}

abbrev pub decreases-loop-count : goal.decreases-loop-count
decreases-loop-count l = length l.word - l.count
