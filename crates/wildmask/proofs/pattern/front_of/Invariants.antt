use Rattle.std.proofs.Common.{◌≡◌, ◌≤◌, ◌<◌, ℕ, true, length, get_or}
use Rattle.wildmask.specs.Codes.{decoded}
use Rattle.wildmask.specs.Items.{is_literal}
use Rattle.wildmask.proofs.pattern.front_of.Given as goal

-- the items from here on are literals
abbrev pub invariant-loop-front : goal.invariant-loop-front
invariant-loop-front l = record {
  within : l.front ≤ length l.codes;
  literals : (k : ℕ) → l.front ≤ k → k < length l.codes
      → is_literal (decoded (get_or l.codes k 0)) ≡ true;
}

abbrev pub decreases-loop-front : goal.decreases-loop-front
decreases-loop-front l = l.front
