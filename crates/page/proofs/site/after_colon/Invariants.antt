use Rattle.std.proofs.Common.{◌≡◌, length}
use Rattle.page.specs.Sites.{after_colon}
use Rattle.page.proofs.site.after_colon.Given as goal

-- the bytes that are left decide
abbrev pub invariant-loop-byte : goal.invariant-loop-byte
invariant-loop-byte l = after_colon l.fn.pair ≡ after_colon l.rest

abbrev pub decreases-loop-byte : goal.decreases-loop-byte
decreases-loop-byte l = length l.rest
