use Rattle.std.proofs.Common.{◌≡◌}
use Rattle.administrators.proofs.noticing.notice_callers.Given as goal

-- the session is the one from before
abbrev pub invariant-loop-call : goal.invariant-loop-call
invariant-loop-call l = l.uplink.session ≡ l.fn.uplink.session
