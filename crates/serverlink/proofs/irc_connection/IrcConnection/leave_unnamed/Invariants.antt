use Rattle.std.proofs.Common.{◌≡◌}
use Rattle.serverlink.proofs.irc_connection.IrcConnection.leave_unnamed.Given as goal

-- the connection is as before
abbrev pub invariant-loop-channel : goal.invariant-loop-channel
invariant-loop-channel l = l.self.session ≡ l.fn.self.session
