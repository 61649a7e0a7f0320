use Rattle.std.proofs.Common.{◌≡◌}
use Rattle.net.proofs.socket.SocketStream.give.Given as goal

-- the interruptions so far are no answers
abbrev pub invariant-loop-turn : goal.invariant-loop-turn
invariant-loop-turn g l = l.self.account.past ≡ l.fn.self.account.past
