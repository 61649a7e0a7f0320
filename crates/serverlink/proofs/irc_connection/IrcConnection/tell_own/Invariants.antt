use Rattle.std.proofs.Common.{◌≡◌, []}
use Rattle.std.specs.Prelude.{is_some}
use Rattle.serverlink.specs.Talks.{talk_in}
use Rattle.serverlink.specs.Waiting.{AreLast, TellsWaiting, wants_in}
use Rattle.serverlink.proofs.irc_connection.IrcConnection.tell_own.Given as goal

-- the lines so far were queued for the server, have not ended the connection, and changed nothing of the nick; the others wait
abbrev pub invariant-loop-line : goal.invariant-loop-line
invariant-loop-line l = record {
  same : is_some l.self.session ≡ is_some l.fn.self.session;
  wants : wants_in l.self.session ≡ wants_in l.fn.self.session;
  own : AreLast l.fn.self.own l.self.own;
  told : TellsWaiting [] l.fn.self.own [] l.self.own (talk_in l.fn.self.session) (talk_in l.self.session);
}
