use Rattle.std.proofs.Common.{◌≡◌}
use Rattle.std.specs.Prelude.{is_some}
use Rattle.serverlink.specs.Talks.{TellsMore, talk_in}
use Rattle.serverlink.specs.Waiting.{wants_in}
use Rattle.serverlink.proofs.irc_connection.IrcConnection.ask_for_members.Given as goal

-- the lines so far were queued, have not ended the connection, and changed nothing of the nick and of the lines that wait
abbrev pub invariant-loop-channel : goal.invariant-loop-channel
invariant-loop-channel l = record {
  same : is_some l.self.session ≡ is_some l.fn.self.session;
  wants : wants_in l.self.session ≡ wants_in l.fn.self.session;
  own : l.self.own ≡ l.fn.self.own;
  told : TellsMore (talk_in l.fn.self.session) (talk_in l.self.session);
}
