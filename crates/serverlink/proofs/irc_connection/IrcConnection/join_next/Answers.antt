use Rattle.serverlink.specs.Talks.{talk_in}
use Rattle.serverlink.proofs.WaitingLemmas.{one_more}
use Rattle.serverlink.proofs.irc_connection.IrcConnection.join_next.Goals as goal

pub returns-in_default-key-clause-told : goal.returns-in_default-key-clause-told
returns-in_default-key-clause-told c =
    one_more c.as_slice.result.now (talk_in c.args.self.now.session) (talk_in c.tell.new.self.session) c.in_ok-tell.ensures.told

pub returns-clause-told : goal.returns-clause-told
returns-clause-told c =
    one_more c.as_slice-2.result.now (talk_in c.args.self.now.session) (talk_in c.tell_unseen.new.self.session) c.in_ok-tell_unseen.ensures.told
