use Rattle.std.proofs.Common.{◌++◌, ◌∙◌, Option, ap}
use Rattle.serverlink.specs.Talks.{TellsMore, talk_in}
use Rattle.serverlink.specs.Wanting.{questions}
use Rattle.serverlink.specs.declared.session.Session.{Session}
use Rattle.serverlink.proofs.WaitingLemmas.{all_told, nick_talk, on_ok}
use Rattle.serverlink.proofs.irc_connection.IrcConnection.tell_due.Goals as goal

pub returns-clause-told : goal.returns-clause-told
returns-clause-told c = on_ok c.ask_for_members.result c.ask_for_members.ensures.told
    (λ (others : TellsMore (talk_in c.join_again.new.self.session) (talk_in c.ask_for_members.new.self.session)).
    all_told (c.args.self.now.own ++ questions c.args.self.now.session c.args.settings.now.nick c.args.now)
    c.ask_for_nick.new.self.own c.tell_own.new.self.own c.ask_for_members.new.self.own (talk_in c.args.self.now.session)
    (talk_in c.ask_for_nick.new.self.session) (talk_in c.tell_own.new.self.session) (talk_in c.join_again.new.self.session)
    (talk_in c.ask_for_members.new.self.session) c.in_ok-ask_for_nick.ensures.own
    (ap (λ (session : Option Session). talk_in session) c.in_ok-ask_for_nick.ensures.session
    ∙ nick_talk c.args.settings.now.nick c.args.now c.args.self.now.session)
    c.in_ok-tell_own.ensures.told c.in_ok-join_again.ensures.told (c.ask_for_members.ensures.own ∙ c.join_again.ensures.own) others)
