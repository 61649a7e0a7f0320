use Rattle.std.proofs.Common.{◌++◌, ◌∙◌, Option, Some, ap, sym}
use Rattle.serverlink.specs.Talks.{ping_of, talk_in, told_all}
use Rattle.serverlink.specs.Waiting.{wants_in}
use Rattle.serverlink.specs.Wanting.{questions}
use Rattle.serverlink.specs.declared.irc_connection.IrcConnection.{IrcConnection}
use Rattle.serverlink.specs.declared.session.Session.{Session}
use Rattle.serverlink.specs.declared.vigil.Care.{Care}
use Rattle.serverlink.proofs.WaitingLemmas.{kept_told, none_left, on_ok}
use Rattle.serverlink.proofs.irc_connection.IrcConnection.keep.Goals as goal
use Rattle.serverlink.proofs.irc_connection.IrcConnection.keep.Goals.{in-Wait, in-Ask+in_ok-tell-in-Ask}

pub returns-in-LetGo-clause-own : goal.returns-in-LetGo-clause-own
returns-in-LetGo-clause-own g c =
    none_left (c.args.self.now.own ++ questions c.args.self.now.session c.args.settings.now.nick c.args.now) c.lose.new.self.own c.lose.ensures.own

pub returns-clause-told : goal.returns-clause-told
returns-clause-told g c = elim c.match-care.branch [
  | in-Wait w ↦ on_ok c.tell_due.result c.tell_due.ensures.told
      (kept_told c.args.self.now.steady c.args.settings.now.nick c.args.now c.care-care.result c.args.self.now.own c.hold.new.self.own
      c.tell_due.new.self.own c.args.self.now.session c.in-Some.session c.care-care.new.self c.hold.new.self.session
      (talk_in c.tell_due.new.self.session) c.in-Some.is c.care-care.ensures.care c.care-care.ensures.wire c.care-care.ensures.wants
      (c.hold.ensures.own ∙ ap (λ (irc : IrcConnection). irc.own) w.self-is)
      (ap (λ (session : Option Session). wants_in session)
      (c.hold.ensures.session ∙ ap (λ (irc : IrcConnection). irc.session) w.self-is))
      (ap (λ (session : Option Session). talk_in session)
      (c.hold.ensures.session ∙ ap (λ (irc : IrcConnection). irc.session) w.self-is)
      ∙ ap (λ (care : Care). Some (told_all (ping_of care) c.care-care.new.self.wire)) (sym w.in-Wait.is)))
  | in-Ask+in_ok-tell-in-Ask w ↦ on_ok c.tell_due.result c.tell_due.ensures.told
      (kept_told c.args.self.now.steady c.args.settings.now.nick c.args.now c.care-care.result c.args.self.now.own c.hold.new.self.own
      c.tell_due.new.self.own c.args.self.now.session c.in-Some.session c.care-care.new.self c.hold.new.self.session
      (talk_in c.tell_due.new.self.session) c.in-Some.is c.care-care.ensures.care c.care-care.ensures.wire c.care-care.ensures.wants
      (c.hold.ensures.own ∙ ap (λ (irc : IrcConnection). irc.own) w.self-is ∙ w.tell.ensures.own)
      (ap (λ (session : Option Session). wants_in session)
      (c.hold.ensures.session ∙ ap (λ (irc : IrcConnection). irc.session) w.self-is)
      ∙ w.tell.ensures.wants)
      (ap (λ (session : Option Session). talk_in session)
      (c.hold.ensures.session ∙ ap (λ (irc : IrcConnection). irc.session) w.self-is)
      ∙ w.in_ok-tell-in-Ask.ensures.told
      ∙ ap (λ (care : Care). Some (told_all (ping_of care) c.care-care.new.self.wire)) (sym w.in-Ask.is)))
]
