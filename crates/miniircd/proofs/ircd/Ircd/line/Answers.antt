use Rattle.std.proofs.Common.{◌∙◌, None, IfSome, ap, subst, sym}
use Rattle.ircline.specs.Classes.{is_end}
use Rattle.ircline.specs.Words.{up_to}
use Rattle.ircline.specs.Reading.{line_of}
use Rattle.miniircd.specs.Mail.{IsTold, are_sound}
use Rattle.miniircd.specs.Server.{Server, after_line, letters}
use Rattle.miniircd.proofs.SoundLemmas.{sound_after}
use Rattle.miniircd.proofs.WholeLemmas.{effect_whole, after_whole}
use Rattle.miniircd.proofs.ToldLemmas.{told_whole}
use Rattle.miniircd.proofs.ircd.Ircd.line.Goals as goal

pub invariant_of-self-2 : goal.invariant_of-self-2
invariant_of-self-2 c =
    let s : Server = record { clients = c.self.inside.clients.slots; channels = c.self.inside.channels.items } in
    let k = c.args.client.0 in
    let p = c.in-Some.person.now in
    let text = c.args.text.now in
    let now : Server = record { clients = c.self.inside.clients.slots; channels = c.reply_to.new.channels.items } in
    effect_whole k c.in_ok-reply.reply.effect now (after_line k p (line_of (up_to is_end text)) s) _ _ c.commit.ensures.clients c.commit.ensures.channels
    c.in_ok-reply.ensures.after (after_whole k p text s (sym c.in-Some.ensures) c.self.invariant)

pub returns-clause-sound : goal.returns-clause-sound
returns-clause-sound c =
    let reply = c.in_ok-reply.reply in
    ap (λ clients. are_sound clients None reply.lines) c.commit.ensures.clients
    ∙ sound_after c.args.client.0 c.self.inside.clients.slots c.reply_to.new.channels.items reply.effect reply.lines c.in_ok-reply.ensures.sound

pub returns-clause-told : goal.returns-clause-told
returns-clause-told c =
    let s : Server = record { clients = c.self.inside.clients.slots; channels = c.self.inside.channels.items } in
    let k = c.args.client.0 in
    let text = c.args.text.now in
    let lines = c.in_ok-reply.reply.lines in
    subst (λ t. IfSome (letters k text t) (λ ls. IsTold ls lines)) c.self.view_is
    (told_whole k c.in-Some.person.now text s lines c.self.invariant (sym c.in-Some.ensures) c.in_ok-reply.ensures.told)
