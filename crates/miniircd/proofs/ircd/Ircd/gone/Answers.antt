use Rattle.std.proofs.Common.{◌∙◌, None, ap, is_some, sym}
use Rattle.miniircd.specs.Mail.{are_sound}
use Rattle.miniircd.specs.Server.{Server, left, effected}
use Rattle.miniircd.proofs.SoundLemmas.{sound_after}
use Rattle.miniircd.proofs.WholeLemmas.{effect_whole, left_whole}
use Rattle.miniircd.proofs.ircd.Ircd.gone.Goals as goal

pub invariant_of-self : goal.invariant_of-self
invariant_of-self c =
    let s : Server = record { clients = c.self.inside.clients.slots; channels = c.self.inside.channels.items } in
    let k = c.args.client.0 in
    effect_whole k c.in_ok-reply.reply.effect s (left k s) _ _ c.commit.ensures.clients c.commit.ensures.channels
    (ap (λ e. effected k e s) (rw c.as_slice.ensures.value at c.in_ok-reply.ensures.left))
    (left_whole k s (ap is_some (sym c.in-Some.ensures)) c.self.invariant)

pub returns-clause-sound : goal.returns-clause-sound
returns-clause-sound c =
    let reply = c.in_ok-reply.reply in
    ap (λ clients. are_sound clients None reply.lines) c.commit.ensures.clients
    ∙ sound_after c.args.client.0 c.self.inside.clients.slots c.self.inside.channels.items reply.effect reply.lines c.in_ok-reply.ensures.sound
