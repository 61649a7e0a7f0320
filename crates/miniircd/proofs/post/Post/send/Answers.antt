use Rattle.std.proofs.Common.{◌∙◌, ap, sym}
use Rattle.miniircd.specs.Mail.{are_sound}
use Rattle.miniircd.proofs.MailLemmas.{are_sound-more}
use Rattle.miniircd.proofs.post.Post.send.Goals as goal

pub invariant_of-self : goal.invariant_of-self
invariant_of-self c =
    let before = c.self.inside in
    let told = rw (c.as_bytes.ensures, ← c.self.view_is) at (sym c.takes.ensures ∙ c.if-takes.true) in
    ap (are_sound before.clients.now.slots before.leaver) c.in_ok-push.ensures.items
    ∙ are_sound-more before.clients.now.slots before.leaver before.lines.items c.args.to c.args.text.now c.in_ok-line.line c.self.invariant c.in_ok-line.ensures told
