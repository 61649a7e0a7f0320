use Rattle.std.proofs.Common.{nat_lt, sym, ap, subst, ◌∙◌, ◌≡◌}
use Rattle.protocol.specs.HubRules.{HubState}
use Rattle.protocol.specs.Notes.Note.{Served}
use Rattle.sharelink.specs.Calls.{outgoings_of}
use Rattle.sharelink.specs.HubLinks.{HubEnd, hello_sends}
use Rattle.sharelink.proofs.PacketLaws.{hello-served}
use Rattle.sharelink.proofs.hub_link.HubLink.meet_hello.Goals as goal

pub returns-clause-row : goal.returns-clause-row
returns-clause-row g c =
    let kept : c.state.result.now ≡ c.args.self.now.bot.kept = c.state.ensures ∙ ap (λ (e : HubEnd). e.bot.kept) c.self.view_is in
    hello-served c.args.self.now c.args.leaf c.args.version _ (sym c.is_stray_hello.ensures ∙ c.if-is_stray_hello.false)
    (ap (λ n. Served n) c.len.ensures)
    (ap outgoings_of c.new-packets.ensures ∙ subst (λ (h : HubState). outgoings_of c.in_ok-hello_packets.field-0.items
    ≡ hello_sends h c.args.leaf c.args.version (nat_lt c.args.version h.floor)) kept c.in_ok-hello_packets.ensures.packets)
