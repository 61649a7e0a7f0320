use Rattle.std.proofs.Common.{IsOk, sym, subst}
use Rattle.sharewire.specs.declared.packet.Packet.{Packet}
use Rattle.sharelink.specs.Shapes.{HasGoodRecords}
use Rattle.botcore.specs.declared.event.BotEvent.{BotEvent}
use Rattle.botcore.specs.Steps.{IsGoodEvent}
use Rattle.botworld.specs.declared.step.Step.{Step}
use Rattle.botworld.specs.Net.{Net, part_of}
use Rattle.botworld.proofs.Good.{delivered_good, told_good}
use Rattle.botworld.proofs.world.World.part.Goals as goal

pub returns-in_ok-copy-in-Deliver-clause-good : goal.returns-in_ok-copy-in-Deliver-clause-good
returns-in_ok-copy-in-Deliver-clause-good g c =
    let w : Net = record { bots = c.self.inside.bots.items; packets = c.self.inside.packets.items; store = c.self.inside.store } in
    let here = subst (λ (w : Net). IsOk (part_of w c.args.step.now)) (sym c.self.view_is) c.requires in
    let ok = subst (λ (step : Step). IsOk (part_of w step)) c.in-Deliver.is here in
    subst (λ (p : Packet). HasGoodRecords p) (sym c.in_ok-copy-in-Deliver.ensures)
    (delivered_good w c.in-Deliver.packet c.index-sent.result.now c.self.invariant ok c.index-sent.ensures)

pub returns-in_ok-copy-in-At-clause-good : goal.returns-in_ok-copy-in-At-clause-good
returns-in_ok-copy-in-At-clause-good g c =
    let ok = subst (λ (step : Step). IsOk (part_of c.args.self.now step)) c.in-At.is c.requires in
    subst (λ (e : BotEvent). IsGoodEvent e) (sym c.in_ok-copy-in-At.ensures) (told_good c.args.self.now c.in-At.bot c.in-At.event ok)
