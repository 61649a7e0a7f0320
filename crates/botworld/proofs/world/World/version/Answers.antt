use Rattle.std.proofs.Common.{Some, ap, sym, ◌∙◌}
use Rattle.botcore.specs.Bots.{Bot}
use Rattle.botcore.specs.Links.{link_version}
use Rattle.botworld.specs.Net.{Net}
use Rattle.botworld.proofs.Shown.{shown-none, shown-some}
use Rattle.botworld.proofs.world.World.version.Goals as goal

pub returns-in_err-bot : goal.returns-in_err-bot
returns-in_err-bot g c =
    let all = c.deref.ensures.value ∙ ap (λ (w : Net). w.bots) c.self.view_is in
    c.from_residual.ensures ∙ sym (shown-none (λ (b : Bot). link_version b.link) c.args.self.now c.deref.result.now c.args.bot all c.in_err-bot.ensures.lookup.3)

pub returns : goal.returns
returns g c =
    let all = c.deref.ensures.value ∙ ap (λ (w : Net). w.bots) c.self.view_is in
    let found = c.in_ok-bot.ensures.lookup in
    ap Some c.version.ensures
    ∙ sym (shown-some (λ (b : Bot). link_version b.link) c.args.self.now c.deref.result.now c.args.bot all c.in_ok-bot.bot.now found.3.0 found.1)
