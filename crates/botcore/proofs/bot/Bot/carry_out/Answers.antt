use Rattle.std.proofs.Common.{◌∙◌, ap, sym, subst}
use Rattle.bottimers.specs.Held.{Held}
use Rattle.botcore.specs.Acting.{actions_of}
use Rattle.botcore.specs.Bots.{Bot}
use Rattle.botcore.specs.Progress.{Progress}
use Rattle.botcore.specs.Rising.{IsReached}
use Rattle.botcore.proofs.ReachLemmas.{reached_by}
use Rattle.botcore.proofs.bot.Bot.carry_out.Goals as goal

pub returns-clause-reading : goal.returns-clause-reading
returns-clause-reading g c =
    let inside = c.self.inside in
    let made = c.new-doing.result in
    let last = ap (λ (p : Progress). p.last) c.new-doing.ensures ∙ c.last.ensures in
    let timers = ap (λ (p : Progress). p.timers) c.new-doing.ensures ∙ c.in_ok-timers.ensures in
    let reached = subst (λ (h : Held). IsReached h.last made.last) (sym timers) (subst (IsReached inside.timers.last) (sym last) c.self.invariant.0) in
    let done = reached_by inside.link c.act_for-done.new.link made c.act_for-done.new.self (actions_of c.args.calls.now) inside.clock
    c.in_ok-done.ensures.done reached last in
    let clock = ap (λ (b : Bot). b.clock) c.self.view_is in
    subst (IsReached c.doing.inside.timers.last) clock
    (subst (λ (p : Progress). IsReached p.timers.last inside.clock) (sym c.doing.view_is) done)
