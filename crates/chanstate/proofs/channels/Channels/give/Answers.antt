use Rattle.std.proofs.Common.{◌∙◌, ap, sym}
use Rattle.chanstate.specs.Takes.{given, on_place}
use Rattle.chanstate.proofs.TakeLemmas.{given-append}
use Rattle.chanstate.proofs.channels.Channels.give.Goals as goal

pub loop-take-preserved : goal.loop-take-preserved
loop-take-preserved c =
    let done = c.args.done in
    let left = c.pop.new.self.items in
    ap (given done left) (c.put_at.ensures ∙ ap (λ ms. on_place c.in-Some.take.at (λ _. ms) c.loop-take.self) c.into_roster.ensures)
    ∙ sym (given-append done left c.in-Some.take c.loop-take.self)
    ∙ ap (λ ts. given done ts c.loop-take.self) (sym c.in-Some.ensures.items) ∙ c.loop-take.invariant
