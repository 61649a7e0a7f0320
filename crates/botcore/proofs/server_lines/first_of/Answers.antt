use Rattle.std.proofs.Common.{◌≡◌, ◌∙◌, ◌==◌, ◌&&◌, min, true, false, ap, sym}
use Rattle.outqueue.specs.declared.queues.Counts.{Counts}
use Rattle.botcore.proofs.GreetingLemmas.{none_left}
use Rattle.botcore.proofs.server_lines.first_of.Goals as goal

pub returns-in_err-queues-clause-needs_none : goal.returns-in_err-queues-clause-needs_none
returns-in_err-queues-clause-needs_none c = λ none.
    let left = c.args.left in
    let counted = ap (λ (all : Counts). min left.prompt all.prompt == 0
    && (min left.mode all.mode == 0 && (min left.server all.server == 0 && min left.help all.help == 0))) c.counts.ensures in
    let fewer = ap (λ (few : Counts). few.prompt == 0 && (few.mode == 0 && (few.server == 0 && few.help == 0))) c.fewer.ensures in
    let is : false ≡ true = sym c.if-is_none.false ∙ c.is_none.ensures ∙ fewer ∙ counted ∙ none_left c.args.greeting.now left none in
    cc
