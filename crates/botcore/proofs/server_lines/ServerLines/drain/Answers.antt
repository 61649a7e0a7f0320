use Rattle.std.proofs.Common.{◌≡◌, ◌∙◌, Option, true, false, unwrap_or, ap, sym}
use Rattle.outqueue.specs.Sending.{Sending, with_first}
use Rattle.botcore.specs.Leaving.{leaving}
use Rattle.botcore.specs.ServerLines.{ServerLines}
use Rattle.botcore.proofs.GreetingLemmas.{none_waits}
use Rattle.botcore.proofs.server_lines.ServerLines.drain.Goals as goal

pub returns-in_err-since-in-None-clause-needs_none : goal.returns-in_err-since-in-None-clause-needs_none
returns-in_err-since-in-None-clause-needs_none c = λ none.
    let first = with_first c.self.inside.greeting c.self.inside.left in
    let current = sym (ap (λ (l : ServerLines). l.current) c.self.view_is) ∙ ap (λ (q : Option Sending). unwrap_or q first) c.in-None.is in
    let silent = none_waits c.args.most first c.args.now c.self.invariant.0 (ap (λ (q : Sending). leaving c.args.most q c.args.now) (sym current) ∙ none) in
    let is_ok : false ≡ true = c.in_err-since-in-None.ensures.needs_none silent in
    cc
