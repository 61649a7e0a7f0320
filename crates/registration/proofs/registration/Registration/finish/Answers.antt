use Rattle.std.proofs.Common.{◌∙◌}
use Rattle.registration.proofs.HearingLemmas.{nothing_finished}
use Rattle.registration.proofs.registration.Registration.finish.Goals as goal

pub returns-clause-quiet : goal.returns-clause-quiet
returns-clause-quiet c = λ not_derived well.
    c.apply.ensures.quiet (c.in_ok-hearing.ensures.hearing ∙ nothing_finished c.args.self.now.work not_derived) well
