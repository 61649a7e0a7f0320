use Rattle.std.proofs.Common.{◌∙◌}
use Rattle.registration.proofs.HearingLemmas.{quiet_changes_nothing}
use Rattle.registration.proofs.registration.Registration.hear.Goals as goal

pub returns-clause-quiet : goal.returns-clause-quiet
returns-clause-quiet c = λ quiet well.
    c.apply.ensures.quiet (c.in_ok-hearing.ensures.hearing ∙ quiet_changes_nothing c.args.self.now c.args.line.now quiet) well
