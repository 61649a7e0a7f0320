use Rattle.std.proofs.Common.{ap, ◌∙◌, ◌++◌, []}
use Rattle.script.specs.Reading.{begins_script, onto_said}
use Rattle.script.specs.Outcomes.{so_far}
use Rattle.script.proofs.Sayings.{wrong_after-so_far}
use Rattle.script.proofs.reading.go_on.Goals as goal

pub returns-in-Wrong : goal.returns-in-Wrong
returns-in-Wrong c = ap (λ s. begins_script (so_far c.args.script.now ++ onto_said s [])) c.in-Wrong.is ∙ wrong_after-so_far c.args.script.now
