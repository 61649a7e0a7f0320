use Rattle.std.proofs.Common.{◌∙◌, ap, sym}
use Rattle.std.specs.Prelude.{Ok, Err}
use Rattle.botcases.specs.Procs.{code_of}
use Rattle.botcases.proofs.case_procs.add.Goals as goal

pub new-requires-clause-keeps : goal.new-requires-clause-keeps
new-requires-clause-keeps c call seen (Ok reply) is =
    record { code = is ∙ c.requires ∙ ap (λ name. code_of name) (sym c.in_ok-name.ensures); actions = tt }
new-requires-clause-keeps c call seen (Err lack) is = tt
