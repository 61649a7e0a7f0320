use Rattle.bytetext.proofs.Errors.{at_err}
use Rattle.recordtext.proofs.Rests.{rest_of-some}
use Rattle.recordtext.proofs.rest.rest_of.Goals as goal

pub returns-in_err-line-clause-memory : goal.returns-in_err-line-clause-memory
returns-in_err-line-clause-memory c =
    at_err c.from_residual.result (rest_of-some c.args.first.now c.args.rest.now c.in_err-line.ensures.memory)
