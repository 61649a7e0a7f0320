use Rattle.std.proofs.Common.{◌∙◌, sym}
use Rattle.std.proofs.lemmas.Bool.{le-ltb}
use Rattle.bottimers.proofs.CronBits.{has_above}
use Rattle.bottimers.proofs.span.contains.Goals as goal

pub returns-else-n-lt64 : goal.returns-else-n-lt64
returns-else-n-lt64 c =
    le-ltb c.args.n 64 c.if-n-lt64.false ∙ sym (has_above c.args.set 64 c.args.n c.ranges.set.fits c.if-n-lt64.false)
