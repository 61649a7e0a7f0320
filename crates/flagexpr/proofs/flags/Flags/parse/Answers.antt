use Rattle.std.proofs.Common.{ap, ◌∙◌}
use Rattle.flagexpr.specs.Letters.{has_letter}
use Rattle.flagexpr.proofs.Sets.{has_letter-set_of}
use Rattle.flagexpr.proofs.flags.Flags.parse.Goals as goal

pub returns-clause-letters : goal.returns-clause-letters
returns-clause-letters c = λ letter. ap (λ flags. has_letter flags letter) c.of.ensures ∙ has_letter-set_of c.args.text.now letter
