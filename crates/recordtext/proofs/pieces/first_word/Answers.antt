use Rattle.std.proofs.Common.{sym, ◌∙◌}
use Rattle.recordtext.proofs.Cuts.{words_of-cut, words_of-whole}
use Rattle.recordtext.proofs.pieces.first_word.Goals as goal

pub returns-in-Some : goal.returns-in-Some
returns-in-Some c = words_of-cut c.args.line.now c.in-Some.place (sym c.first_space.ensures ∙ c.in-Some.is)

pub returns-in-None : goal.returns-in-None
returns-in-None c = words_of-whole c.args.line.now (sym c.first_space.ensures ∙ c.in-None.is)
