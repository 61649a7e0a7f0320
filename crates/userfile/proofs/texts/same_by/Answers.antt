use Rattle.std.proofs.lemmas.Bool.Decides.{same_from_decides}
use Rattle.rfccase.proofs.SameLemmas.{is_same_by-Decides}
use Rattle.userfile.proofs.texts.same_by.Goals as goal

pub returns : goal.returns
returns c = same_from_decides _ _ c.same_by.ensures (is_same_by-Decides c.args.mapping _ _)
