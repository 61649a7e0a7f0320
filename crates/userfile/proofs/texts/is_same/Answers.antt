use Rattle.std.proofs.lemmas.Bool.Decides.{same_from_decides}
use Rattle.rfccase.proofs.SameLemmas.{is_same-Decides}
use Rattle.userfile.proofs.texts.is_same.Goals as goal

pub returns : goal.returns
returns c = same_from_decides _ _ c.same.ensures (is_same-Decides _ _)
