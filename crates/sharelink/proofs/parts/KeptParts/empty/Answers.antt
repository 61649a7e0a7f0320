use Rattle.std.proofs.Common.{◌++◌, ◌∷◌, [], ◌∙◌, ap, sym, subst, None}
use Rattle.sharelink.specs.Parts.{AreGoodParts}
use Rattle.sharelink.proofs.PartLaws.{no_places-more, no_places-good}
use Rattle.sharelink.proofs.parts.KeptParts.empty.Goals as goal

pub loop-preserved : goal.loop-preserved
loop-preserved c = c.in_ok-push.ensures.items ∙ ap (λ ps. ps ++ None ∷ []) c.loop.invariant ∙ no_places-more c.loop.counter

pub invariant_of-result : goal.invariant_of-result
invariant_of-result c = subst AreGoodParts (sym c.loop.invariant) (no_places-good c.loop.counter)
