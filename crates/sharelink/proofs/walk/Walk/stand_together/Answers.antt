use Rattle.std.proofs.Common.{◌&&◌, not, ap, sym, ◌∙◌}
use Rattle.userfile.specs.Together.{repeats}
use Rattle.sharelink.specs.Parts.{left, clash}
use Rattle.sharelink.proofs.TogetherLaws.{together_is}
use Rattle.sharelink.proofs.walk.Walk.stand_together.Goals as goal

pub returns-then-are_few : goal.returns-then-are_few
returns-then-are_few c =
    ap not c.repeats.ensures ∙ ap (λ b. b && not (repeats clash (left c.args.self))) (sym c.if-are_few.true ∙ c.are_few.ensures)
    ∙ together_is (left c.args.self) c.requires.good
