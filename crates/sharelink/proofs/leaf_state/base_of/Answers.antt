use Rattle.std.proofs.Common.{List, arith, sym, subst}
use Rattle.usercodec.specs.declared.records.Record.{Record}
use Rattle.usercodec.specs.Records.{IsGoodRecord}
use Rattle.botjournal.specs.declared.request.Request.{Request}
use Rattle.botjournal.specs.Bases.{AreListed, AreOut}
use Rattle.sharelink.proofs.Goodness.{leaf_base-good}
use Rattle.sharelink.proofs.leaf_state.base_of.Goals as goal

pub returns-clause-good : goal.returns-clause-good
returns-clause-good c above good =
    leaf_base-good c.args.number c.args.version c.args.last c.new.result c.empty.result c.new-2.result (omega arith) (omega arith) (omega arith)
    (subst (λ (l : List Record). AreListed IsGoodRecord l) (sym c.new.ensures) c.requires.good) c.empty.ensures above
    (subst (λ (l : List Request). AreOut c.args.last l) (sym c.new-2.ensures) good)
