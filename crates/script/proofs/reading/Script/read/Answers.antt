use Rattle.std.proofs.Common.{◌∙◌, map, ap, subst, rules}
use Rattle.script.proofs.Fewness.{LinesReadAs-few}
use Rattle.script.proofs.Whys.{TellsWhy-lines}
use Rattle.script.specs.Reasons.{LinesTellWhy}
use Rattle.script.proofs.reading.Script.read.Goals as goal

pub returns-clause-few : goal.returns-clause-few
returns-clause-few c = LinesReadAs-few (map (λ line. line.now) c.as_slice.result.now) c.script_of.result c.script_of.ensures.reads

pub returns-clause-reasons : goal.returns-clause-reasons
returns-clause-reasons c =
    TellsWhy-lines c.args.bytes.now c.script_of.result (search rules)
    (subst (λ ls. LinesTellWhy ls c.script_of.result) (ap (map (λ line. line.now)) c.as_slice.ensures.value ∙ c.in_ok-lines.ensures)
    c.script_of.ensures.reasons)
