use Rattle.std.proofs.Common.{◌==◌, ◌∙◌, rules, tests}
use Rattle.std.proofs.lemmas.Iterator.{YieldsList-from_slice}
use Rattle.std.proofs.lemmas.Iterator.Search.{any_from_yields_List}
use Rattle.botjournal.specs.declared.request.Request.{Request}
use Rattle.sharelink.proofs.Lists.{any-out}
use Rattle.sharelink.proofs.requests.is_out.Goals as goal

pub returns : goal.returns
returns c =
    any_from_yields_List (λ (r : Request). r.number == c.args.number) _ _ _ c.any.ensures.ran
    (YieldsList-from_slice c.args.out.now cc) (λ x b q k. search (rules, tests))
    ∙ any-out c.args.number c.args.out.now
