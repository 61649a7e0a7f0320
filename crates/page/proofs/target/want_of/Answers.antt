use Rattle.std.proofs.Common.{inr}
use Rattle.std.proofs.lemmas.Result.{IfOk-weaker}
use Rattle.page.proofs.target.want_of.Goals as goal

pub returns-in-Ok : goal.returns-in-Ok
returns-in-Ok c =
    IfOk-weaker c.want_in.result _ _ (λ want at. inr (c.in-Ok.uri, (c.in-Ok.ensures.ok, at))) c.want_in.ensures
