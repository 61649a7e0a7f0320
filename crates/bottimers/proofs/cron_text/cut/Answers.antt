use Rattle.std.proofs.Common.{sym, ◌∙◌}
use Rattle.bottimers.proofs.Cuts.{front_some, back_some, front_none, back_none}
use Rattle.bottimers.proofs.cron_text.cut.Goals as goal

pub returns-in-Some-clause-front : goal.returns-in-Some-clause-front
returns-in-Some-clause-front c = front_some c.args.at c.args.text.now c.in-Some.i (sym c.place.ensures ∙ c.in-Some.is)

pub returns-in-Some-clause-back : goal.returns-in-Some-clause-back
returns-in-Some-clause-back c = back_some c.args.at c.args.text.now c.in-Some.i (sym c.place.ensures ∙ c.in-Some.is)

pub returns-in-None-clause-front : goal.returns-in-None-clause-front
returns-in-None-clause-front c = front_none c.args.at c.args.text.now (sym c.place.ensures ∙ c.in-None.is)

pub returns-in-None-clause-back : goal.returns-in-None-clause-back
returns-in-None-clause-back c = back_none c.args.at c.args.text.now (sym c.place.ensures ∙ c.in-None.is)
