use Rattle.std.proofs.Common.{◌∙◌, ap, sym, subst}
use Rattle.rfccase.specs.Casemapping.{folded_by}
use Rattle.chanstate.specs.Seats.{AreUnder}
use Rattle.chanstate.proofs.SeatLemmas.{AreUnder-append}
use Rattle.chanstate.proofs.newcomers.push_some.Goals as goal

pub returns-in_ok-push-clause-keyed : goal.returns-in_ok-push-clause-keyed
returns-in_ok-push-clause-keyed c =
    let key = c.in_ok-key.ensures ∙ ap (folded_by c.args.mapping) c.as_bytes.ensures in
    subst (AreUnder c.args.mapping) (sym c.in_ok-push.ensures.items) (AreUnder-append c.args.mapping c.args.ones.now.items (c.in_ok-key.key, c.in-Some.member) c.requires key)
