use Rattle.std.proofs.Common.{◌≡◌, None, rules}
use Rattle.userfile.specs.Apply.{edit_refusal}
use Rattle.userfile.specs.Keys.{records_of}
use Rattle.userfile.proofs.PlanLemmas.{planned-sound}
use Rattle.userfile.proofs.userfile.Userfile.plan.Goals as goal

pub invariant_of-self : goal.invariant_of-self
invariant_of-self c =
    let free : edit_refusal (records_of c.self.inside.users.entries c.self.inside.bans.items) c.args.edit.now ≡ None = search rules in (
      c.plan_for.ensures.keyed,
      c.plan_for.ensures.index,
      planned-sound c.plan_for.result _ _ c.args.edit.now c.self.invariant.2 free c.plan_for.ensures.ready c.plan_for.ensures.err,
    )
