use Rattle.std.proofs.Common.{◌≡◌, None, rules}
use Rattle.std.proofs.lemmas.Result.{IfOk-weaker}
use Rattle.userfile.specs.Apply.{refusal, edit_refusal}
use Rattle.userfile.proofs.PlanLemmas.{IsPlanFor-before, IsPlanFor-after, IsPlanFor-Suits}
use Rattle.userfile.proofs.SoundLemmas.{edit-free}
use Rattle.userfile.proofs.update.make.Goals as goal

pub returns-clause-ready : goal.returns-clause-ready
returns-clause-ready c =
    let free : refusal c.args.userfile.now c.args.change.now ≡ None = search rules in
    let sure : edit_refusal c.args.userfile.now c.args.change.now.edit ≡ None = edit-free c.args.userfile.now c.args.change.now free in
    IfOk-weaker c.plan.result _ _
    (λ plan is. record {
      taken = free;
      earlier = IsPlanFor-before plan c.args.change.now.edit c.args.userfile.now c.plan.new.self sure is;
      later = IsPlanFor-after plan c.args.change.now.edit c.args.userfile.now c.plan.new.self is;
      suits = IsPlanFor-Suits plan c.args.change.now.edit c.args.userfile.now c.plan.new.self sure is;
    })
    c.plan.ensures.ready
