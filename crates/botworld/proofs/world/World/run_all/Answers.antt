use Rattle.std.proofs.Common.{◌≡◌, ◌+◌, ◌++◌, [], ◌∷◌, cond, is_ok, arith, ap, sym, ◌∙◌, length, length-append, take, refl, vec_len}
use Rattle.std.proofs.Common.{inr}
use Rattle.std.proofs.lemmas.Option.{slice_get_read}
use Rattle.std.proofs.lemmas.List.{take_more}
use Rattle.botworld.specs.declared.step.Step.{Step}
use Rattle.botworld.proofs.Runs.{leads_on, leads_nowhere}
use Rattle.botworld.proofs.world.World.run_all.Goals as goal

pub loop-step-init : goal.loop-step-init
loop-step-init g c = record {
  count = ap length c.in-Ok.ensures.items;
  len = c.in-Ok.ensures.len;
  room = omega (arith, c.in-Ok.ensures.capacity);
  leads = rw c.in-Ok.ensures.items (λ past stands. leads_nowhere _ _ past stands);
}

pub unwrap-requires : goal.unwrap-requires
unwrap-requires g c = c.push.ensures.succeeds (omega (arith, c.loop-step.invariant.len, c.loop-step.invariant.room, c.loop-step-test.true))

pub loop-step-preserved : goal.loop-step-preserved
loop-step-preserved g c =
    let pushed : c.push.new.self.items ≡ c.loop-step.outcomes.items ++ c.in-Ok-make.outcome ∷ [] =
    c.push.ensures.items ∙ ap (λ r. cond (is_ok r) (c.loop-step.outcomes.items ++ c.in-Ok-make.outcome ∷ []) c.loop-step.outcomes.items) c.unwrap.ensures in
    let one_more : vec_len c.push.new.self ≡ vec_len c.loop-step.outcomes + 1 = c.push.ensures.len
    ∙ ap (λ r. cond (is_ok r) (vec_len c.loop-step.outcomes + 1) (vec_len c.loop-step.outcomes)) c.unwrap.ensures in
    let more : take (c.loop-step.step-index + 1) c.args.steps.now ≡ take c.loop-step.step-index c.args.steps.now ++ c.step-item.result ∷ [] =
    take_more c.args.steps.now c.loop-step.step-index c.step-item.result c.loop-step-test.true
    ∙ ap (λ (x : Step). take c.loop-step.step-index c.args.steps.now ++ x ∷ []) (sym c.step-item.is) in
    record {
      count = ap length pushed ∙ length-append c.loop-step.outcomes.items (c.in-Ok-make.outcome ∷ []) ∙ ap (λ n. n + 1) c.loop-step.invariant.count;
      len = one_more ∙ ap (λ n. n + 1) c.loop-step.invariant.len;
      room = omega (arith, c.loop-step.invariant.room, c.push.ensures.capacity);
      leads = rw (pushed, more) (λ past stands. leads_on _ past _ _ c.step-item.result c.in-Ok-make.outcome c.loop-step.self c.make.new.self
          (c.loop-step.invariant.leads past stands) c.in-Ok-make.ensures);
    }

pub returns-in_default-clause-leads : goal.returns-in_default-clause-leads
returns-in_default-clause-leads g c = rw c.empty.ensures (λ past stands. leads_nowhere _ _ past stands)

pub returns-in-Err-clause-cut_at : goal.returns-in-Err-clause-cut_at
returns-in-Err-clause-cut_at g c = λ _.
    let place : length c.new.result ≡ c.loop-step.step-index = ap length c.new.ensures ∙ c.loop-step.invariant.count in
    let here = slice_get_read c.args.steps.now (length c.args.steps.now) c.loop-step.step-index c.step-item.result refl c.loop-step-test.true c.step-item.is in
    inr (c.step-item.result, (rw place here), (rw c.in-Err.ensures.1 c.in-Err.ensures.0))
