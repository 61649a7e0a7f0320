use Rattle.std.proofs.Common.{◌∙◌, ap, sym, ◌||◌}
use Rattle.std.proofs.Math.Bool.{or_assoc}
use Rattle.bottimers.specs.CronSets.{has}
use Rattle.bottimers.specs.CronText.{in_span}
use Rattle.bottimers.proofs.CronFields.{in_rest, rest_of}
use Rattle.bottimers.proofs.Cuts.{field_step, field_stop}
use Rattle.bottimers.proofs.cron_text.field.Goals as goal

pub returns-in_default-span-clause-accepted : goal.returns-in_default-span-clause-accepted
returns-in_default-span-clause-accepted c =
    let so_far = rw c.in-Some.is at c.loop-rest.invariant.0 in
    let stop = field_stop c.args.low c.args.high c.in-Some.items.now c.cut.result.0.now c.cut.ensures.front (sym c.span.ensures.value ∙ c.in_default-span.is) in
    sym stop ∙ so_far

pub loop-rest-preserved : goal.loop-rest-preserved
loop-rest-preserved c =
    let step = field_step c.args.low c.args.high c.in-Some.items.now c.cut.result.0.now
    (rest_of c.cut.result.1) c.in-Some-span.span c.cut.ensures.front c.cut.ensures.back (sym c.span.ensures.value ∙ c.in-Some-span.is) in
    let so_far = rw c.in-Some.is at c.loop-rest.invariant.0 in
    let sets = rw c.in-Some.is at c.loop-rest.invariant.1 in (
      sym step.0 ∙ so_far,
      λ n.
          sets n
          ∙ ap (λ b. has c.loop-rest.set n || b) (step.1 n)
          ∙ sym (or_assoc (has c.loop-rest.set n) (in_span c.in-Some-span.span n) (in_rest c.args.low c.args.high (rest_of c.cut.result.1) n))
          ∙ ap (λ b. (has c.loop-rest.set n || b) || in_rest c.args.low c.args.high (rest_of c.cut.result.1) n) (sym (c.bits.ensures n))
          ∙ ap (λ b. b || in_rest c.args.low c.args.high (rest_of c.cut.result.1) n) (sym (c.union-set.ensures n)),
    )
