use Rattle.std.proofs.Common.{◌+◌, ◌-◌, ◌∙◌, length, length-drop, drop, take, ap, sym, arith}
use Rattle.std.proofs.lemmas.Bool.{eqb-false}
use Rattle.std.proofs.lemmas.List.{take_rest}
use Rattle.serverlink.proofs.TagLemmas.{plain_run, plain_step}
use Rattle.serverlink.proofs.tags.TagStage.after_plain.Goals as goal

pub loop-place-preserved : goal.loop-place-preserved
loop-place-preserved c =
    let rest = c.loop-place.rest.now in
    let place = c.in-Some.place in
    let next = take (length rest - (place + 1)) (drop (place + 1) rest) in
    let left = ap length (take_rest rest (place + 1)) ∙ length-drop (place + 1) rest in
    let step = plain_step c.loop-place.stage rest place next c.in-Some.ensures (take_rest rest (place + 1)) in
    record {
      bytes = λ same. c.loop-place.invariant.bytes (step.1 (sym c.is_plain.ensures ∙ c.if-not-is_plain.false) same);
      short = omega (arith, left, c.loop-place.invariant.short);
      stage = step.0 ∙ c.loop-place.invariant.stage;
    }

pub returns-then-is_plain-clause-bytes : goal.returns-then-is_plain-clause-bytes
returns-then-is_plain-clause-bytes c =
    let some = eqb-false (length c.loop-place.rest.now) 0 (sym c.is_empty.ensures ∙ c.if-is_empty.false) in
    let plain = sym c.is_plain-else-is_empty.ensures ∙ c.if-is_plain.true in
    c.loop-place.invariant.bytes (plain_run c.loop-place.stage c.loop-place.rest.now c.in_default.ensures plain (omega (arith, some))).0

pub returns-then-is_plain-clause-stage : goal.returns-then-is_plain-clause-stage
returns-then-is_plain-clause-stage c =
    let some = eqb-false (length c.loop-place.rest.now) 0 (sym c.is_empty.ensures ∙ c.if-is_empty.false) in
    let plain = sym c.is_plain-else-is_empty.ensures ∙ c.if-is_plain.true in
    sym (plain_run c.loop-place.stage c.loop-place.rest.now c.in_default.ensures plain (omega (arith, some))).1 ∙ c.loop-place.invariant.stage
