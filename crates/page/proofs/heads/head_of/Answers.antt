use Rattle.std.proofs.Common.{arith, subst}
use Rattle.page.specs.Answers.{BeginsWith}
use Rattle.page.specs.Writing.{Adds}
use Rattle.page.proofs.WritingLemmas.{begins}
use Rattle.page.proofs.heads.head_of.Goals as goal

pub returns-in-Ok : goal.returns-in-Ok
returns-in-Ok c =
    let line = subst (λ old. Adds old c.line.result.now c.put.new.self) c.new-head.ensures c.put.ensures in
    let is = begins c.line.result.now c.in-Ok.bytes.items 900 c.put.new.self c.put_fields.new.head line c.put_fields.ensures c.in-Ok.ensures.whole in
    record {
      line = subst (λ text. BeginsWith text c.in-Ok.bytes.items) c.line.ensures.value is.0;
      printed = c.in-Ok.ensures.printed;
      bound = omega (arith, is.1, c.line.ensures.short);
    }
