use Rattle.std.proofs.Common.{◌≢◌, ◌<◌, ◌∙◌, ap, sym, ◌∷◌, length, get_or, arith}
use Rattle.std.specs.Option.{option_copied}
use Rattle.std.proofs.lemmas.Bool.{eqb-false, true≢false}
use Rattle.bottimers.proofs.Cuts.{fields_of-cut, fields_rest, rest_after}
use Rattle.bottimers.proofs.cron_text.take_field.Goals.{then-loop-rest-test+else-rest-eq32, else-loop-rest-test}
use Rattle.bottimers.proofs.cron_text.take_field.Goals as goal

pub returns-in-Some : goal.returns-in-Some
returns-in-Some c =
    let rest = c.loop-rest.rest.now in
    let some : 0 < length rest = let filled = eqb-false _ _ (sym c.is_empty-2.ensures ∙ c.if-is_empty.false) in omega arith in
    let begins : get_or rest 0 0 ≢ 32 = elim c.loop-rest-test.branch [
      | then-loop-rest-test+else-rest-eq32 w ↦ w.if-rest-eq32.false
      | else-loop-rest-test w ↦ absurd (true≢false (sym w.loop-rest-test.false ∙ c.is_empty.ensures ∙ sym c.is_empty-2.ensures ∙ c.if-is_empty.false))
    ] in
    sym c.loop-rest.invariant
    ∙ fields_of-cut rest some begins
    ∙ ap (λ f. f ∷ fields_rest (rest_after 32 rest)) (sym c.cut.ensures.front)
    ∙ ap (λ r. c.cut.result.0.now ∷ fields_rest r) (sym c.cut.ensures.back ∙ ap option_copied c.in-Some.is)

pub returns-in-None : goal.returns-in-None
returns-in-None c =
    let rest = c.loop-rest.rest.now in
    let some : 0 < length rest = let filled = eqb-false _ _ (sym c.is_empty-2.ensures ∙ c.if-is_empty.false) in omega arith in
    let begins : get_or rest 0 0 ≢ 32 = elim c.loop-rest-test.branch [
      | then-loop-rest-test+else-rest-eq32 w ↦ w.if-rest-eq32.false
      | else-loop-rest-test w ↦ absurd (true≢false (sym w.loop-rest-test.false ∙ c.is_empty.ensures ∙ sym c.is_empty-2.ensures ∙ c.if-is_empty.false))
    ] in
    sym c.loop-rest.invariant
    ∙ fields_of-cut rest some begins
    ∙ ap (λ f. f ∷ fields_rest (rest_after 32 rest)) (sym c.cut.ensures.front)
    ∙ ap (λ r. c.cut.result.0.now ∷ fields_rest r) (sym c.cut.ensures.back ∙ ap option_copied c.in-None.is)
