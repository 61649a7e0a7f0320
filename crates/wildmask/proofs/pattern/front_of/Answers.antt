use Rattle.std.proofs.Common.{◌≡◌, ◌-◌, ℕ, true, get_or, subst, sym, ◌∙◌, arith, inl, inr}
use Rattle.std.proofs.lemmas.Bool.{cases_eq}
use Rattle.wildmask.specs.Codes.{decoded}
use Rattle.wildmask.specs.Items.{is_literal}
use Rattle.wildmask.proofs.TailLemmas.{front_is}
use Rattle.wildmask.proofs.pattern.front_of.Goals as goal

pub loop-front-preserved : goal.loop-front-preserved
loop-front-preserved c = record {
  within = omega (arith, c.loop-front.invariant.within);
  literals = λ k late early. elim (cases_eq k (c.loop-front.front - 1)) [
    | inl same ↦ subst (λ (i : ℕ). is_literal (decoded (get_or c.args.codes.now i 0)) ≡ true) (sym same)
        (sym c.is_literal.ensures ∙ c.if-is_literal.true)
    | inr other ↦ c.loop-front.invariant.literals k (omega arith) early
  ];
}

pub returns-else-is_literal-clause-value : goal.returns-else-is_literal-clause-value
returns-else-is_literal-clause-value c = front_is c.args.codes.now c.loop-front.front c.loop-front.invariant.within c.loop-front.invariant.literals
    (λ some. sym c.is_literal.ensures ∙ c.if-is_literal.false)

pub returns-after-loop-front-clause-value : goal.returns-after-loop-front-clause-value
returns-after-loop-front-clause-value c = front_is c.args.codes.now c.loop-front.front c.loop-front.invariant.within c.loop-front.invariant.literals
    (λ some. absurd (omega (arith, c.loop-front-test.false, some)))
