use Rattle.std.proofs.Common.{◌-◌, length, arith, sym, ◌∙◌}
use Rattle.std.proofs.lemmas.Bool.{eq-eqb}
use Rattle.rfccase.proofs.SameLemmas.{differ_at_by}
use Rattle.rfccase.proofs.folds.same_by.Goals as goal

pub returns-then-not-is_same_byte : goal.returns-then-not-is_same_byte
returns-then-not-is_same_byte c = (
  λ h. cc,
  λ same. absurd (differ_at_by c.args.mapping c.args.a.now c.args.b.now (length c.args.a.now - 1) (omega arith) (omega arith)
      (λ e. let is = eq-eqb _ _ e in let apart = sym c.is_same_byte.ensures ∙ c.if-not-is_same_byte.true in cc) same),
)

pub returns-then-not-is_same_byte-2 : goal.returns-then-not-is_same_byte-2
returns-then-not-is_same_byte-2 c = (
  λ h. cc,
  λ same. absurd (differ_at_by c.args.mapping _ _ c.loop-i.i (omega arith) (omega arith)
      (λ e. let is = eq-eqb _ _ e in let apart = sym c.is_same_byte-in-loop-i.ensures ∙ c.if-not-is_same_byte-2.true in cc) same),
)
