use Rattle.std.proofs.Common.{◌≡◌, ◌∙◌, ap, sym, ◌+◌, ◌-◌, ◌*◌, drop, arith, get_or, []}
use Rattle.std.proofs.lemmas.List.{drop_all}
use Rattle.recordtext.specs.Words.{below, value_of}
use Rattle.recordtext.proofs.Values.{together, together-more, below-together, below-some}
use Rattle.recordtext.proofs.numeral.value_of.Goals as goal

pub returns-in_err-checked_mul : goal.returns-in_err-checked_mul
returns-in_err-checked_mul c =
    let h = c.in_err-checked_mul.ensures in
    c.from_residual.ensures ∙ sym (below-together _ (c.loop-byte.value * 10 + (get_or c.args.word.now c.loop-byte.byte-index 0 - 48)) _ _
    (sym (together-more c.loop-byte.value c.loop-byte.byte-index c.args.word.now (omega arith)) ∙ c.loop-byte.invariant.0) (omega arith))

pub returns-in_err-value : goal.returns-in_err-value
returns-in_err-value c =
    let h = c.in_err-value.ensures in
    let m = c.in_ok-checked_mul.ensures in
    c.from_residual-in_err-value.ensures ∙ sym (below-together _ (c.loop-byte.value * 10 + (get_or c.args.word.now c.loop-byte.byte-index 0 - 48)) _ _
    (sym (together-more c.loop-byte.value c.loop-byte.byte-index c.args.word.now (omega arith)) ∙ c.loop-byte.invariant.0) (omega arith))

pub loop-byte-preserved : goal.loop-byte-preserved
loop-byte-preserved c =
    let a = c.in_ok-value.ensures in
    let m = c.in_ok-checked_mul.ensures in
    let same : c.in_ok-value.value ≡ c.loop-byte.value * 10 + (get_or c.args.word.now c.loop-byte.byte-index 0 - 48) = omega arith in (
      ap (λ v. together v (drop (c.loop-byte.byte-index + 1) c.args.word.now)) same
          ∙ sym (together-more c.loop-byte.value c.loop-byte.byte-index c.args.word.now (omega arith)) ∙ c.loop-byte.invariant.0,
      omega arith,
    )

pub returns : goal.returns
returns c =
    let none : drop c.loop-byte.byte-index c.args.word.now ≡ [] = drop_all c.loop-byte.byte-index c.args.word.now (omega arith) in
    let whole : together c.loop-byte.value [] ≡ value_of c.args.word.now = ap (together c.loop-byte.value) (sym none) ∙ c.loop-byte.invariant.0 in
    let same : c.loop-byte.value ≡ value_of c.args.word.now = omega (arith, whole) in
    sym (ap (below _) (sym same) ∙ below-some _ c.loop-byte.value (omega arith))
