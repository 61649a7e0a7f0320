use Rattle.std.proofs.Common.{◌≡◌, ℕ, ◌-◌, ◌==◌, List, ◌++◌, ap, sym, ◌∙◌, arith}
use Rattle.ircline.specs.Reading.{last_param, params_at}
use Rattle.ircline.proofs.ParamLemmas.{params_at-zero, params_at-last, params_step}
use Rattle.ircline.proofs.read.middles_of.Goals as goal
use Rattle.ircline.proofs.read.middles_of.Goals.{else-loop-test, then-loop-test+then-is_last}

pub loop-preserved : goal.loop-preserved
loop-preserved c =
    let parts = c.parted.ensures (λ b. b == 32) c.find_byte.ensures in
    params_step c.loop.params.items _ c.in_ok-from_slice.field-0 c.loop.text.now c.parted.result.1.now _ _ c.loop.counter (omega arith)
    c.loop.invariant (sym c.is_last.ensures ∙ c.if-is_last.false) (c.in_ok-from_slice.ensures
    ∙ parts.0) parts.1 c.without_spaces-text-in-loop.ensures c.in_ok-push.ensures.items

pub returns : goal.returns
returns c =
    let last : params_at (14 - c.loop.counter) c.loop.text.now ≡ last_param c.loop.text.now =
    elim c.loop-test.branch [
      | else-loop-test w ↦ ap (λ (n : ℕ). params_at n c.loop.text.now) (omega arith) ∙ params_at-zero c.loop.text.now
      | then-loop-test+then-is_last w ↦ params_at-last (14 - c.loop.counter) c.loop.text.now (sym w.is_last.ensures ∙ w.if-is_last.true)
    ] in
    ap (λ (x : List (List ℕ)). c.loop.params.items ++ x) (sym last) ∙ c.loop.invariant
