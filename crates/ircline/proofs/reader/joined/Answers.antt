use Rattle.std.proofs.Common.{◌≡◌, ℕ, List, ◌++◌, ◌-◌, length, length-take, take, ap, ◌∙◌, arith}
use Rattle.std.proofs.Common.{length-append}
use Rattle.bytetext.proofs.Errors.{at_err}
use Rattle.ircline.proofs.StreamLemmas.{take_joined}
use Rattle.ircline.proofs.reader.joined.Goals as goal

pub returns-in_err-run-clause-memory : goal.returns-in_err-run-clause-memory
returns-in_err-run-clause-memory c =
    let front = ap length c.first_bytes-front.ensures.bytes ∙ length-take 511 c.args.front.now in
    let both = length-append c.args.front.now c.args.back.now in
    at_err c.from_residual.result (omega (arith, front, both, c.in_err-run.ensures))

pub returns-in_err-extend_from_slice-clause-memory : goal.returns-in_err-extend_from_slice-clause-memory
returns-in_err-extend_from_slice-clause-memory c =
    let front = ap length c.first_bytes-front.ensures.bytes ∙ length-take 511 c.args.front.now in
    let back = ap length c.first_bytes.ensures.bytes ∙ length-take (511 - length c.first_bytes-front.result.now) c.args.back.now in
    let run = ap length c.in_ok-run.ensures in
    let both = length-append c.args.front.now c.args.back.now in
    at_err c.from_residual-in_err-extend_from_slice.result
    (omega (arith, front, back, run, both, c.in_err-extend_from_slice.ensures.full, c.in_ok-run.run'.ok.0))

pub returns-clause-run : goal.returns-clause-run
returns-clause-run c =
    let front : c.in_ok-run.run'.items ≡ take 511 c.args.front.now = c.in_ok-run.ensures ∙ c.first_bytes-front.ensures.bytes in
    let back : c.first_bytes.result.now ≡ take (511 - length (take 511 c.args.front.now)) c.args.back.now = c.first_bytes.ensures.bytes
    ∙ ap (λ (f : List ℕ). take (511 - length f) c.args.back.now) c.first_bytes-front.ensures.bytes in
    c.in_ok-extend_from_slice.ensures.items ∙ ap (λ (f : List ℕ). f ++ c.first_bytes.result.now) front
    ∙ ap (λ (b : List ℕ). take 511 c.args.front.now ++ b) back ∙ take_joined 511 c.args.front.now c.args.back.now
