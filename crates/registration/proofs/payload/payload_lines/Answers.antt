use Rattle.std.proofs.Common.{List, ℕ, [], ◌∷◌, ◌++◌, take, ap, ◌∙◌}
use Rattle.registration.specs.declared.limits.TheConstants.{PIECE}
use Rattle.registration.specs.Payloads.{payload_lines, piece_line}
use Rattle.registration.proofs.PayloadLemmas.{more_lines}
use Rattle.registration.proofs.payload.payload_lines.Goals as goal

pub loop-rest-preserved : goal.loop-rest-preserved
loop-rest-preserved c =
    let line = c.in_ok-piece_line.ensures ∙ ap piece_line c.split_at.ensures.front in
    let lines = c.in_ok-push.ensures.ok ∙ ap (λ (l : List ℕ). c.loop-rest.lines ++ l ∷ []) line in
    ap (λ (l : List (List ℕ)). l ++ payload_lines c.split_at.result.1.now) lines
    ∙ ap (λ (t : List ℕ). (c.loop-rest.lines ++ piece_line (take PIECE c.loop-rest.rest.now) ∷ []) ++ payload_lines t) c.split_at.ensures.back
    ∙ more_lines c.loop-rest.lines c.loop-rest.rest.now c.loop-rest-test.true
    ∙ c.loop-rest.invariant
