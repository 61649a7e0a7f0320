use Rattle.std.proofs.Common.{◌∙◌, ap, get_or}
use Rattle.replay.proofs.Doings.{outcome_put, uncut-one}
use Rattle.replay.proofs.transcripts.put_step.Goals as goal

pub returns : goal.returns
returns g c =
    let run = c.run-transcript.ensures in
    outcome_put g.P.Promise.promised c.put_outcome.result c.args.world.now c.run-transcript.new.self c.args.step.now c.from_ref.result.now
    c.index-as_slice-0.result c.run-transcript.result.outcomes _ _ c.from_ref.ensures.value
    (uncut-one _ _ _ c.from_ref.ensures.len run.whole c.if-transcript.false run.at_most)
    (c.index-as_slice-0.is ∙ ap (λ outcomes. get_or outcomes 0 c.index-as_slice-0.result) c.as_slice.ensures) run.leads c.put_outcome.ensures.made
    c.put_outcome.ensures.added
