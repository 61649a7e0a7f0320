use Rattle.botrun.proofs.QuietLemmas.{binds_good, binds_quietly, binds_taken}
use Rattle.botrun.proofs.deeds.step_bind.Goals as goal

pub watched_step-report-requires : goal.watched_step-report-requires
watched_step-report-requires g c = record {
  good = binds_good c.args.event c.requires.bind;
  takes = binds_taken (g.W.Watcher.past c.args.watcher.now) c.args.event c.requires.bind;
  watched = c.requires.watched;
}

pub returns : goal.returns
returns g c =
    let step = c.watched_step-report in
    binds_quietly _ _ _ _ _ _ _ c.args.event step.result c.requires.bind step.ensures.takes step.ensures.past step.ensures.follows step.ensures.watched
