use Rattle.std.proofs.Common.{◌∙◌, Some, ap, sym, subst}
use Rattle.bottimers.specs.Held.{Held}
use Rattle.botcore.specs.Happenings.{passed_all}
use Rattle.botcore.specs.Rising.{IsReached}
use Rattle.botcore.proofs.RunningLemmas.{passed_run}
use Rattle.botcore.proofs.StillLemmas.{above_first}
use Rattle.botcore.proofs.quiet.pass_until.Goals as goal

pub pass_seconds-requires : goal.pass_seconds-requires
pass_seconds-requires c = record {
  above = above_first c.args.timers.now.last c.args.last c.first_second.result c.requires.reached c.first_second.ensures.above;
  moment = c.requires.moment;
}

pub returns-clause-passed : goal.returns-clause-passed
returns-clause-passed c = c.pass_seconds.ensures ∙ ap (passed_all c.args.timers.now) (sym c.first_second.ensures.seconds)

pub returns-clause-reached : goal.returns-clause-reached
returns-clause-reached c =
    let passed = c.pass_seconds.ensures ∙ ap (passed_all c.args.timers.now) (sym c.first_second.ensures.seconds) in
    subst (λ (h : Held). IsReached h.last (Some c.args.now)) (sym passed)
    (passed_run c.args.last c.args.timers.now c.args.now c.requires.reached c.requires.above)
