use Rattle.std.proofs.Common.{◌∙◌, ap, sym}
use Rattle.std.specs.List.{list_all}
use Rattle.botcore.specs.Quiet.{is_still}
use Rattle.botcore.proofs.StillLemmas.{above_first}
use Rattle.botcore.proofs.quiet.are_still_until.Goals as goal

pub are_still-requires : goal.are_still-requires
are_still-requires c = record {
  above = above_first c.args.timers.now.last c.args.last c.first_second.result c.requires.reached c.first_second.ensures.above;
  moment = c.requires.moment;
}

pub returns : goal.returns
returns c = c.are_still.ensures ∙ ap (list_all (is_still c.args.timers.now.timers)) (sym c.first_second.ensures.seconds)
