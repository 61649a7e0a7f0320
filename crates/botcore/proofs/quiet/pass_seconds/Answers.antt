use Rattle.std.proofs.Common.{◌∙◌, sym}
use Rattle.botcore.proofs.StillLemmas.{passed_more, above_more, passed_end}
use Rattle.botcore.proofs.quiet.pass_seconds.Goals as goal

pub loop-second-preserved : goal.loop-second-preserved
loop-second-preserved c = record {
  above = above_more c.loop-second.timers c.loop-second.second c.args.last c.pass.new.self c.pass.ensures;
  rest = passed_more c.loop-second.timers c.loop-second.second c.args.last c.pass.new.self c.loop-second-test.true c.pass.ensures
      ∙ c.loop-second.invariant.rest;
}

pub returns : goal.returns
returns c =
    sym (passed_end c.loop-second.timers c.loop-second.second c.args.last c.loop-second-test.false) ∙ c.loop-second.invariant.rest
