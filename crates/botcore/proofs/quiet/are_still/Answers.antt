use Rattle.std.proofs.Common.{◌∙◌, sym, arith}
use Rattle.botcore.proofs.StillLemmas.{above_later, still_more, still_stop, still_end}
use Rattle.botcore.proofs.quiet.are_still.Goals as goal

pub is_still-requires : goal.is_still-requires
is_still-requires c =
    above_later c.args.timers.now.last c.args.first c.loop-second.second c.requires.above c.loop-second.invariant.after

pub loop-second-preserved : goal.loop-second-preserved
loop-second-preserved c = record {
  after = omega (arith, c.loop-second.invariant.after);
  rest = still_more c.args.timers.now.timers c.loop-second.second c.args.last c.loop-second-test.true
      (sym c.is_still.ensures ∙ c.if-not-is_still.false) ∙ c.loop-second.invariant.rest;
}

pub returns-then-not-is_still : goal.returns-then-not-is_still
returns-then-not-is_still c =
    sym (still_stop c.args.timers.now.timers c.loop-second.second c.args.last c.loop-second-test.true
    (sym c.is_still.ensures ∙ c.if-not-is_still.true)) ∙ c.loop-second.invariant.rest

pub returns : goal.returns
returns c =
    sym (still_end c.args.timers.now.timers c.loop-second.second c.args.last c.loop-second-test.false) ∙ c.loop-second.invariant.rest
