use Rattle.std.proofs.Common.{map, take}
use Rattle.botworld.specs.Standing.{Past, Stands}
use Rattle.replay.specs.Deeds.{Makes}
use Rattle.replay.specs.Doing.{Does}
use Rattle.replay.proofs.transcripts.put_steps.Given as goal

-- the steps so far are done
abbrev pub invariant-loop-step : goal.invariant-loop-step
invariant-loop-step g l = (past : Past) → Stands g.P.Promise.promised l.fn.world past
    → Does g.P.Promise.promised past (map Makes (take l.step-index l.steps)) l.world l.fn.text.items l.text.items
