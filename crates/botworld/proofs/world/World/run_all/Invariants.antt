use Rattle.std.proofs.Common.{◌≡◌, ◌≤◌, length, take, vec_len, vec_capacity}
use Rattle.botworld.specs.Standing.{Past, Stands, LeadsTo}
use Rattle.botworld.proofs.world.World.run_all.Given as goal

-- the steps so far, with their outcomes, lead to the world as it is, and there is room for all outcomes
abbrev pub invariant-loop-step : goal.invariant-loop-step
invariant-loop-step g l = record {
  count : length l.outcomes.items ≡ l.step-index;
  len : vec_len l.outcomes ≡ l.step-index;
  room : length l.steps ≤ vec_capacity l.outcomes;
  leads : (past : Past) → Stands g.P.Promise.promised l.fn.self past
      → LeadsTo g.P.Promise.promised past (take l.step-index l.steps) l.outcomes.items l.self;
}
