use Rattle.std.proofs.Common.{◌≡◌, drop, true}
use Rattle.chanstate.specs.Items.{markings, singles}
use Rattle.chanstate.specs.Steps.{each_step}
use Rattle.chanstate.proofs.state.ChanState.mode.Given as goal

-- the modes of the bytes that are left lead from here to where all lead from the start, and what the server has announced stays
abbrev pub invariant-loop-byte : goal.invariant-loop-byte
invariant-loop-byte l = record {
  support : l.self.support ≡ l.initial.self.support;
  marks : each_step (markings l.initial.self.support l.channel (singles l.initial.self.support l.on (drop l.byte-index l.string) l.rest)) l.self
      ≡ each_step (markings l.initial.self.support l.channel (singles l.initial.self.support true l.string l.arguments)) l.initial.self;
}
