use Rattle.std.proofs.Common.{◌≡◌, ◌≤◌, ℕ, false, true, length}
use Rattle.chanstate.specs.Members.{renamed}
use Rattle.chanstate.specs.Takes.{given, is_taken}
use Rattle.chanstate.proofs.TakeLemmas.{front_on}
use Rattle.chanstate.proofs.channels.Channels.ready_renaming.Given as goal

-- the channels so far are made ready, and nothing was taken from the others
abbrev pub invariant-loop-at : goal.invariant-loop-at
invariant-loop-at l = record {
  len : length l.self ≡ length l.initial.self;
  fresh : (i : ℕ) → l.at ≤ i → is_taken i l.takes.items ≡ false;
  back : given false l.takes.items l.self ≡ l.initial.self;
  done : given true l.takes.items l.self ≡ front_on l.at (renamed l.mapping l.old l.new) l.initial.self;
}
