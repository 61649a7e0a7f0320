use Rattle.std.proofs.Common.{◌≡◌, map}
use Rattle.std.specs.List.{filter_map}
use Rattle.std.specs.Map.{values_of}
use Rattle.chanstate.specs.Items.{named}
use Rattle.chanstate.specs.Seats.{AreUnder}
use Rattle.chanstate.proofs.newcomers.named_by.Given as goal

-- those whom the words so far name
abbrev pub invariant-loop-word : goal.invariant-loop-word
invariant-loop-word l = record {
  keyed : AreUnder l.mapping l.ones.items;
  named : values_of l.ones.items ≡ filter_map (named l.support) (map (λ x. x.now) l.yielded);
}
