use Rattle.std.proofs.Common.{◌≡◌, map}
use Rattle.std.specs.List.{filter_map}
use Rattle.chanstate.specs.Items.{named}
use Rattle.chanstate.specs.Members.{shown_each}
use Rattle.chanstate.proofs.roster.Roster.show_all.Given as goal

-- the words so far are shown
abbrev pub invariant-loop-word : goal.invariant-loop-word
invariant-loop-word l = l.self ≡ shown_each l.mapping (filter_map (named l.support) (map (λ x. x.now) l.yielded)) l.initial.self
