use Rattle.std.proofs.Common.{◌≡◌, map, false, not}
use Rattle.std.specs.List.{filter_map, list_any}
use Rattle.chanstate.specs.Items.{named}
use Rattle.chanstate.specs.Members.{has_member}
use Rattle.chanstate.proofs.roster.Roster.lacks_any.Given as goal

-- no word so far names someone else
abbrev pub invariant-loop-word : goal.invariant-loop-word
invariant-loop-word l = list_any (λ one. not (has_member l.mapping one.nick l.self)) (filter_map (named l.support) (map (λ x. x.now) l.yielded)) ≡ false
