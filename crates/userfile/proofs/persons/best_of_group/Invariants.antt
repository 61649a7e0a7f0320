use Rattle.std.proofs.Common.{◌≡◌, length}
use Rattle.indexmap.specs.IndexMap.{values}
use Rattle.userfile.specs.Search.{after_listings}
use Rattle.userfile.proofs.persons.best_of_group.Given as goal

-- the listings that are left make of the best so far what all make of the one at the start
abbrev pub invariant-loop-mapping : goal.invariant-loop-mapping
invariant-loop-mapping l = after_listings l.mapping l.who (values l.users) l.rest l.so_far ≡ after_listings l.mapping l.who (values l.users) l.group l.fn.best

abbrev pub decreases-loop-mapping : goal.decreases-loop-mapping
decreases-loop-mapping l = length l.rest
