use Rattle.std.proofs.Common.{◌≡◌, None}
use Rattle.indexmap.specs.IndexMap.{values}
use Rattle.userfile.specs.Index.{asked}
use Rattle.userfile.specs.Search.{after_listings}
use Rattle.userfile.proofs.persons.best_claim.Given as goal

-- the best of what stands under the shorter ends
abbrev pub invariant-loop-len : goal.invariant-loop-len
invariant-loop-len l = l.best ≡ after_listings l.mapping l.who (values l.users) (asked l.index l.who l.len) None
