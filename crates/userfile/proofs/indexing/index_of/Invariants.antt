use Rattle.std.proofs.Common.{take}
use Rattle.indexmap.specs.IndexMap.{values}
use Rattle.userfile.specs.Index.{Covers, Names}
use Rattle.userfile.proofs.indexing.index_of.Given as goal

-- the users so far stand under the tails of their masks, and nothing else stands there
abbrev pub invariant-loop-place : goal.invariant-loop-place
invariant-loop-place l = record { covers : Covers l.index 0 (take l.place (values l.users)); names : Names l.index (values l.users) }
