use Rattle.std.proofs.Common.{◌↔◌, ◌+◌, ◌*◌, ◌≤◌, drop, length}
use Rattle.wildmask.specs.Codes.{items_in}
use Rattle.wildmask.specs.Matching.{Matches}
use Rattle.wildmask.specs.Walks.{MatchesFrom, IsClosed, IsIdle}
use Rattle.wildmask.proofs.walks.walk.Given as goal

-- the items match the text where those from some place on match what is left
abbrev pub invariant-loop-byte : goal.invariant-loop-byte
invariant-loop-byte l =
    record {
      counted : l.count.steps ≤ l.fn.count.steps + length l.codes * l.byte-index;
      closed : IsClosed (items_in l.codes) l.places.bits;
      same : Matches l.mapping (items_in l.codes) l.text ↔ MatchesFrom l.mapping 0 (items_in l.codes) l.places.bits (drop l.byte-index l.text);
      idle : IsIdle l.mapping (items_in l.codes) l.places.bits l.idle;
    }
