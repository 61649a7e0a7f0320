use Rattle.std.proofs.Common.{◌≡◌}
use Rattle.net.specs.Connections.{Grows, Holds, Ledger, talk_of}
use Rattle.net.proofs.ConnectionLemmas.{HeardSo}
use Rattle.net.proofs.connection.Connection.read.Given as goal

-- each read so far asked the stream
abbrev pub invariant-loop : goal.invariant-loop
invariant-loop g l = record {
  reads : HeardSo l.fn.self.bounds.heard l.counter (talk_of l.fn.self) l.came (talk_of l.self);
  grows : Grows l.fn.self.heard.items l.self.heard.items;
  bounds : l.self.bounds ≡ l.fn.self.bounds;
  holds : (ledger : Ledger)
      → Holds ledger (g.S.Stream.source l.fn.self.stream) (g.S.Stream.sink l.fn.self.stream) l.fn.self.heard.items l.fn.self.unsent.items
      → Holds ledger (g.S.Stream.source l.self.stream) (g.S.Stream.sink l.self.stream) l.self.heard.items l.self.unsent.items;
}
