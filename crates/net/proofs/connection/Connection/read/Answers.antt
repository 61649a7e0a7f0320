use Rattle.std.proofs.Common.{ap, ◌||◌, rules}
use Rattle.net.specs.Connections.{talk_of}
use Rattle.net.proofs.ConnectionLemmas.{asks_at, grows_more, hears_at, one_read_more, reads_fewer}
use Rattle.net.proofs.connection.Connection.read.Goals as goal

pub returns-in_err-ask-clause-fewer : goal.returns-in_err-ask-clause-fewer
returns-in_err-ask-clause-fewer g c =
    let asked = asks_at c.args.self.now.bounds.heard c.loop.self.bounds.heard (talk_of c.loop.self) (search rules) (search rules) (search rules) (search rules) in
    let fewer = reads_fewer c.args.pieces c.args.self.now.bounds.heard c.loop.counter (talk_of c.args.self.now) (talk_of c.loop.self) (talk_of c.ask.new.self)
    c.loop.came c.loop.invariant.reads (search rules) asked (search rules) in
    search (rules, fewer)

pub loop-preserved : goal.loop-preserved
loop-preserved g c = record {
  reads = one_read_more c.args.self.now.bounds.heard c.loop.counter (talk_of c.args.self.now) (talk_of c.loop.self) (talk_of c.ask.new.self)
      c.loop.came _ c.in_ok-ask.field-0 c.loop.invariant.reads
      (asks_at c.args.self.now.bounds.heard c.loop.self.bounds.heard (talk_of c.loop.self) (search rules) (search rules) (search rules) (search rules))
      (hears_at c.args.self.now.bounds.heard c.loop.self.bounds.heard (talk_of c.loop.self) c.in_ok-ask.field-0 (talk_of c.ask.new.self)
      (search rules) c.in_ok-ask.ensures.heard (search rules) (search rules) c.in_ok-ask.ensures.over c.in_ok-ask.ensures.ready c.in_ok-ask.ensures.sink
      c.in_ok-ask.ensures.unsent)
      (ap (λ b. c.loop.came || b) c.brings.ensures);
  grows = grows_more _ _ _ c.args.self.now.heard.items c.loop.self.heard.items c.ask.new.self.heard.items c.in_ok-ask.field-0 c.loop.invariant.grows c.in_ok-ask.ensures.heard;
  bounds = search rules;
  holds = λ ledger holds. c.ask.ensures.holds ledger (c.loop.invariant.holds ledger holds);
}
