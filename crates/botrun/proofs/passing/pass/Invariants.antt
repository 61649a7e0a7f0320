use Rattle.std.proofs.Common.{◌≡◌, length}
use Rattle.serverlink.specs.Talks.{talk_in}
use Rattle.watching.specs.Acts.{sent_by}
use Rattle.watching.specs.Following.{LetsSend, after_sends}
use Rattle.turns.specs.Queues.{packets_in}
use Rattle.turns.specs.Turns.{AllGood}
use Rattle.botrun.specs.Askers.{turn_askers}
use Rattle.botrun.specs.Passing.{told_of}
use Rattle.botrun.proofs.passing.pass.Given as goal

-- the reports that are left say what is still queued and who waits then
abbrev pub invariant-loop-report : goal.invariant-loop-report
invariant-loop-report g l = record {
  good : AllGood l.rest;
  lets : LetsSend g.W.Watcher.may (g.W.Watcher.past l.watcher) (packets_in l.rest);
  past : after_sends (packets_in l.rest) (g.W.Watcher.past l.watcher)
      ≡ after_sends (packets_in l.fn.told.reports) (g.W.Watcher.past l.fn.watcher);
  told : l.others.mail.account.told ≡ sent_by (g.W.Watcher.past l.watcher);
  server : told_of l.rest (talk_in l.uplink.session) ≡ told_of l.fn.told.reports (talk_in l.fn.uplink.session);
  asker : l.others.asks.asker ≡ l.fn.others.asks.asker;
  asks : turn_askers l.is_leaf l.fn.pumped l.fn.others.asks.asker l.others.asks.askers.items l.rest
      ≡ turn_askers l.is_leaf l.fn.pumped l.fn.others.asks.asker l.fn.others.asks.askers.items l.fn.told.reports;
}

abbrev pub decreases-loop-report : goal.decreases-loop-report
decreases-loop-report g l = length l.rest
