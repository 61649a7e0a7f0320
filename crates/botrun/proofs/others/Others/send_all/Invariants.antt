use Rattle.std.proofs.Common.{◌≡◌, length}
use Rattle.sharelink.specs.Shapes.{AreGood}
use Rattle.watching.specs.Acts.{sent_by}
use Rattle.watching.specs.Following.{LetsSend, after_sends}
use Rattle.botrun.proofs.others.Others.send_all.Given as goal

-- nobody is asked or answered, and the packets that are left may be queued
abbrev pub invariant-loop-outgoing : goal.invariant-loop-outgoing
invariant-loop-outgoing g l = record {
  good : AreGood l.rest;
  lets : LetsSend g.W.Watcher.may (g.W.Watcher.past l.watcher) l.rest;
  past : after_sends l.rest (g.W.Watcher.past l.watcher) ≡ after_sends l.fn.packets (g.W.Watcher.past l.fn.watcher);
  told : l.self.mail.account.told ≡ sent_by (g.W.Watcher.past l.watcher);
  asks : l.self.asks ≡ l.fn.self.asks;
}

abbrev pub decreases-loop-outgoing : goal.decreases-loop-outgoing
decreases-loop-outgoing g l = length l.rest
