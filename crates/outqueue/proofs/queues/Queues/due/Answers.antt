use Rattle.std.proofs.Common.{◌≡◌, length, ap, arith}
use Rattle.outqueue.specs.Sending.{Sending, sent, count_at}
use Rattle.outqueue.proofs.Drains.{length-sent}
use Rattle.outqueue.proofs.queues.Queues.due.Goals as goal

pub returns : goal.returns
returns c =
    let count : length (sent c.args.self.now c.args.now) ≡ count_at c.args.self.now c.args.now = length-sent c.args.self.now c.args.now in
    let timer : c.self.inside.timer ≡ c.args.self.now.timer = ap (λ (q : Sending). q.timer) c.self.view_is in
    omega (arith, c.max.ensures, c.saturating_sub-behind.ensures, c.len.ensures.lines, c.min.ensures)
