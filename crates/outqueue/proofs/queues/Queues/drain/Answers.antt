use Rattle.std.proofs.Common.{◌<◌, ◌≤◌, ◌++◌, length, sym, ap, ◌∙◌, subst, arith}
use Rattle.outqueue.specs.Sending.{Sending, waiting, sent, after_line, IsGreatest}
use Rattle.outqueue.proofs.Drains.{Drained, Drained_more, Drained-room, Drained-sent, Drained-after, IsGreatest-Drained}
use Rattle.outqueue.proofs.Drains.{length-waiting-after_line, waiting-after, room-after, few-sent}
use Rattle.outqueue.proofs.queues.Queues.drain.Goals as goal

pub push_reserved-requires : goal.push_reserved-requires
push_reserved-requires c =
    let room = Drained-room c.args.self.now c.args.now c.loop-line.lines.items c.in-Some.line c.loop-line.self
    c.loop-line.invariant.drained (sym c.in-Some.ensures.line) in
    omega (arith, room, c.loop-line.invariant.room, c.loop-line.lines.ok)

pub loop-line-smaller : goal.loop-line-smaller
loop-line-smaller c =
    subst (λ q. length (waiting q) < length (waiting c.loop-line.self)) (sym c.take.ensures.after)
    (length-waiting-after_line c.loop-line.self c.args.now c.in-Some.line (sym c.in-Some.ensures.line))

pub loop-line-preserved : goal.loop-line-preserved
loop-line-preserved c =
    record {
      drained =
          subst (λ q. Drained c.args.self.now c.args.now c.push_reserved.new.self.items q) (sym c.take.ensures.after)
          (subst (λ lines. Drained c.args.self.now c.args.now lines (after_line c.loop-line.self c.args.now)) (sym c.push_reserved.ensures.items)
          (Drained_more c.args.self.now c.args.now c.loop-line.lines.items c.in-Some.line c.loop-line.self
          c.loop-line.invariant.drained (sym c.in-Some.ensures.line)));
      room = omega (arith, c.loop-line.invariant.room, c.push_reserved.ensures.capacity);
    }

pub returns-clause-lines : goal.returns-clause-lines
returns-clause-lines c =
    c.new.ensures ∙ Drained-sent c.args.self.now c.args.now c.loop-line.lines.items c.loop-line.self
    c.loop-line.invariant.drained (sym c.in_default.ensures.line)

pub returns-clause-after : goal.returns-clause-after
returns-clause-after c =
    c.take.ensures.after ∙ Drained-after c.args.self.now c.args.now c.loop-line.lines.items c.loop-line.self
    c.loop-line.invariant.drained (sym c.in_default.ensures.line)

pub returns-clause-greatest : goal.returns-clause-greatest
returns-clause-greatest c =
    subst (IsGreatest c.args.self.now c.args.now) (sym c.new.ensures)
    (IsGreatest-Drained c.args.self.now c.args.now c.loop-line.lines.items c.loop-line.self c.loop-line.invariant.drained (sym c.in_default.ensures.line))

pub returns-clause-rest : goal.returns-clause-rest
returns-clause-rest c =
    sym (ap (λ lines. lines ++ waiting c.take.new.self) (returns-clause-lines c)
    ∙ ap (λ q. sent c.args.self.now c.args.now ++ waiting q) (returns-clause-after c)
    ∙ waiting-after c.args.self.now c.args.now)

pub returns-clause-room : goal.returns-clause-room
returns-clause-room c = ap (λ (q : Sending). q.room) (returns-clause-after c) ∙ room-after c.args.self.now c.args.now

pub returns-clause-few : goal.returns-clause-few
returns-clause-few c =
    subst (λ lines. length lines ≤ 5) (sym (returns-clause-lines c)) (few-sent c.args.self.now c.args.now)
