use Rattle.std.proofs.Common.{◌≡◌, ◌∙◌, ◌-◌, min, length, get_or, refl, length-set, arith, rules}
use Rattle.peers.specs.declared.queue.TheConstants.{MAX_PACKETS}
use Rattle.peers.proofs.WaitingLemmas.{asks-one, rest-same, serves-one}
use Rattle.peers.proofs.inbox.ask_all.Goals as goal

pub loop-queue-preserved : goal.loop-queue-preserved
loop-queue-preserved c =
    let old = c.loop-queue in
    let one : c.min-served.result ≡ min 1 (MAX_PACKETS - length old.packets.items) = search rules in (
      asks-one c.args.queues.now old.queues old.queue-index old.packets.items c.give.new.packets.items old.served
          c.min-served.result (get_or old.queues old.queue-index c.queue-item.result) c.give.new.self c.queue-item.result
          c.loop-queue-test.true (omega arith) refl old.invariant.1
          old.invariant.0 c.give.ensures.given c.give.ensures.left one,
      rest-same old.queues c.args.queues.now old.queue-index c.give.new.self old.invariant.1,
      length-set old.queues old.queue-index c.give.new.self ∙ old.invariant.2,
      c.give.ensures.few,
      c.give.ensures.room ∙ old.invariant.4,
      c.give.ensures.good old.invariant.5,
      serves-one old.served c.min-served.result old.queue-index (MAX_PACKETS - length old.packets.items) one old.invariant.6,
    )
