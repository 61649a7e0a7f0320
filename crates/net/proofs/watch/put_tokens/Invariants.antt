use Rattle.std.proofs.Common.{◌≡◌, ◌++◌, map, vec_capacity}
use Rattle.std.specs.Slice.Iter.{iter_rest}
use Rattle.mio.specs.Event.{event_token}
use Rattle.mio.specs.Events.{items}
use Rattle.net.proofs.watch.put_tokens.Given as goal

-- the tokens so far, and those of the events that are left
abbrev pub invariant-loop-event : goal.invariant-loop-event
invariant-loop-event l =
    (l.tokens.items ++ map (λ event. (event_token event).0) (iter_rest l.event-iterator) ≡ map (λ event. (event_token event).0) (items l.events))
    × (vec_capacity l.tokens ≡ vec_capacity l.fn.tokens)
