use Rattle.std.proofs.Common.{◌≡◌, ◌++◌, ◌+◌, ◌≤◌, map, filter, length, vec_len, vec_capacity}
use Rattle.std.specs.Slice.Iter.{iter_rest}
use Rattle.mio.specs.Event.{event_token}
use Rattle.mio.specs.Events.{items}
use Rattle.net.specs.Watching.{is_ending}
use Rattle.net.proofs.watch.put_endings.Given as goal

-- the tokens so far, and those of the endings that are left; no more than one for each event
abbrev pub invariant-loop-event : goal.invariant-loop-event
invariant-loop-event l =
    (l.endings.items ++ map (λ event. (event_token event).0) (filter is_ending (iter_rest l.event-iterator))
    ≡ map (λ event. (event_token event).0) (filter is_ending (items l.events)))
    × ((vec_len l.endings + length (iter_rest l.event-iterator) ≤ length (items l.events))
    × (vec_capacity l.endings ≡ vec_capacity l.fn.endings))
