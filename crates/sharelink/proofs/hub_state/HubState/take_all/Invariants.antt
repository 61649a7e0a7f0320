use Rattle.std.proofs.Common.{◌≡◌, Some}
use Rattle.std.specs.Vec.Iter.{into_iter_items}
use Rattle.protocol.specs.HubRules.{hub_folded}
use Rattle.protocol.specs.Journals.{reads, hub_record}
use Rattle.sharelink.proofs.hub_state.HubState.take_all.Given as goal

-- those that are left make of the state what all make of the first one
abbrev pub invariant-loop-entry : goal.invariant-loop-entry
invariant-loop-entry l =
    reads hub_record hub_folded (Some l.self) (into_iter_items l.entry-iterator) ≡ reads hub_record hub_folded (Some l.fn.self) l.fn.entries
