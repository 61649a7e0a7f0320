-- What contracts see of a deed, borrowed part by part.
use Rattle.std.specs.Prelude.{ℕ, List, map}
use Rattle.chanstate.specs.declared.deed.Deed.{Deed}
use Rattle.chanstate.specs.declared.event.IrcEvent.{IrcEvent}
use Rattle.chanstate.specs.EventShape.{event_on}

-- the event of the deed on a channel
abbrev pub told : Deed → List ℕ → IrcEvent
told deed = event_on deed.kind deed.by.nick.now deed.by.address.now deed.about.now (map (λ text. text.now) deed.more.now)
