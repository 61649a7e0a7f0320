-- An event by its parts. Its account is added last.
use Rattle.std.specs.Prelude.{ℕ, List, [], ◌∷◌, ◌++◌, Option, Some}
use Rattle.chanstate.specs.declared.event.IrcEvent.{IrcEvent}
use Rattle.chanstate.specs.declared.event.EventKind.{EventKind}

abbrev pub event_with : EventKind → List ℕ → Option (List ℕ) → List (List ℕ) → IrcEvent
event_with kind subject channel arguments = record { kind = kind; subject = subject; channel = channel; account = []; arguments = arguments }

-- the event, with the account of the person behind it
abbrev pub with_account : List ℕ → IrcEvent → IrcEvent
with_account account event = record event { account = account }

-- An event on a channel. Its subject is the channel, a space and one more text, by which masks distinguish events. Its
-- arguments are the nick and address of the author, the channel, and the other texts of the event.
abbrev pub event_on : EventKind → List ℕ → List ℕ → List ℕ → List (List ℕ) → List ℕ → IrcEvent
event_on kind nick address about more channel =
    event_with kind (channel ++ 32 ∷ about) (Some channel) (nick ∷ address ∷ channel ∷ more)
