-- What an event takes from a message: who sent it, and its parameters.
use Rattle.std.specs.Prelude.{ℕ, List, [], ◌∷◌, ◌++◌, Option, Some, None, slice_get, unwrap_or}
use Rattle.ircline.specs.Sources.{Source, Nobody, Server, Person}
use Rattle.chanstate.specs.declared.event.IrcEvent.{IrcEvent}

-- user@host
abbrev pub address_of : List ℕ → List ℕ → List ℕ
address_of user host = user ++ 64 ∷ host

-- what only a person can do, by nick and user@host
abbrev pub by_person : Source → (List ℕ → List ℕ → List IrcEvent) → List IrcEvent
by_person Nobody events = []
by_person (Server name) events = []
by_person (Person nick user host) events = events nick (address_of user host)

-- what a server can do too: it has no nick, and its name is used as user@host
abbrev pub by_anyone : Source → (List ℕ → List ℕ → List IrcEvent) → List IrcEvent
by_anyone Nobody events = []
by_anyone (Server name) events = events [] name
by_anyone (Person nick user host) events = events nick (address_of user host)

-- what follows from a parameter, if it is present
abbrev pub when_given : Option (List ℕ) → (List ℕ → List IrcEvent) → List IrcEvent
when_given None events = []
when_given (Some text) events = events text

-- a parameter, or the empty text if it is missing
abbrev pub text_at : List (List ℕ) → ℕ → List ℕ
text_at ps at = unwrap_or (slice_get ps at) []
