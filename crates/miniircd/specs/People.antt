-- The clients of the server: what each has said of itself, by its number.
use Rattle.std.specs.Prelude.{ℕ, ◌&&◌, Bool, List, [], ◌∷◌, Option, Some, None, slice_get, slice_index_or, if◌then◌else◌}
use Rattle.rfccase.specs.Casemapping.{is_same}
use Rattle.ircline.specs.Classes.{filled}
use Rattle.slab.specs.Slab.{entries_from}
use Rattle.miniircd.specs.declared.client_identity.ClientIdentity.{ClientIdentity}

-- the client with this number, if it is connected
abbrev pub held_at : List (Option ClientIdentity) → ℕ → Option ClientIdentity
held_at clients client = slice_index_or clients client None

-- a client that has said nothing yet
abbrev pub blank : ClientIdentity
blank = record { nick = []; user = [] }

-- a client is registered once it has given a nick and a user name
abbrev pub is_registered : ClientIdentity → Bool
is_registered p = filled p.nick && filled p.user

-- whether the client holds this nick
abbrev pub is_called : List ℕ → ClientIdentity → Bool
is_called nick p = filled p.nick && is_same nick p.nick

-- the first client of these that holds a nick
abbrev pub first_called : List ℕ → List (ℕ × ClientIdentity) → Option ℕ
first_called nick [] = None
first_called nick (e ∷ es) = if is_called nick e.1 then Some e.0 else first_called nick es

-- the client that holds a nick
abbrev pub holder : List ℕ → List (Option ClientIdentity) → Option ℕ
holder nick clients = first_called nick (entries_from 0 clients)

-- a parameter, or the empty text if there is none
abbrev pub or_empty : Option (List ℕ) → List ℕ
or_empty None = []
or_empty (Some text) = text

abbrev pub word_at : ℕ → List (List ℕ) → List ℕ
word_at index params = or_empty (slice_get params index)
