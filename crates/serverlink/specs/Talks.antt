-- What each call does to a connection to a server.
use Rattle.std.specs.Prelude.{◌≡◌, ◌&&◌, ◌==◌, ◌∷◌, [], length, not, if◌then◌else◌, ℕ, Bool, true, false, List, Option, None, Some, codes, option_map}
use Rattle.net.specs.Connections.{Talk, Reads, ReadsFewer, SendsOn, named, with_bytes}
use Rattle.serverlink.specs.Lines.{is_line}
use Rattle.serverlink.specs.Told.{ended}
use Rattle.serverlink.specs.Vigils.{care_of, heard as heard_at, is_kept}
use Rattle.serverlink.specs.declared.server_wire.TheConstants.{MOST}
use Rattle.serverlink.specs.declared.vigil.Care.{Care}
use Rattle.serverlink.specs.declared.vigil.Care.TheVariants.{Wait, Ask, LetGo}
use Rattle.serverlink.specs.declared.irc_connection.TheConstants.{PIECES}
use Rattle.serverlink.specs.declared.session.Session.{Session}

-- a line is queued with CR and LF; bytes that are not a line are ignored
abbrev pub told : List ℕ → Talk → Talk
told line talk = if is_line line then with_bytes MOST (ended line) talk else talk

-- lines are queued, one after another
abbrev pub told_all : List (List ℕ) → Talk → Talk
told_all [] talk = talk
told_all (line ∷ lines) talk = told_all lines (told line talk)

-- the line that pings a silent server
abbrev pub ping_of : Care → List (List ℕ)
ping_of Wait = []
ping_of Ask = codes "PING eggnet" ∷ []
ping_of (LetGo loss) = []

-- ---- when there may be no connection

abbrev pub talk_in : Option Session → Option Talk
talk_in session = option_map (λ s. s.wire) session

-- if an event has named the connection, it may have something to read
abbrev pub woken : Bool → Option Talk → Option Talk
woken false talk = talk
woken true talk = option_map named talk

-- a connection that is over is dropped
abbrev pub held : Option Session → Option Session
held None = None
held (Some session) = if session.wire.over then None else Some session

-- some lines are queued, and nothing else happens
abbrev pub TellsMore : Option Talk → Option Talk → Type 0
TellsMore old new = (lines : List (List ℕ)) × (new ≡ option_map (told_all lines) old)

-- reads of a connection, at least one if the first asks its stream; without one, nothing happens
abbrev pub MayReadAll : Option Talk → Option Talk → Type 0
MayReadAll None new = new ≡ None
MayReadAll (Some old) None = ⊥
MayReadAll (Some old) (Some new) = (came : Bool) × Reads PIECES MOST old came new

-- by the monotonic clock, bytes that came end the server's silence, and nothing else does
abbrev pub EndsSilence : ℕ → Option Session → Option Session → Type 0
EndsSilence steady None new = new ≡ None
EndsSilence steady (Some old) None = ⊥
EndsSilence steady (Some old) (Some new) =
    (came : Bool) × Reads PIECES MOST old.wire came new.wire × (new.vigil ≡ (if came then heard_at old.vigil steady else old.vigil))

-- memory ran out before the last of the reads of a connection
abbrev pub ReadsSome : Option Talk → Option Talk → Type 0
ReadsSome None new = ⊥
ReadsSome (Some old) None = ⊥
ReadsSome (Some old) (Some new) = ReadsFewer PIECES MOST old new

-- a server is connected, and nothing waits for it
abbrev pub is_still_in : Option Talk → Bool
is_still_in None = false
is_still_in (Some talk) = (length talk.unsent == 0) && not talk.over

-- whether its stream may have something to read
abbrev pub may_give_in : Option Talk → Bool
may_give_in None = false
may_give_in (Some talk) = talk.gives && not talk.over

abbrev pub MaySend : Option Talk → Bool → Option Talk → Type 0
MaySend None more new = (more ≡ false) × (new ≡ None)
MaySend (Some old) more None = ⊥
MaySend (Some old) more (Some new) = SendsOn old more new

-- whether there is a connection, and it is kept at this second of the monotonic clock, whatever the wall clock says
abbrev pub stays : ℕ → Option Session → Bool
stays steady None = false
stays steady (Some session) = is_kept (care_of session.vigil steady session.is_welcomed)

-- the PING that is due then
abbrev pub pings : ℕ → Option Session → List (List ℕ)
pings steady None = []
pings steady (Some session) = ping_of (care_of session.vigil steady session.is_welcomed)
