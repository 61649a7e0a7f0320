-- Which of the packets that a leaf sends in one piece are handed on.
use Rattle.std.specs.Prelude.{ℕ, ◌==◌, ◌&&◌, ◌||◌, not, nat_lt, Bool, true, false, List, [], ◌∷◌, Option, None, Some, is_some, if◌then◌else◌}
use Rattle.std.specs.List.{count_by}
use Rattle.userfile.specs.declared.change.Change.{Change as UserChange}
use Rattle.sharewire.specs.declared.packet.Packet.{Packet}
use Rattle.sharewire.specs.declared.packet.Packet.TheVariants.{Hello, Change, Part, Request, Accepted, Refused, BotText}
use Rattle.botjournal.specs.declared.TheConstants.{LAYOUT}
use Rattle.handshake.specs.declared.progress.LeafRights.{LeafRights}
use Rattle.handshake.specs.declared.progress.LeafRights.TheVariants.{Asks, Reads, Persons}

abbrev pub is_hello : Packet → Bool
is_hello (Hello layout leaf version) = true
is_hello (Change number origin request change) = false
is_hello (Part version part count records) = false
is_hello (Request leaf request change) = false
is_hello (Accepted leaf request number) = false
is_hello (Refused leaf request fault) = false
is_hello (BotText from to text) = false

abbrev pub is_request : Packet → Bool
is_request (Hello layout leaf version) = false
is_request (Change number origin request change) = false
is_request (Part version part count records) = false
is_request (Request leaf request change) = true
is_request (Accepted leaf request number) = false
is_request (Refused leaf request fault) = false
is_request (BotText from to text) = false

-- a request for a change in nobody's name
abbrev pub is_nameless : Packet → Bool
is_nameless (Hello layout leaf version) = false
is_nameless (Change number origin request change) = false
is_nameless (Part version part count records) = false
is_nameless (Request leaf request change) = not (is_some change.by)
is_nameless (Accepted leaf request number) = false
is_nameless (Refused leaf request fault) = false
is_nameless (BotText from to text) = false

-- ---- what a leaf may ask for

abbrev pub grants : LeafRights → UserChange → Bool
grants Asks change = true
grants Reads change = false
grants Persons change = is_some change.by

-- ---- the layout that a leaf's last hello said

-- after one more packet
abbrev pub said_after : Option ℕ → Packet → Option ℕ
said_after said (Hello layout leaf version) = Some layout
said_after said (Change number origin request change) = said
said_after said (Part version part count records) = said
said_after said (Request leaf request change) = said
said_after said (Accepted leaf request number) = said
said_after said (Refused leaf request fault) = said
said_after said (BotText from to text) = said

-- after these packets
abbrev pub said_by : Option ℕ → List Packet → Option ℕ
said_by said [] = said
said_by said (packet ∷ packets) = said_by (said_after said packet) packets

-- it is this hub's; a leaf that has said no hello has none
abbrev pub is_ours : Option ℕ → Bool
is_ours None = false
is_ours (Some layout) = layout == LAYOUT

-- ---- what is handed on

-- a request is barred if the leaf may not ask for its change, or if the last hello before it was not of the hub's layout
abbrev pub is_barred : LeafRights → Option ℕ → Packet → Bool
is_barred may said (Hello layout leaf version) = false
is_barred may said (Change number origin request change) = false
is_barred may said (Part version part count records) = false
is_barred may said (Request leaf request change) = not (grants may change && is_ours said)
is_barred may said (Accepted leaf request number) = false
is_barred may said (Refused leaf request fault) = false
is_barred may said (BotText from to text) = false

-- a packet after which this many hellos come is lost: a hello that is not the last, or a barred request
abbrev pub is_lost : LeafRights → Option ℕ → Packet → ℕ → Bool
is_lost may said packet hellos = (is_hello packet && nat_lt 0 hellos) || is_barred may said packet

-- the others, in order
abbrev pub picked : LeafRights → Option ℕ → List Packet → List Packet
picked may said [] = []
picked may said (packet ∷ packets) =
    if is_lost may said packet (count_by is_hello packets) then picked may (said_after said packet) packets
    else packet ∷ picked may (said_after said packet) packets
