-- The one spelling of a packet: a frame, which is the length of kind and body, the kind, and the body (our own choice
-- throughout; numbers have their most significant byte first).
use Rattle.std.specs.Prelude.{◌≡◌, ◌<◌, ◌^◌, ◌==◌, nat_le, true, if◌then◌else◌, ℕ, List, [], ◌∷◌, ◌++◌, length, None}
use Rattle.std.specs.Int.{w16, w32}
use Rattle.userfile.specs.Apply.{bad_shape}
use Rattle.std.specs.List.{AllByRecursion}
use Rattle.usercodec.specs.declared.records.Record.{Record}
use Rattle.usercodec.specs.Fields.{number, counted}
use Rattle.usercodec.specs.Records.{record_bytes, IsGoodRecord}
use Rattle.sharewire.specs.declared.limits.TheConstants.{MAX_PART_RECORDS}
use Rattle.usercodec.specs.Changes.{change_bytes, IsGoodChange}
use Rattle.sharewire.specs.declared.packet.Packet.{Packet}
use Rattle.sharewire.specs.declared.packet.Packet.TheVariants.{Hello, Change, Part, Request, Accepted, Refused, BotText}
use Rattle.sharewire.specs.Kinds.{kind_byte, kind_of}
use Rattle.usercodec.specs.FaultBytes.{fault_byte}
use Rattle.sharewire.specs.Texts.{is_bot_text}

-- a text from one bot to another: its length in two bytes, and its bytes
abbrev pub long_text : List ℕ → List ℕ
long_text bytes = number w16 (length bytes) ++ bytes

-- a hello has its layout in the body, except for layout 1, which has a kind of its own
abbrev pub hello_body : ℕ → ℕ → ℕ → List ℕ
hello_body layout leaf version =
    if layout == 1 then number w16 leaf ++ number w32 version else layout ∷ (number w16 leaf ++ number w32 version)

abbrev pub body_of : Packet → List ℕ
body_of (Hello layout leaf version) = hello_body layout leaf version
body_of (Change n origin request change) = number w32 n ++ (number w16 origin ++ (number w32 request ++ change_bytes change))
body_of (Part version part count records) = number w32 version ++ part ∷ count ∷ counted record_bytes records
body_of (Request leaf request change) = number w16 leaf ++ (number w32 request ++ change_bytes change)
body_of (Accepted leaf request n) = number w16 leaf ++ (number w32 request ++ number w32 n)
body_of (Refused leaf request fault) = number w16 leaf ++ (number w32 request ++ fault_byte fault ∷ [])
body_of (BotText from to text) = number w16 from ++ (number w16 to ++ long_text text)

-- kind and body
abbrev pub inside : Packet → List ℕ
inside packet = kind_byte (kind_of packet) ∷ body_of packet

abbrev pub frame : Packet → List ℕ
frame packet = number w16 (length (inside packet)) ++ inside packet

-- the records of one part: not too many, each with a spelling
abbrev pub HoldsPart : List Record → Type 0
HoldsPart records = (nat_le (length records) MAX_PART_RECORDS ≡ true) × AllByRecursion IsGoodRecord records

-- what a packet must hold to be written: a layout from 1 on, a change of good shape, the records of one part, a text
-- that a bot may send
abbrev pub CanBeWritten : Packet → Type 0
CanBeWritten (Hello layout leaf version) = 0 < layout
CanBeWritten (Change n origin request change) = bad_shape change ≡ None
CanBeWritten (Part version part count records) = HoldsPart records
CanBeWritten (Request leaf request change) = bad_shape change ≡ None
CanBeWritten (Accepted leaf request n) = Unit {0}
CanBeWritten (Refused leaf request fault) = Unit {0}
CanBeWritten (BotText from to text) = is_bot_text text ≡ true

-- a packet that has a frame: it can be written, and its numbers are in range
abbrev pub IsGoodPacket : Packet → Type 0
IsGoodPacket (Hello layout leaf version) = (0 < layout) × ((layout < 2 ^ 8) × ((leaf < 2 ^ 16) × (version < 2 ^ 32)))
IsGoodPacket (Change n origin request change) = (n < 2 ^ 32) × ((origin < 2 ^ 16) × ((request < 2 ^ 32) × IsGoodChange change))
IsGoodPacket (Part version part count records) = (version < 2 ^ 32) × ((part < 2 ^ 8) × ((count < 2 ^ 8) × HoldsPart records))
IsGoodPacket (Request leaf request change) = (leaf < 2 ^ 16) × ((request < 2 ^ 32) × IsGoodChange change)
IsGoodPacket (Accepted leaf request n) = (leaf < 2 ^ 16) × ((request < 2 ^ 32) × (n < 2 ^ 32))
IsGoodPacket (Refused leaf request fault) = (leaf < 2 ^ 16) × (request < 2 ^ 32)
IsGoodPacket (BotText from to text) = (from < 2 ^ 16) × ((to < 2 ^ 16) × (is_bot_text text ≡ true))
