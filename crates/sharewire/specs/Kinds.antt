-- The byte of each kind of packet (our own choice).
use Rattle.std.specs.Prelude.{ℕ, ◌==◌, Option, Some, None, if◌then◌else◌}
use Rattle.sharewire.specs.declared.kind.Kind.{Kind}
use Rattle.sharewire.specs.declared.kind.Kind.TheVariants.{Hello as hello, LaterHello as later_hello, Change as change, Part as part, Request as request, Accepted as accepted, Refused as refused, BotText as bot_text}
use Rattle.sharewire.specs.declared.packet.Packet.{Packet}
use Rattle.sharewire.specs.declared.packet.Packet.TheVariants.{Hello, Change, Part, Request, Accepted, Refused, BotText}

abbrev pub kind_byte : Kind → ℕ
kind_byte hello = 1
kind_byte change = 2
kind_byte part = 3
kind_byte request = 4
kind_byte accepted = 5
kind_byte refused = 6
kind_byte bot_text = 7
kind_byte later_hello = 8

-- the kind of a byte, if it is one
abbrev pub kind_from : ℕ → Option Kind
kind_from byte =
    if byte == 1 then Some hello
    else (if byte == 2 then Some change
    else (if byte == 3 then Some part
    else (if byte == 4 then Some request
    else (if byte == 5 then Some accepted
    else (if byte == 6 then Some refused
    else (if byte == 7 then Some bot_text
    else (if byte == 8 then Some later_hello
    else None)))))))

-- a hello of layout 1 has a kind of its own
abbrev pub hello_kind : ℕ → Kind
hello_kind layout = if layout == 1 then hello else later_hello

abbrev pub kind_of : Packet → Kind
kind_of (Hello layout leaf version) = hello_kind layout
kind_of (Change n origin r c) = change
kind_of (Part version n count records) = part
kind_of (Request leaf r c) = request
kind_of (Accepted leaf r n) = accepted
kind_of (Refused leaf r fault) = refused
kind_of (BotText from to text) = bot_text
