-- What reading a packet's body returns.
use Rattle.std.specs.Prelude.{ℕ, nat_le, List}
use Rattle.std.specs.Int.{w16, w32}
use Rattle.usercodec.specs.Fields.{Reading, ◌>>=◌, checked, byte_at, bytes_at, number_at}
use Rattle.usercodec.specs.declared.records.Record.{Record}
use Rattle.usercodec.specs.Records.{counted_at, record_at}
use Rattle.sharewire.specs.declared.limits.TheConstants.{MAX_PART_RECORDS}
use Rattle.usercodec.specs.Changes.{both, made, change_at}
use Rattle.sharewire.specs.declared.kind.Kind.{Kind}
use Rattle.sharewire.specs.declared.kind.Kind.TheVariants.{Hello as hello, LaterHello as later_hello, Change as change, Part as part, Request as request, Accepted as accepted, Refused as refused, BotText as bot_text}
use Rattle.sharewire.specs.declared.packet.Packet.{Packet}
use Rattle.sharewire.specs.declared.packet.Packet.TheVariants.{Hello, Change, Part, Request, Accepted, Refused, BotText}
use Rattle.usercodec.specs.FaultBytes.{fault_at}
use Rattle.sharewire.specs.Texts.{is_bot_text}

-- ---- fields

unfoldable pub long_text_at : List ℕ → Reading (List ℕ)
long_text_at bytes = do
  count ← number_at w16 bytes
  bytes_at count.0 count.1

unfoldable pub bot_text_at : List ℕ → Reading (List ℕ)
bot_text_at bytes = checked is_bot_text (long_text_at bytes)

-- the records of one part, after their count
unfoldable pub part_records_at : List ℕ → Reading (List Record)
part_records_at bytes = counted_at MAX_PART_RECORDS (λ held after. record_at after) bytes

-- a layout in a hello: never layout 1
unfoldable pub layout_at : List ℕ → Reading ℕ
layout_at bytes = checked (λ layout. nat_le 2 layout) (byte_at bytes)

-- ---- bodies

unfoldable pub hello_at : List ℕ → Reading Packet
hello_at bytes = made (λ x. Hello 1 x.0 x.1) (both (number_at w16) (number_at w32) bytes)

unfoldable pub later_hello_at : List ℕ → Reading Packet
later_hello_at bytes = made (λ x. Hello x.0 x.1.0 x.1.1) (both layout_at (both (number_at w16) (number_at w32)) bytes)

unfoldable pub change_packet_at : List ℕ → Reading Packet
change_packet_at bytes =
    made (λ x. Change x.0 x.1.0 x.1.1.0 x.1.1.1) (both (number_at w32) (both (number_at w16) (both (number_at w32) change_at)) bytes)

unfoldable pub part_at : List ℕ → Reading Packet
part_at bytes =
    made (λ x. Part x.0 x.1.0 x.1.1.0 x.1.1.1) (both (number_at w32) (both byte_at (both byte_at part_records_at)) bytes)

unfoldable pub request_at : List ℕ → Reading Packet
request_at bytes = made (λ x. Request x.0 x.1.0 x.1.1) (both (number_at w16) (both (number_at w32) change_at) bytes)

unfoldable pub accepted_at : List ℕ → Reading Packet
accepted_at bytes = made (λ x. Accepted x.0 x.1.0 x.1.1) (both (number_at w16) (both (number_at w32) (number_at w32)) bytes)

unfoldable pub refused_at : List ℕ → Reading Packet
refused_at bytes = made (λ x. Refused x.0 x.1.0 x.1.1) (both (number_at w16) (both (number_at w32) fault_at) bytes)

unfoldable pub bot_text_packet_at : List ℕ → Reading Packet
bot_text_packet_at bytes = made (λ x. BotText x.0 x.1.0 x.1.1) (both (number_at w16) (both (number_at w16) bot_text_at) bytes)

-- the body of a packet of this kind
abbrev pub body_at : Kind → List ℕ → Reading Packet
body_at hello bytes = hello_at bytes
body_at later_hello bytes = later_hello_at bytes
body_at change bytes = change_packet_at bytes
body_at part bytes = part_at bytes
body_at request bytes = request_at bytes
body_at accepted bytes = accepted_at bytes
body_at refused bytes = refused_at bytes
body_at bot_text bytes = bot_text_packet_at bytes
