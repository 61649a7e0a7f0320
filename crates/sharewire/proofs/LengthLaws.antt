-- How long a packet's frame is.
use Rattle.std.proofs.Common.{◌≡◌, ℕ, suc, ◌<◌, ◌≤◌, ◌==◌, Bool, true, false, if◌then◌else◌, List, ◌∷◌, ◌++◌, length, arith}
use Rattle.std.specs.Int.{w16, w32}
use Rattle.std.proofs.lemmas.Bool.Decides.{nat_tests}
use Rattle.std.proofs.lemmas.List.{length-append}
use Rattle.usercodec.specs.declared.records.Record.{Record}
use Rattle.usercodec.specs.Fields.{number, counted}
use Rattle.usercodec.specs.Records.{record_bytes, IsGoodRecord}
use Rattle.usercodec.proofs.RecordLengths.{all_map, many_short, record_is_short}
use Rattle.usercodec.proofs.ShapeLaws.{short_texts, change_is_short}
use Rattle.sharewire.specs.declared.packet.Packet.{Packet}
use Rattle.sharewire.specs.declared.packet.Packet.TheVariants.{Hello, Change as change_packet, Part, Request, Accepted, Refused, BotText}
use Rattle.sharewire.specs.Texts.{is_bot_text}
use Rattle.sharewire.specs.Frames.{inside, HoldsPart, CanBeWritten}

pub bot_text_is_short : (text : List ℕ) → is_bot_text text ≡ true → length text ≤ 400
unfolding is_bot_text
bot_text_is_short text good = grind (arith, nat_tests)

few_records : (records : List Record) → HoldsPart records → length records ≤ 8
few_records records holds = grind (arith, nat_tests, holds.0)

part_is_short : (records : List Record) → HoldsPart records → length (counted record_bytes records) ≤ 39201
part_is_short records holds =
    let each = all_map IsGoodRecord (λ r. length (record_bytes r) ≤ 4900) record_is_short records holds.1 in
    omega (arith, many_short record_bytes 4900 records each, few_records records holds)

pub inside_is_short : (packet : Packet) → CanBeWritten packet → length (inside packet) < 39300
inside_is_short (Hello layout leaf version) can = hello_is_short (layout == 1)
  where
    hello_is_short : (first : Bool)
        → suc (length (if first then number w16 leaf ++ number w32 version else layout ∷ (number w16 leaf ++ number w32 version))) < 39300
    hello_is_short true = omega arith
    hello_is_short false = omega arith
inside_is_short (change_packet n origin request change) can =
    let short = change_is_short change (short_texts change can) in simp length-append (omega arith)
inside_is_short (Part version part count records) can = let short = part_is_short records can in simp length-append (omega arith)
inside_is_short (Request leaf request change) can =
    let short = change_is_short change (short_texts change can) in simp length-append (omega arith)
inside_is_short (Accepted leaf request n) can = omega arith
inside_is_short (Refused leaf request fault) can = omega arith
inside_is_short (BotText from to text) can =
    let short = bot_text_is_short text can in simp length-append (omega arith)
