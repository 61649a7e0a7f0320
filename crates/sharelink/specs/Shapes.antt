-- Which packets have records of good shape.
use Rattle.std.specs.Prelude.{◌≤◌, ℕ, List, length, Result, Ok, Err}
use Rattle.std.specs.List.{AllByRecursion}
use Rattle.bytetext.specs.declared.failure.Failure.{Failure}
use Rattle.usercodec.specs.Records.{IsGoodRecord}
use Rattle.sharewire.specs.declared.packet.Packet.{Packet as WirePacket}
use Rattle.sharewire.specs.declared.packet.Packet.TheVariants as wire
use Rattle.sharelink.specs.declared.answer.Answer.{Answer}
use Rattle.sharelink.specs.declared.answer.Outgoing.{Outgoing}
use Rattle.sharelink.specs.declared.error.LinkFault.{LinkFault}

-- each record of a part has a spelling; no other packet has records
abbrev pub HasGoodRecords : WirePacket → Type 0
HasGoodRecords (wire.Hello layout leaf version) = Unit {0}
HasGoodRecords (wire.Change number origin request change) = Unit {0}
HasGoodRecords (wire.Request leaf request change) = Unit {0}
HasGoodRecords (wire.Accepted leaf request number) = Unit {0}
HasGoodRecords (wire.Refused leaf request fault) = Unit {0}
HasGoodRecords (wire.BotText from to text) = Unit {0}
HasGoodRecords (wire.Part version part count records) = AllByRecursion IsGoodRecord records

-- all packets that are to be sent have such records
abbrev pub AreGood : List Outgoing → Type 0
AreGood packets = AllByRecursion (λ (outgoing : Outgoing). HasGoodRecords outgoing.packet) packets

-- the result sends at most this number of packets, and they have records of good shape
abbrev pub GoOut : ℕ → Result Answer (Failure LinkFault) → Type 0
GoOut most (Ok answer) = (length answer.packets ≤ most) × AreGood answer.packets
GoOut most (Err error) = Unit {0}
