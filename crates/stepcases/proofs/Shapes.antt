-- The shapes of packets that were read.
use Rattle.sharewire.specs.declared.packet.Packet.{Packet}
use Rattle.sharewire.specs.declared.packet.Packet.TheVariants.{Hello, Change, Part, Request, Accepted, Refused, BotText}
use Rattle.sharewire.specs.Frames.{IsGoodPacket}
use Rattle.sharelink.specs.Shapes.{HasGoodRecords}

-- a packet that has a frame has records of good shape
pub good_records : (packet : Packet) → IsGoodPacket packet → HasGoodRecords packet
good_records (Hello layout leaf version) good = tt
good_records (Change n origin request change) good = tt
good_records (Part version part count records) good = good.1.1.1.1
good_records (Request leaf request change) good = tt
good_records (Accepted leaf request n) good = tt
good_records (Refused leaf request fault) good = tt
good_records (BotText from to text) good = tt
