-- The packets that were read from a stream.
use Rattle.std.proofs.Common.{◌≡◌, ◌++◌, ℕ, List, [], ◌∷◌, Result, Ok, Err, IfOk, OnErr, subst, sym}
use Rattle.std.specs.List.{AllByRecursion}
use Rattle.bytetext.specs.declared.memory.NoMemory.{NoMemory}
use Rattle.sharewire.specs.declared.feed.Feed.{Feed}
use Rattle.sharewire.specs.declared.packet.Packet.{Packet}
use Rattle.sharewire.specs.declared.packet.Packet.TheVariants.{Hello, Change, Part, Request, Accepted, Refused, BotText}
use Rattle.sharewire.specs.Frames.{IsGoodPacket}
use Rattle.sharewire.specs.Streams.{Ending}
use Rattle.sharelink.specs.Shapes.{HasGoodRecords}
use Rattle.peers.specs.Streams.{IsRead, TellsOn}

-- ---- packets that have frames

-- a packet that has a frame has records of good shape
good_records : (packet : Packet) → IsGoodPacket packet → HasGoodRecords packet
good_records (Hello layout leaf version) good = tt
good_records (Change n origin request change) good = tt
good_records (Part version part count records) good = good.1.1.1.1
good_records (Request leaf request change) good = tt
good_records (Accepted leaf request n) good = tt
good_records (Refused leaf request fault) good = tt
good_records (BotText from to text) good = tt

-- so of those that come after others
good_after : (before packets : List Packet) → AllByRecursion IsGoodPacket (before ++ packets) → AllByRecursion HasGoodRecords packets
good_after [] [] good = tt
good_after [] (packet ∷ packets) good = (good_records packet good.0, good_after [] packets good.1)
good_after (one ∷ before) packets good = good_after before packets good.1

-- ---- a piece more

pub fed_good : (piece : List ℕ) (old new : Ending) (result : Result Feed NoMemory) → IsRead old → TellsOn piece old new result
    → IfOk result (λ (feed : Feed). AllByRecursion HasGoodRecords feed.packets)
fed_good piece old new (Ok feed) read told = good_after read.packets feed.packets (told read.stream read.packets read.tells).good
fed_good piece old new (Err error) read told = tt

pub fed_read : (piece : List ℕ) (old new : Ending) (result : Result Feed NoMemory) → IsRead old → TellsOn piece old new result
    → OnErr result (new ≡ old) → IsRead new
fed_read piece old new (Ok feed) read told same = record {
  stream = read.stream ++ piece;
  packets = read.packets ++ feed.packets;
  tells = told read.stream read.packets read.tells;
}
fed_read piece old new (Err error) read told same = subst IsRead (sym same) read
