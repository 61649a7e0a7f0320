-- Which leaf a packet names as its sender.
use Rattle.std.specs.Prelude.{ℕ, Option, Some, None}
use Rattle.sharewire.specs.declared.packet.Packet.{Packet}
use Rattle.sharewire.specs.declared.packet.Packet.TheVariants.{Hello, Change, Part, Request, Accepted, Refused, BotText}

-- none if only the hub sends it
abbrev pub speaker_of : Packet → Option ℕ
speaker_of (Hello layout leaf version) = Some leaf
speaker_of (Change number origin request change) = None
speaker_of (Part version part count records) = None
speaker_of (Request leaf request change) = Some leaf
speaker_of (Accepted leaf request number) = None
speaker_of (Refused leaf request fault) = None
speaker_of (BotText from to text) = Some from
