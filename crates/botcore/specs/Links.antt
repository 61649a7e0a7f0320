-- A bot's end of the sharing link, as the rest of a bot sees it.
use Rattle.std.specs.Prelude.{ℕ, nat_lt, List, ◌++◌, length, map, Result, Ok, Err, if◌then◌else◌}
use Rattle.userfile.specs.Records.{Records}
use Rattle.userfile.specs.declared.change.Change.{Change as UserChange}
use Rattle.sharewire.specs.declared.packet.Packet.{Packet as WirePacket}
use Rattle.sharewire.specs.declared.packet.Packet.TheVariants as wire
use Rattle.protocol.specs.Packets.{Packet, Outgoing as Sent}
use Rattle.protocol.specs.Packets.Packet.{Hello, Change, Request, Accepted, Refused, BotText, Part}
use Rattle.protocol.specs.Notes.{Note as Meaning, LinkFault as Fault}
use Rattle.protocol.specs.Notes.LinkFault.{Down, BadChange, AsksFull, OtherLayout, Diverged, NumbersSpent, JournalFault, BadBotText, DiskFault}
use Rattle.protocol.specs.Bots.{Row}
use Rattle.sharelink.specs.declared.answer.Outgoing.{Outgoing}
use Rattle.sharelink.specs.declared.error.LinkFault.{LinkFault}
use Rattle.sharelink.specs.declared.error.LinkFault.TheVariants as fault
use Rattle.sharelink.specs.declared.TheConstants.{MAX_TEXTS}
use Rattle.protocol.specs.Ends.{End, end_records, end_version, end_asks, with_asks}
use Rattle.sharelink.specs.BotLinks.{BotEnd, told}

abbrev pub link_records : BotEnd → Records
link_records link = end_records link.end

abbrev pub link_version : BotEnd → ℕ
link_version link = end_version link.end

-- ---- the asks that wait

abbrev pub ask_count : BotEnd → ℕ
ask_count link = length (end_asks link.end)

-- the link with these asks after the waiting ones
abbrev pub link_with_asks : BotEnd → List UserChange → BotEnd
link_with_asks link asks = record link { end = with_asks link.end (end_asks link.end ++ asks) }

-- ---- the faults and packets of the rule, as a bot reports them

-- the fault with this meaning
abbrev pub fault_told : Fault → LinkFault
fault_told Down = fault.Down
fault_told (BadChange of_change) = fault.BadChange of_change
fault_told AsksFull = fault.AsksFull
fault_told OtherLayout = fault.OtherLayout
fault_told Diverged = fault.Diverged
fault_told NumbersSpent = fault.NumbersSpent
fault_told JournalFault = fault.JournalFault
fault_told BadBotText = fault.BadBotText
fault_told DiskFault = fault.DiskFault

-- the packet with this meaning
abbrev pub packet_told : Packet → WirePacket
packet_told (Hello layout leaf version) = wire.Hello layout leaf version
packet_told (Change number origin request change) = wire.Change number origin request change
packet_told (Request leaf request change) = wire.Request leaf request change
packet_told (Accepted leaf request number) = wire.Accepted leaf request number
packet_told (Refused leaf request of_change) = wire.Refused leaf request of_change
packet_told (BotText from to text) = wire.BotText from to text
packet_told (Part version part count records) = wire.Part version part count records

abbrev pub outgoing_told : Sent → Outgoing
outgoing_told sent = record { to = sent.to; packet = packet_told sent.packet }

-- ---- a text to another bot

-- what its rule sends, unless the step has sent as many texts as it may
abbrev pub text_sent : Result Meaning Fault → List Sent → ℕ → Result (List Outgoing) LinkFault
text_sent (Err why) sends sent = Err (fault_told why)
text_sent (Ok note) sends sent = if nat_lt sent MAX_TEXTS then Ok (map outgoing_told sends) else Err fault.TextsFull

abbrev pub text_of : Row End → ℕ → Result (List Outgoing) LinkFault
text_of row sent = text_sent row.told row.sends sent

-- given the number of texts that the step has sent before
abbrev pub link_text : BotEnd → ℕ → List ℕ → ℕ → Result (List Outgoing) LinkFault
link_text link to text sent = text_of (told link to text) sent
