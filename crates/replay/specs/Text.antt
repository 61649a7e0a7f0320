-- The text of a transcript, line by line.
use Rattle.std.specs.Prelude.{ℕ, zero, suc, ◌+◌, List, [], ◌∷◌, ◌++◌, Option, None, Some, codes, decimal}
use Rattle.std.specs.List.{flat_map}
use Rattle.ircline.specs.Codes.{code_of as line_code}
use Rattle.userfile.specs.Codes.{fault_code}
use Rattle.procs.specs.declared.reply.Code.{Code}
use Rattle.procs.specs.declared.reply.Code.TheVariants.{Zero, One}
use Rattle.sharelink.specs.declared.note.LinkNote.{LinkNote}
use Rattle.sharelink.specs.declared.note.LinkNote.TheVariants.{Queued, Idle, Sent as request_sent, Accepted, Refused, Served, Old, Repeat, Gap, Early, Applied, Kept, Installed, Compacted, Relayed, Text, Stray, Restarted}
use Rattle.sharewire.specs.declared.packet.Packet.{Packet}
use Rattle.sharewire.specs.declared.packet.Packet.TheVariants.{Hello, Change as change_packet, Request, Accepted as accepted_packet, Refused as refused_packet, BotText, Part}
use Rattle.outqueue.specs.Refusals.{code_of as queue_code}
use Rattle.botcore.specs.Codes.{refusal_code, action_code}
use Rattle.botcore.specs.declared.fault.StepFault.{StepFault}
use Rattle.botcore.specs.declared.fault.StepFault.TheVariants.{Unbound as unbound_fault, Action as action_fault, Line as line_fault}
use Rattle.procs.specs.declared.made_call.MadeCall.{MadeCall}
use Rattle.botcore.specs.declared.report.End.{End}
use Rattle.botcore.specs.declared.report.End.TheVariants.{Done as ended, Refused as ended_refused, NoMemory as ended_no_memory}
use Rattle.botcore.specs.declared.report.Note.{Note}
use Rattle.botcore.specs.declared.report.Note.TheVariants.{Link as link_note, Bound, Unbound, Bad}
use Rattle.botworld.specs.declared.sent.Sent.{Sent}
use Rattle.botworld.specs.declared.outcome.Outcome.{Outcome}
use Rattle.botworld.specs.declared.outcome.Outcome.TheVariants.{Report as reported, NoSuchBot, NoSuchPacket}
use Rattle.botworld.specs.declared.outcome.WorldReport.{WorldReport}
use Rattle.botworld.specs.Net.{packet_at}

-- call B PROC CODE
abbrev pub code_text : Code → List ℕ
code_text Zero = codes " 0" ++ 10 ∷ []
code_text One = codes " 1" ++ 10 ∷ []

abbrev pub call_line : ℕ → MadeCall → List ℕ
call_line bot made = codes "call " ++ decimal bot ++ codes " " ++ made.proc ++ code_text made.reply.code

-- out B LINE
abbrev pub out_line : ℕ → List ℕ → List ℕ
out_line bot line = codes "out " ++ decimal bot ++ codes " " ++ line ++ 10 ∷ []

-- fault B NAME: NAME says that a proc is missing, or is the code of a refused action or of a line that wasn't queued
abbrev pub fault_text : StepFault → List ℕ
fault_text (unbound_fault unbound) = codes "Unbound " ++ unbound.proc
fault_text (action_fault fault) = action_code fault
fault_text (line_fault fault) = queue_code fault

abbrev pub fault_line : ℕ → StepFault → List ℕ
fault_line bot fault = codes "fault " ++ decimal bot ++ codes " " ++ fault_text fault ++ 10 ∷ []

-- the note of a call of the link, with its number, letters or text if it has any
abbrev pub link_note_text : LinkNote → List ℕ
link_note_text Queued = codes "Queued"
link_note_text Idle = codes "Idle"
link_note_text (request_sent request) = codes "Sent " ++ decimal request
link_note_text (Accepted number) = codes "Accepted " ++ decimal number
link_note_text (Refused fault) = codes "Refused " ++ fault_code fault
link_note_text (Served count) = codes "Served " ++ decimal count
link_note_text Old = codes "Old"
link_note_text Repeat = codes "Repeat"
link_note_text Gap = codes "Gap"
link_note_text Early = codes "Early"
link_note_text (Applied number) = codes "Applied " ++ decimal number
link_note_text (Kept part) = codes "Kept " ++ decimal part
link_note_text (Installed version) = codes "Installed " ++ decimal version
link_note_text Compacted = codes "Compacted"
link_note_text Relayed = codes "Relayed"
link_note_text (Text from text) = codes "Text " ++ decimal from ++ codes " " ++ text
link_note_text Stray = codes "Stray"
link_note_text (Restarted version) = codes "Restarted " ++ decimal version

-- any note; Done if a step was done without one
abbrev pub note_text : Option Note → List ℕ
note_text None = codes "Done"
note_text (Some (link_note note)) = link_note_text note
note_text (Some (Bound number)) = codes "Bound " ++ decimal number
note_text (Some (Unbound number)) = codes "Unbound " ++ decimal number
note_text (Some (Bad fault)) = codes "Bad " ++ line_code fault

-- B NOTE, or B refused CODE; a step that ran out of memory has no line
abbrev pub end_line : ℕ → End → Option Note → List ℕ
end_line bot ended told = decimal bot ++ codes " " ++ note_text told ++ 10 ∷ []
end_line bot (ended_refused refusal) told = decimal bot ++ codes " refused " ++ refusal_code refusal ++ 10 ∷ []
end_line bot ended_no_memory told = []

-- KIND DETAIL
abbrev pub packet_text : Packet → List ℕ
packet_text (Hello layout leaf version) = codes "Hello " ++ decimal version
packet_text (change_packet number origin request change) = codes "Change " ++ decimal number
packet_text (Request leaf request change) = codes "Request " ++ decimal request
packet_text (accepted_packet leaf request number) = codes "Accepted " ++ decimal request ++ codes " " ++ decimal number
packet_text (refused_packet leaf request fault) = codes "Refused " ++ decimal request ++ codes " " ++ fault_code fault
packet_text (Part version part count records) = codes "Part " ++ decimal version ++ codes " " ++ decimal part ++ codes " " ++ decimal count
packet_text (BotText from to text) = codes "BotText " ++ decimal from ++ codes " " ++ decimal to ++ codes " " ++ text

-- send K A>B KIND DETAIL
abbrev pub sent_line : ℕ → Sent → List ℕ
sent_line number sent = codes "send " ++ decimal number ++ codes " " ++ decimal sent.from ++ codes ">" ++ decimal sent.to ++ codes " " ++ packet_text
    sent.packet ++ 10 ∷ []

abbrev pub found_line : ℕ → Option Sent → List ℕ
found_line number None = []
found_line number (Some sent) = sent_line number sent

-- the `count` packets from this number on, in order
abbrev pub sent_lines : List Sent → ℕ → ℕ → List ℕ
sent_lines packets number zero = []
sent_lines packets number (suc count) = found_line number (packet_at packets number) ++ sent_lines packets (number + 1) count

-- a bot's part in a step, given all packets sent so far: its calls, the packets that it sent, its lines for the server,
-- its faults, and how it ended
abbrev pub report_text : List Sent → WorldReport → List ℕ
report_text packets report =
    flat_map (call_line report.bot) report.calls ++ sent_lines packets report.first report.count ++ flat_map (out_line report.bot) report.lines
    ++ flat_map (fault_line report.bot) report.faults ++ end_line report.bot report.end report.note

abbrev pub outcome_text : List Sent → Outcome → List ℕ
outcome_text packets (reported report) = report_text packets report
outcome_text packets NoSuchBot = codes "world O2" ++ 10 ∷ []
outcome_text packets NoSuchPacket = codes "world O3" ++ 10 ∷ []
