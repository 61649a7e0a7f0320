-- When a packet is true of history, and what a bot may send.
use Rattle.std.specs.Prelude.{◌≡◌, ℕ, ◌+◌, ◌<◌, ◌≤◌, List, [], ◌∷◌, length, Some}
use Rattle.userfile.specs.declared.change.Change.{Change as UserChange}
use Rattle.usercodec.specs.declared.records.Record.{Record}
use Rattle.botjournal.specs.declared.TheConstants.{LAYOUT}
use Rattle.botjournal.specs.declared.reply.Verdict.{Verdict}
use Rattle.botjournal.specs.declared.reply.Verdict.TheVariants.{Taken, Refused as refused_request}
use Rattle.protocol.specs.Numbers.{item_at}
use Rattle.protocol.specs.Packets.{Packet, Outgoing, Sent, AcceptedChange}
use Rattle.protocol.specs.Packets.Packet.{Hello, Change, Request, Accepted, Refused, BotText, Part}
use Rattle.protocol.specs.Snapshots.{part_count, part_of}
use Rattle.protocol.specs.History.{PastHub, PastLeaf, records_of}

-- an accepted change of these fields has this number
abbrev pub IsAccepted : List AcceptedChange → ℕ → ℕ → ℕ → UserChange → Type 0
IsAccepted accepted number origin request change =
    item_at accepted number ≡ Some (record { origin = origin; request = request; change = change })

-- the part of this number, out of `count`, of the records at a version that was reached
pub record IsPart (accepted : List AcceptedChange) (version part count : ℕ) (items : List Record) : Type 0 where
  pub reached : version ≤ length accepted
  pub many : count ≡ part_count (records_of accepted version)
  pub these : items ≡ part_of (records_of accepted version) part

-- the statement of a packet is true: a hello has the layout of all bots; its version and a text state nothing of
-- history
abbrev pub IsTrue : PastHub → (ℕ → List UserChange) → Packet → Type 0
IsTrue hub asked (Hello layout leaf version) = layout ≡ LAYOUT
IsTrue hub asked (Change number origin request change) = IsAccepted hub.accepted number origin request change
IsTrue hub asked (Request leaf request change) = item_at (asked leaf) request ≡ Some change
IsTrue hub asked (Accepted leaf request number) = item_at (hub.answers leaf) request ≡ Some (Taken number)
IsTrue hub asked (Refused leaf request fault) = item_at (hub.answers leaf) request ≡ Some (refused_request fault)
IsTrue hub asked (BotText from to text) = Unit {0}
IsTrue hub asked (Part version part count items) = IsPart hub.accepted version part count items

-- the answer to a leaf's request of this number, which is one of its last eight
abbrev pub IsRecentAnswer : PastHub → ℕ → ℕ → Verdict → Type 0
IsRecentAnswer hub leaf request answer =
    (length (hub.answers leaf) < request + 8) × (item_at (hub.answers leaf) request ≡ Some answer)

-- what the hub sends in a step: an answer is always one of the last eight to its leaf
abbrev pub HubSays : PastHub → Packet → Type 0
HubSays hub (Hello layout leaf version) = ⊥
HubSays hub (Change number origin request change) = IsAccepted hub.accepted number origin request change
HubSays hub (Request leaf request change) = ⊥
HubSays hub (Accepted leaf request number) = IsRecentAnswer hub leaf request (Taken number)
HubSays hub (Refused leaf request fault) = IsRecentAnswer hub leaf request (refused_request fault)
HubSays hub (BotText from to text) = Unit {0}
HubSays hub (Part version part count items) = IsPart hub.accepted version part count items

-- what a leaf sends in a step: its layout and version, its requests, and texts
abbrev pub LeafSays : ℕ → PastLeaf → Packet → Type 0
LeafSays number leaf (Hello layout from version) = (layout ≡ LAYOUT) × ((from ≡ number) × (version ≡ leaf.version))
LeafSays number leaf (Change n origin request change) = ⊥
LeafSays number leaf (Request from request change) = (from ≡ number) × (item_at leaf.asked request ≡ Some change)
LeafSays number leaf (Accepted to request n) = ⊥
LeafSays number leaf (Refused to request fault) = ⊥
LeafSays number leaf (BotText from to text) = Unit {0}
LeafSays number leaf (Part version part count items) = ⊥

-- an answer that is sent is one that the hub keeps, one of the last eight to its leaf
abbrev pub IsKeptAnswer : PastHub → Packet → Type 0
IsKeptAnswer hub (Hello layout leaf version) = Unit {0}
IsKeptAnswer hub (Change number origin request change) = Unit {0}
IsKeptAnswer hub (Request leaf request change) = Unit {0}
IsKeptAnswer hub (Accepted leaf request number) = IsRecentAnswer hub leaf request (Taken number)
IsKeptAnswer hub (Refused leaf request fault) = IsRecentAnswer hub leaf request (refused_request fault)
IsKeptAnswer hub (BotText from to text) = Unit {0}
IsKeptAnswer hub (Part version part count items) = Unit {0}

-- ---- of lists

abbrev pub AllSent : (Packet → Type 0) → List Sent → Type 0
AllSent Says [] = Unit {0}
AllSent Says (sent ∷ packets) = Says sent.packet × AllSent Says packets

abbrev pub AllOutgoing : (Packet → Type 0) → List Outgoing → Type 0
AllOutgoing Says [] = Unit {0}
AllOutgoing Says (outgoing ∷ packets) = Says outgoing.packet × AllOutgoing Says packets
