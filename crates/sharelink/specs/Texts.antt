-- When a bot may send a text to another, and what goes out.
use Rattle.std.specs.Prelude.{◌≡◌, ◌<◌, ◌≤◌, ℕ, nat_le, List, [], ◌∷◌, if◌then◌else◌, Option, None, Some, Result, Ok, Err}
use Rattle.bytetext.specs.declared.failure.Failure.{Failure}
use Rattle.bytetext.specs.declared.failure.Failure.TheVariants.{Refused, NoMemory}
use Rattle.sharewire.specs.declared.packet.Packet.TheVariants.{BotText}
use Rattle.protocol.specs.Notes.Note.{Relayed}
use Rattle.protocol.specs.Bots.{Row}
use Rattle.protocol.specs.HubRules.{is_bad_text}
use Rattle.sharelink.specs.Calls.{IsFault, outgoing_of}
use Rattle.sharelink.specs.declared.answer.Outgoing.{Outgoing}
use Rattle.sharelink.specs.declared.error.LinkFault.{LinkFault}
use Rattle.sharelink.specs.declared.error.LinkFault.TheVariants.{Down, BadChange, AsksFull, Diverged, NumbersSpent, JournalFault, BadBotText, TextsFull, DiskFault, OtherLayout}
use Rattle.sharelink.specs.declared.TheConstants.{MAX_TEXTS}

-- why this bot may not send a text to another, if its step has sent this number of texts
abbrev pub text_fault : ℕ → ℕ → ℕ → List ℕ → ℕ → Option LinkFault
text_fault leaves number to text sent =
    if is_bad_text leaves number to text then Some BadBotText
    else if nat_le MAX_TEXTS sent then Some TextsFull
    else None

-- a text from one bot to another, sent to the bot that takes it next
abbrev pub text_by : ℕ → ℕ → ℕ → List ℕ → Outgoing
text_by next from to text = record { to = next; packet = BotText from to text }

module _ {S : Type 0} (row : Row S) (sent : ℕ) where
  -- why a text doesn't go out: its row says so, or its step has already sent the most texts allowed
  abbrev pub TextRefused : LinkFault → Type 0
  TextRefused TextsFull = (row.told ≡ Ok Relayed) × (MAX_TEXTS ≤ sent)
  TextRefused Down = IsFault Down row.told
  TextRefused (BadChange fault) = IsFault (BadChange fault) row.told
  TextRefused AsksFull = IsFault AsksFull row.told
  TextRefused Diverged = IsFault Diverged row.told
  TextRefused NumbersSpent = IsFault NumbersSpent row.told
  TextRefused JournalFault = IsFault JournalFault row.told
  TextRefused BadBotText = IsFault BadBotText row.told
  TextRefused DiskFault = IsFault DiskFault row.told
  TextRefused OtherLayout = IsFault OtherLayout row.told

  -- A text to send, by cases on the result: its row says what goes. It runs out of memory only if the text would go.
  abbrev pub Sends : Result Outgoing (Failure LinkFault) → Type 0
  Sends (Ok outgoing) = (row.told ≡ Ok Relayed) × (sent < MAX_TEXTS) × (row.sends ≡ outgoing_of outgoing ∷ [])
  Sends (Err (Refused fault)) = TextRefused fault
  Sends (Err NoMemory) = (row.told ≡ Ok Relayed) × (sent < MAX_TEXTS)
