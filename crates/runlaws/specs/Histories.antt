-- The changes that the hub accepts in a world, and what bots hold of them.
use Rattle.std.specs.Prelude.{◌≡◌, ℕ, Bool, true, false, List, [], ◌∷◌, Some}
use Rattle.protocol.specs.Packets.{AcceptedChange}
use Rattle.protocol.specs.History.{records_of}
use Rattle.botcore.specs.Bots.{Bot}
use Rattle.botcore.specs.Links.{link_version, link_records}
use Rattle.botworld.specs.Network.{GrowsByNote}
use Rattle.watching.specs.Acts.{Act, Opens, Creates, Began, Told, Made, Forgets, Hears, Sends, Waits}
use Rattle.processes.specs.Deeds.{AtMostOneMore}
use Rattle.runlaws.specs.Folders.{Folder, What, Does, Takes, Ends, Happening, holds, bot_of}

-- What happens in a folder that holds its number, or doesn't. A step of the hub accepts changes as its report says. The
-- end of a process leaves at most the change that the hub was journaling, and so does a bot that begins.
abbrev pub GrowsBy : Bool → ℕ → Act → List AcceptedChange → List AcceptedChange → Type 0
GrowsBy false number act old new = new ≡ old
GrowsBy true number (Opens first second) old new = new ≡ old
GrowsBy true number (Creates first second last) old new = new ≡ old
GrowsBy true number (Began bot) old new = AtMostOneMore old new
GrowsBy true number (Told bot event) old new = new ≡ old
GrowsBy true number (Made report bot) old new = GrowsByNote number report.note old new
GrowsBy true number (Forgets bot) old new = new ≡ old
GrowsBy true number (Hears heard) old new = new ≡ old
GrowsBy true number (Sends outgoing) old new = new ≡ old
GrowsBy true number Waits old new = new ≡ old

abbrev pub GrowsAtEnd : Bool → List AcceptedChange → List AcceptedChange → Type 0
GrowsAtEnd false old new = new ≡ old
GrowsAtEnd true old new = AtMostOneMore old new

abbrev pub GrowsIn : Bool → ℕ → What → List AcceptedChange → List AcceptedChange → Type 0
GrowsIn holding number (Does act) old new = GrowsBy holding number act old new
GrowsIn holding number (Takes bot) old new = AtMostOneMore old new
GrowsIn holding number (Ends first second) old new = GrowsAtEnd holding old new

module _ (folders : ℕ → Folder) where
  -- a bot that a process has at version v holds the records that the first v of these changes make
  abbrev pub HoldRecordsOf : List AcceptedChange → List Happening → Type 0
  HoldRecordsOf accepted world = (number : ℕ) (bot : Bot) → bot_of folders number world ≡ Some bot
      → link_records bot.link ≡ records_of accepted (link_version bot.link)

  -- These are the changes that the hub has accepted: none at first, and from then on as each happening says. At each
  -- moment the bots hold the records that they make.
  abbrev pub AreAccepted : List Happening → List AcceptedChange → Type 0
  AreAccepted [] accepted = accepted ≡ []
  AreAccepted (h ∷ world) accepted = HoldRecordsOf accepted (h ∷ world) × ((old : List AcceptedChange)
      × GrowsIn (holds folders h.folder world) (folders h.folder).number h.what old accepted × AreAccepted world old)
