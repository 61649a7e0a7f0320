-- The letter and number of each error of a link.
use Rattle.std.specs.Prelude.{ℕ, List, codes}
use Rattle.sharelink.specs.declared.error.LinkFault.{LinkFault}
use Rattle.sharelink.specs.declared.error.LinkFault.TheVariants.{Down, BadChange, AsksFull, Diverged, NumbersSpent, JournalFault, BadBotText, TextsFull, DiskFault, OtherLayout}
use Rattle.userfile.specs.Codes.{fault_code}

abbrev pub link_code : LinkFault → List ℕ
link_code Down = codes "S2"
link_code (BadChange fault) = fault_code fault
link_code AsksFull = codes "S1"
link_code Diverged = codes "S3"
link_code NumbersSpent = codes "S4"
link_code JournalFault = codes "S5"
link_code BadBotText = codes "S7"
link_code TextsFull = codes "S6"
link_code DiskFault = codes "J1"
link_code OtherLayout = codes "S8"
