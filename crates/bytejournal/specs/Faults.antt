-- Why a journal refuses a call, as transcripts print it.
use Rattle.std.specs.Prelude.{ℕ, List, codes}
use Rattle.bytejournal.specs.declared.fault.JournalFault.{JournalFault}
use Rattle.bytejournal.specs.declared.fault.JournalFault.TheVariants.{DiskFault, NotAJournal, Spent, GenerationsSpent}

abbrev pub code_of : JournalFault → List ℕ
code_of DiskFault = codes "J1"
code_of NotAJournal = codes "J2"
code_of Spent = codes "J3"
code_of GenerationsSpent = codes "J4"
