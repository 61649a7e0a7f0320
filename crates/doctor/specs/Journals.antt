-- What a journal that reads well is like.
use Rattle.std.specs.Prelude.{nat_lt, if◌then◌else◌}
use Rattle.botjournal.specs.declared.TheConstants.{LAYOUT}
use Rattle.doctor.specs.declared.journal.TheConstants.{LARGE}
use Rattle.doctor.specs.declared.verdict.JournalSeen.{JournalSeen}
use Rattle.doctor.specs.declared.verdict.Verdict.{Verdict}
use Rattle.doctor.specs.declared.verdict.Verdict.TheVariants.{Fine, Note}
use Rattle.doctor.specs.declared.verdict.Fine.TheVariants as Fine
use Rattle.doctor.specs.declared.verdict.Note.TheVariants as Note

-- the next start rewrites an older journal, so its length says nothing
abbrev pub verdict_of_seen : JournalSeen → Verdict
verdict_of_seen seen =
    if nat_lt seen.layout LAYOUT then Note (Note.OldJournal seen)
    else if nat_lt LARGE seen.bytes then Note (Note.LargeJournal seen)
    else Fine (Fine.Journal seen)
