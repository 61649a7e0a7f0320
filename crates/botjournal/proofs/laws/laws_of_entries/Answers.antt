use Rattle.botjournal.specs.declared.layouts.Layout.TheVariants.{Fourth}
use Rattle.botjournal.proofs.EntryLaws.{entry_again, entry_good}
use Rattle.botjournal.proofs.laws.laws_of_entries.Goals as goal

pub returns : goal.returns
returns c = record { again = entry_again Fourth; again_old = entry_again; writable = entry_good }
