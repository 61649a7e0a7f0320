use Rattle.std.proofs.Common.{◌≡◌, drop}
use Rattle.std.specs.List.{AllByRecursion}
use Rattle.botjournal.specs.Entries.{IsGoodEntry}
use Rattle.botjournal.specs.Contents.{entries_in}
use Rattle.botjournal.proofs.JournalLaws.{all_before}
use Rattle.botjournal.proofs.opening.read_entries.Given as goal

-- those so far before those that are left are all of them, and each has a spelling
abbrev pub invariant-loop-text : goal.invariant-loop-text
invariant-loop-text l =
    (entries_in l.layout l.texts ≡ all_before l.entries.items (entries_in l.layout (drop l.text-index l.texts))) × AllByRecursion IsGoodEntry l.entries.items
