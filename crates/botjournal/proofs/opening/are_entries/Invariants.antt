use Rattle.std.proofs.Common.{◌≡◌, drop, is_some}
use Rattle.botjournal.specs.Contents.{entries_in}
use Rattle.botjournal.proofs.opening.are_entries.Given as goal

-- all texts spell entries if those that are left do
abbrev pub invariant-loop-text : goal.invariant-loop-text
invariant-loop-text l = is_some (entries_in l.layout l.texts) ≡ is_some (entries_in l.layout (drop l.text-index l.texts))
