-- The sum of a bot's records, computed once for each version.
use Rattle.std.specs.Prelude.{ℕ, ◌==◌, List, Option, None, Some, if◌then◌else◌}
use Rattle.userfile.specs.Records.{Records}
use Rattle.recordsums.specs.RecordSums.{sum_of}
use Rattle.recordsums.specs.declared.kept_sum.KeptSum.{KeptSum}
use Rattle.recordsums.specs.declared.kept_sum.SumAt.{SumAt}

abbrev pub no_sum : KeptSum
no_sum = record { kept = None }

abbrev pub kept_at : ℕ → List ℕ → KeptSum
kept_at version sum = record { kept = Some (record { version = version; sum = sum }) }

-- the kept sum if it is that of this version, else that of these records
abbrev pub sum_or : Option SumAt → ℕ → Records → List ℕ
sum_or None version held = sum_of held
sum_or (Some kept) version held = if kept.version == version then kept.sum else sum_of held

abbrev pub sum_at : KeptSum → ℕ → Records → List ℕ
sum_at sums version held = sum_or sums.kept version held
