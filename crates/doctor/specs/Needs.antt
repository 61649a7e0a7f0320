-- How many files a bot may have open.
use Rattle.std.specs.Prelude.{ℕ, ◌+◌, ◌==◌, ◌&&◌, nat_lt, Option, None, Some, if◌then◌else◌}
use Rattle.settings.specs.declared.settings.Station.{Station}
use Rattle.peers.specs.declared.hub_links.TheConstants.{MAX_GUESTS}
use Rattle.doctor.specs.declared.files.TheConstants.{OWN_FILES}
use Rattle.doctor.specs.declared.verdict.Verdict.{Verdict}
use Rattle.doctor.specs.declared.verdict.Verdict.TheVariants.{Fine, Note, Bad}
use Rattle.doctor.specs.declared.verdict.Fine.TheVariants as Fine
use Rattle.doctor.specs.declared.verdict.Note.TheVariants as Note
use Rattle.doctor.specs.declared.verdict.Bad.TheVariants as Bad

-- a hub has a file for each leaf, and for each guest that has not shown which leaf it is
abbrev pub files_needed : Station → ℕ
files_needed station =
    if station.number == 0 && nat_lt 0 station.leaves then station.leaves + MAX_GUESTS + OWN_FILES else OWN_FILES

-- the limit, if it is known, is to be as high as what is needed
abbrev pub verdict_of_limit : Option ℕ → ℕ → Verdict
verdict_of_limit None needed = Note (Note.Files needed)
verdict_of_limit (Some limit) needed = if nat_lt limit needed then Bad (Bad.Files limit needed) else Fine (Fine.Files limit needed)
