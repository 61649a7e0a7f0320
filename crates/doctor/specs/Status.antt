-- How bad a finding is, and the exit status.
use Rattle.std.specs.Prelude.{◌≡◌, ℕ, Bool, true, false, List, [], ◌∷◌, ◌++◌, if◌then◌else◌}
use Rattle.std.specs.List.{list_any}
use Rattle.doctor.specs.declared.rank.Rank.{Rank}
use Rattle.doctor.specs.declared.verdict.Verdict.{Verdict}
use Rattle.doctor.specs.declared.verdict.Verdict.TheVariants.{Fine, Note, Bad}

-- a verdict's kind is its rank
abbrev pub rank_of : Verdict → Rank
rank_of (Fine fine) = Rank.Fine
rank_of (Note note) = Rank.Note
rank_of (Bad bad) = Rank.Bad

abbrev pub is_bad : Rank → Bool
is_bad Rank.Fine = false
is_bad Rank.Note = false
is_bad Rank.Bad = true

-- the exit status after findings of these ranks
abbrev pub status_of : List Rank → ℕ
status_of ranks = if list_any is_bad ranks then 1 else 0

-- findings that are printed one after another
pub record Told : Type 0 where
  pub ranks : List Rank
  -- each was printed that was to be printed
  pub is_whole : Bool

abbrev pub nothing : Told
nothing = record { ranks = []; is_whole = true }

-- what is whole after one more was to be printed was whole before, and has its rank at the end
abbrev pub Tells : Told → Rank → Told → Type 0
Tells old rank new = new.is_whole ≡ true → (old.is_whole ≡ true) × (new.ranks ≡ old.ranks ++ rank ∷ [])
