-- The lines of a stream of bytes.
use Rattle.std.specs.Prelude.{◌≡◌, ℕ, true, false, List, [], ◌∷◌, ◌++◌, Option, Some, None, map, take, IsTrue, if◌then◌else◌}
use Rattle.std.specs.List.{list_all, list_any}
use Rattle.ircline.specs.declared.line.Line.{Line}
use Rattle.ircline.specs.Classes.{is_end, filled}
use Rattle.ircline.specs.Reading.{line_of}

-- a run, if it isn't empty, before others
abbrev pub with_run : List ℕ → List (List ℕ) → List (List ℕ)
with_run [] runs = runs
with_run (b ∷ bs) runs = (b ∷ bs) ∷ runs

-- the runs that an end follows; the stream continues a run that has begun
abbrev pub runs_from : List ℕ → List ℕ → List (List ℕ)
runs_from run [] = []
runs_from run (b ∷ bs) = if is_end b then with_run run (runs_from [] bs) else runs_from (run ++ b ∷ []) bs

-- the run after the last end
abbrev pub rest_from : List ℕ → List ℕ → List ℕ
rest_from run [] = run
rest_from run (b ∷ bs) = if is_end b then rest_from [] bs else rest_from (run ++ b ∷ []) bs

-- the lines that the stream so far ends, in order
abbrev pub lines_of : List ℕ → List Line
lines_of stream = map line_of (runs_from [] stream)

-- the run that the stream so far has begun and not ended
abbrev pub begun : List ℕ → List ℕ
begun stream = rest_from [] stream

-- what the reader must hold of that run: no more than shows that it is too long
abbrev pub held_of : List ℕ → List ℕ
held_of stream = take 511 (begun stream)

-- the line of a last run, if it isn't empty
abbrev pub last_line : List ℕ → Option Line
last_line [] = None
last_line (b ∷ bs) = Some (line_of (b ∷ bs))

-- no byte of it ends a line
abbrev pub IsRun : List ℕ → Type 0
IsRun run = list_any is_end run ≡ false

-- each of its bytes ends a line
abbrev pub IsEnds : List ℕ → Type 0
IsEnds ends = list_all is_end ends ≡ true

-- The stream is these runs, each as long as possible, between bytes that end lines, and then a run that no byte ends.
abbrev pub Splits : List ℕ → List (List ℕ) → List ℕ → Type 0
Splits stream [] rest = (ends : List ℕ) × (stream ≡ ends ++ rest) × IsEnds ends × IsRun rest
Splits stream (run ∷ runs) rest =
    (ends : List ℕ) × (last : ℕ) × (more : List ℕ) × (stream ≡ ends ++ (run ++ last ∷ more))
    × IsEnds ends × IsTrue (filled run) × IsRun run × IsTrue (is_end last) × Splits more runs rest
