-- What is sent to a server.
use Rattle.std.specs.Prelude.{◌≡◌, ℕ, true, List, [], ◌∷◌, ◌++◌}
use Rattle.std.specs.List.{AllByRecursion, flat_map}
use Rattle.streams.specs.State.{Sink}
use Rattle.serverlink.specs.Lines.{is_line}

-- a line as it is sent: with CR and LF
abbrev pub ended : List ℕ → List ℕ
ended line = line ++ 13 ∷ 10 ∷ []

-- 1 to 510 bytes, none of them NUL, CR or LF
abbrev pub IsLine : List ℕ → Type 0
IsLine line = is_line line ≡ true

-- All that a connection's stream has ever taken, followed by the unsent bytes, is exactly a sequence of lines, each
-- with its CR and LF.
pub record TellsLines (sink : Sink) (unsent : List ℕ) : Type 0 where
  pub lines : List (List ℕ)
  pub each : AllByRecursion IsLine lines
  pub told : sink.past.taken ++ unsent ≡ flat_map ended lines
