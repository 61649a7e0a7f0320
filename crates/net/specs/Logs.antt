-- The log of a process: what waits to be written.
use Rattle.std.specs.Prelude.{◌≡◌, ℕ, ◌+◌, ◌-◌, ◌^◌, ◌≤◌, ◌<◌, ◌⊎◌, ◌==◌, if◌then◌else◌, min, nat_le, List, [], ◌++◌, length, take, drop, Option, IfSome, codes, decimal}
use Rattle.net.specs.LogForms.{line_in}
use Rattle.net.specs.Tails.{Tail, no_tail, tail_after}
use Rattle.net.specs.declared.log_form.LogForm.{LogForm}
use Rattle.net.specs.declared.log_form.LogForm.TheVariants.{Text}
use Rattle.net.specs.declared.log_lines.TheConstants.{MAX_LOG_LINE}
use Rattle.net.specs.declared.logging.TheConstants.{MAX_LOG_WAITING}
use Rattle.streams.specs.declared.stream.Taken.{Taken}
use Rattle.streams.specs.declared.stream.Taken.TheVariants.{Bytes as takes_bytes, Nothing, Fault as fails_to_take}

pub record Logged : Type 0 where
  pub form : LogForm
  pub waiting : List ℕ  -- the bytes of the lines that wait
  pub dropped : ℕ  -- how many lines did not fit, since the last one that was kept
  pub unmade : ℕ  -- for how many no memory was left, since the last one that was kept
  pub tail : Tail  -- the last lines that were kept

-- a log of no line yet
abbrev pub nothing_yet : Logged
nothing_yet = record { form = Text; waiting = []; dropped = 0; unmade = 0; tail = no_tail }

-- the line that tells that so many lines were dropped, and why, if some were
abbrev pub gap_line : LogForm → List ℕ → ℕ → ℕ → List ℕ
gap_line form why count now =
    if count == 0 then [] else
    line_in form now (codes "log: " ++ (why ++ (codes ", so lines were dropped: " ++ decimal count)))

-- the lines that tell of all that were dropped
abbrev pub gap_lines : LogForm → ℕ → ℕ → ℕ → List ℕ
gap_lines form dropped unmade now =
    gap_line form (codes "too much waited to be written") dropped now ++ gap_line form (codes "memory ran out") unmade now

-- what happened; nothing is claimed of an entry that doesn't say what it shows
abbrev pub Says : Option (List ℕ) → List ℕ → Type 0
Says shown happened = IfSome shown (λ text. happened ≡ text)

-- What happened as a line: its front, which is all of it if it is short enough.
pub record IsLineOf (form : LogForm) (now : ℕ) (happened line : List ℕ) : Type 0 where
  pub count : ℕ
  pub most : count ≤ MAX_LOG_LINE
  pub all : length happened ≤ MAX_LOG_LINE → count ≡ length happened
  pub items : line ≡ line_in form now (take count happened)

-- The line of an entry, after the lines that tell of those that were dropped before it.
pub record AreLines (form : LogForm) (dropped unmade now : ℕ) (shown : Option (List ℕ)) (lines : List ℕ) : Type 0 where
  pub happened : List ℕ
  pub line : List ℕ
  pub says : Says shown happened
  pub is_line : IsLineOf form now happened line
  pub all : lines ≡ gap_lines form dropped unmade now ++ line

-- the lines wait after all that waited, and are the last
abbrev pub with_lines : List ℕ → Logged → Logged
with_lines lines log = record { form = log.form; waiting = log.waiting ++ lines; dropped = 0; unmade = 0; tail = tail_after lines log.tail }

-- one more; the count stays at the greatest u64
abbrev pub one_more : ℕ → ℕ
one_more count = min (count + 1) (2 ^ 64 - 1)

-- the lines are kept if they fit with what waits, and else dropped and counted
abbrev pub queued : List ℕ → Logged → Logged
queued lines log =
    if nat_le (length log.waiting + length lines) MAX_LOG_WAITING then with_lines lines log else record log { dropped = one_more log.dropped }

-- no memory was left for the lines, which is counted
abbrev pub without_memory : Logged → Logged
without_memory log = record log { unmade = one_more log.unmade }

-- an entry's lines are queued, unless no memory is left for them
pub record Queues (now : ℕ) (shown : Option (List ℕ)) (old new : Logged) : Type 0 where
  pub lines : List ℕ
  pub are_lines : AreLines old.form old.dropped old.unmade now shown lines
  pub queued : new ≡ queued lines old

abbrev pub Notes : ℕ → Option (List ℕ) → Logged → Logged → Type 0
Notes now shown old new = Queues now shown old new ⊎ (new ≡ without_memory old)

-- ---- writing

-- What waits after a writer's answer: the bytes that it did not take. If it failed, all of them, to be tried again.
abbrev pub IsLeftAfter : Taken → List ℕ → List ℕ → Type 0
IsLeftAfter (takes_bytes n) old new = (0 < n) × (new ≡ drop n old)
IsLeftAfter Nothing old new = new ≡ old
IsLeftAfter fails_to_take old new = new ≡ old

-- these bytes end with those
abbrev pub EndsWith : List ℕ → List ℕ → Type 0
EndsWith all end = (count : ℕ) × (end ≡ drop count all)

-- what is queued or written leaves the rest of a log as it was
abbrev pub SameCounts : Logged → Logged → Type 0
SameCounts old new = (new.form ≡ old.form) × (new.dropped ≡ old.dropped) × (new.unmade ≡ old.unmade) × (new.tail ≡ old.tail)
