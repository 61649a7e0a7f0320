-- A file as contracts see it: what was written to it, as far as the system reported.
use Rattle.std.specs.Prelude.{ℕ, ℤ, ◌+◌, List, [], ◌∷◌, ◌++◌, length, take, drop, Bool}
use Rattle.disks.specs.Events.{Event}

pub record Told : Type 0 where
  pub holds : List ℕ  -- what was found in it, with what was written to it since
  pub kept : Bool  -- whether a sync came after the last write
  pub descriptor : ℤ  -- the number under which the system knows it

-- the bytes with this text at this offset
abbrev pub with_text : ℕ → List ℕ → List ℕ → List ℕ
with_text at text bytes = take at bytes ++ (text ++ drop (at + length text) bytes)

-- what a file that held `found` holds after these writes, the newest first; each is noted with the text that was
-- written
abbrev pub after_writes : List ℕ → List Event → List ℕ
after_writes found [] = found
after_writes found (event ∷ past) = with_text event.at event.seen (after_writes found past)
