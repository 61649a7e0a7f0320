-- What a history of writes, syncs and openings says about what a crash may leave.
use Rattle.std.specs.Prelude.{◌≡◌, ◌⊎◌, ◌==◌, ◌≤◌, ◌+◌, Bool, IsTrue, if◌then◌else◌, ℕ, zero, suc, max, List, [], ◌∷◌, length, take, drop, slice_index}

-- A write, a sync or an opening: its kind, its offset, its length, and the bytes that a read gave before it.
pub record Event : Type 0 where
  pub is_write : Bool
  pub is_opening : Bool
  pub at : ℕ
  pub len : ℕ
  pub seen : List ℕ

-- the event that three numbers and the bytes before it describe
abbrev pub event_of : List ℕ → List ℕ → Event
event_of numbers before = record {
  is_write = slice_index numbers 0 == 1;
  is_opening = slice_index numbers 0 == 2;
  at = slice_index numbers 1;
  len = slice_index numbers 2;
  seen = before;
}

-- how many of the events are openings
abbrev pub openings : List Event → ℕ
openings [] = zero
openings (event ∷ past) = if event.is_opening then suc (openings past) else openings past

-- After a write of `n` bytes at `at` that a crash cuts short: the range and the part past the old end hold any bytes,
-- the rest is as it was.
pub record Torn (at n : ℕ) (old new : List ℕ) : Type 0 where
  pub before : take at new ≡ take at old
  pub after : drop (at + n) new ≡ drop (at + n) old
  pub no_shorter : length old ≤ length new
  pub no_longer : length new ≤ max (length old) (at + n)

-- What a crash may leave after these events, the newest first, when a read gives `seen`: either `seen` itself, or an
-- image from before a write since the last sync, with the written range torn.
abbrev pub Images : List Event → List ℕ → List ℕ → Type 0
Images [] seen image = image ≡ seen
Images (event ∷ past) seen image = (image ≡ seen) ⊎ (IsTrue event.is_write
    × ((earlier : List ℕ) × Images past event.seen earlier × Torn event.at event.len earlier image))

-- What a crash at some moment since `t` might have left. A moment is the number of events before it.
abbrev pub LeftSince : List Event → List ℕ → ℕ → List ℕ → Type 0
LeftSince [] seen t image = image ≡ seen
LeftSince (event ∷ past) seen t image = Images (event ∷ past) seen image ⊎ ((t ≤ length past) × LeftSince past event.seen t image)
