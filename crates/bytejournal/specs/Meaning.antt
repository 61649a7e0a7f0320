-- What the bytes of two disks mean as a journal. The format is our own.
--
-- A disk is a gate, the letters EGGJ, a byte that names the layout by which the texts are spelled, a generation and a
-- base's length (four bytes each, the most significant first), the base, and entries. Each entry is a gate, a length
-- (four bytes) and that number of bytes. A gate is open when it is 1. The entries end at the first gate that is closed
-- or missing, and what follows that gate doesn't count. Any layout is read: the layers above say what a text means.
use Rattle.std.specs.Prelude.{◌≡◌, ◌==◌, ◌+◌, ℕ, zero, suc, Option, None, Some, List, [], ◌∷◌, ◌++◌, length, take, drop, nat_le, nat_lt, if◌then◌else◌}
use Rattle.std.specs.Int.{w32, from_be_bytes}
use Rattle.std.specs.Str.{bytes_eq}

-- a number of four bytes, and what follows it
abbrev pub numbered : List ℕ → Option (ℕ × List ℕ)
numbered bytes = if nat_le 4 (length bytes) then Some (from_be_bytes w32 (take 4 bytes), drop 4 bytes) else None

-- this number of bytes, and what follows them
abbrev pub counted_out : Option (ℕ × List ℕ) → Option (List ℕ × List ℕ)
counted_out None = None
counted_out (Some n) = if nat_le n.0 (length n.1) then Some (take n.0 n.1, drop n.0 n.1) else None

-- a text after its length, and what follows it
abbrev pub sized : List ℕ → Option (List ℕ × List ℕ)
sized bytes = counted_out (numbered bytes)

-- this entry before others
abbrev pub entry_before : List ℕ → Option (List (List ℕ)) → Option (List (List ℕ))
entry_before entry None = None
entry_before entry (Some entries) = Some (entry ∷ entries)

-- the first entry, and the entries in what follows it
abbrev pub entries_from : (List ℕ → Option (List (List ℕ))) → Option (List ℕ × List ℕ) → Option (List (List ℕ))
entries_from others None = None
entries_from others (Some first) = entry_before first.0 (others first.1)

-- The entries up to the first gate that is closed or missing, if there are at most `limit`. None if an entry with an
-- open gate is cut short.
abbrev pub entries_within : ℕ → List ℕ → Option (List (List ℕ))
entries_within zero bytes = Some []
entries_within (suc limit) [] = Some []
entries_within (suc limit) (gate ∷ rest) = if gate == 1 then entries_from (λ more. entries_within limit more) (sized rest) else Some []

-- there are never more entries than bytes
abbrev pub entries_of : List ℕ → Option (List (List ℕ))
entries_of bytes = entries_within (length bytes) bytes

-- these entries before others
abbrev pub all_before : List (List ℕ) → Option (List (List ℕ)) → Option (List (List ℕ))
all_before entries None = None
all_before entries (Some more) = Some (entries ++ more)

-- what a journal holds: a base, and the entries appended since, spelled by a layout
pub record Contents : Type 0 where
  pub layout : ℕ
  pub generation : ℕ
  pub base : List ℕ
  pub entries : List (List ℕ)

-- what one disk holds: nothing that counts, or bytes that aren't a journal's, or a journal
pub data Held : Type 0 where
  Shut : Held
  Broken : Held
  Open : (contents : Contents) → Held

-- the contents with one more entry, and with several more
abbrev pub added : List ℕ → Contents → Contents
added entry contents = record { layout = contents.layout; generation = contents.generation; base = contents.base; entries = contents.entries ++ (entry ∷ []) }

-- another base alone, spelled by this layout, in the next generation
abbrev pub rebased : ℕ → List ℕ → Contents → Contents
rebased layout base contents = record { layout = layout; generation = contents.generation + 1; base = base; entries = [] }

abbrev pub extended : Contents → Option (List (List ℕ)) → Held
extended contents None = Broken
extended contents (Some entries) =
    Open (record { layout = contents.layout; generation = contents.generation; base = contents.base; entries = contents.entries ++ entries })

abbrev pub from_base : ℕ → ℕ → Option (List ℕ × List ℕ) → Held
from_base layout generation None = Broken
from_base layout generation (Some base) =
    extended (record { layout = layout; generation = generation; base = base.0; entries = [] }) (entries_of base.1)

abbrev pub from_generation : ℕ → Option (ℕ × List ℕ) → Held
from_generation layout None = Broken
from_generation layout (Some generation) = from_base layout generation.0 (sized generation.1)

abbrev pub from_layout : List ℕ → Held
from_layout [] = Broken
from_layout (layout ∷ rest) = from_generation layout (numbered rest)

-- the letters EGGJ
abbrev pub letters : List ℕ
letters = 69 ∷ 71 ∷ 71 ∷ 74 ∷ []

abbrev pub from_letters : List ℕ → Held
from_letters bytes = if bytes_eq (take 4 bytes) letters then from_layout (drop 4 bytes) else Broken

-- what a disk with these bytes holds
abbrev pub held : List ℕ → Held
held [] = Shut
held (gate ∷ rest) = if gate == 1 then from_letters rest else Shut

-- The contents that count: those of the disk with an open gate and the higher generation. None if no gate is open, if
-- what follows an open gate isn't a journal's, or if both gates are open with the same generation.
abbrev pub chosen : Held → Held → Option Contents
chosen Shut Shut = None
chosen Shut Broken = None
chosen Shut (Open b) = Some b
chosen Broken b = None
chosen (Open a) Shut = Some a
chosen (Open a) Broken = None
chosen (Open a) (Open b) = if nat_lt b.generation a.generation then Some a else if nat_lt a.generation b.generation then Some b else None

-- what two disks mean
abbrev pub meaning : List ℕ → List ℕ → Option Contents
meaning first second = chosen (held first) (held second)

-- whatever follows this front is read as further entries
abbrev pub IsFront : List ℕ → Contents → Type 0
IsFront front contents = (rest : List ℕ) → held (front ++ rest) ≡ extended contents (entries_of rest)

-- whatever follows these bytes is read as further entries after those
abbrev pub AreEntries : List ℕ → List (List ℕ) → Type 0
AreEntries front entries = (rest : List ℕ) → entries_of (front ++ rest) ≡ all_before entries (entries_of rest)

-- all gates exist: whatever would follow the file makes no difference
abbrev pub IsWhole : List ℕ → Type 0
IsWhole file = (rest : List ℕ) → held (file ++ rest) ≡ held file
