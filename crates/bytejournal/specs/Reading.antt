-- What is known of the bytes that were read.
use Rattle.std.specs.Prelude.{◌≡◌, ◌≢◌, ◌<◌, ◌≤◌, ◌∷◌, ◌++◌, ℕ, Some, List, length, take, slice_index}
use Rattle.bytejournal.specs.declared.reading.Entries.{Entries}
use Rattle.bytejournal.specs.declared.reading.Found.{Found}
use Rattle.bytejournal.specs.declared.reading.Front.{Front}
use Rattle.bytejournal.specs.declared.reading.Reading.{Reading}
use Rattle.bytejournal.specs.declared.reading.Reading.TheVariants.{Shut as shut, Broken as broken, Open as is_open}
use Rattle.bytejournal.specs.Meaning.{held, letters, numbered, sized, IsFront, AreEntries}
use Rattle.bytejournal.specs.Meaning.Held.{Broken}

-- no open gate stands at this offset
abbrev pub EndsAt : List ℕ → ℕ → Type 0
EndsAt bytes gate = gate < length bytes → slice_index bytes gate ≢ 1

-- the bytes are these entries, up to a gate that isn't open
pub record HasEntries (bytes : List ℕ) (found : Entries) : Type 0 where
  pub inside : found.gate ≤ length bytes
  pub entries : AreEntries (take found.gate bytes) found.texts
  pub ends : EndsAt bytes found.gate

-- the bytes are entries, up to a gate at this offset that isn't open
abbrev pub EndAt : List ℕ → ℕ → Type 0
EndAt bytes gate = (texts : List (List ℕ)) × HasEntries bytes (record { texts = texts; gate = gate })

-- the bytes after an open first gate begin so
pub record HasFront (bytes : List ℕ) (front : Front) : Type 0 where
  pub numbers : List ℕ
  pub sizes : List ℕ
  pub begins : bytes ≡ letters ++ (front.layout ∷ numbers)
  pub number : numbered numbers ≡ Some (front.generation, sizes)
  pub text : sized sizes ≡ Some (front.base.now, front.rest.now)

-- the bytes are this journal's, up to a gate that isn't open
pub record IsFound (bytes : List ℕ) (found : Found) : Type 0 where
  pub inside : found.gate ≤ length bytes
  pub front : IsFront (take found.gate bytes) (record { layout = found.layout; generation = found.generation; base = found.base; entries = found.entries })
  pub ends : EndsAt bytes found.gate

abbrev pub Reads : List ℕ → Reading → Type 0
Reads bytes shut = EndsAt bytes 0
Reads bytes broken = held bytes ≡ Broken
Reads bytes (is_open found) = IsFound bytes found
