-- Passing over records, without building them.
use Rattle.std.specs.Prelude.{◌≡◌, ℕ, List, Result, Ok, Err}
use Rattle.bytetext.specs.declared.failure.Failure.{Failure}
use Rattle.usercodec.specs.declared.fault.CodecFault.{CodecFault}
use Rattle.usercodec.specs.declared.records.Record.{Record}
use Rattle.usercodec.specs.Answers.{Fails}
use Rattle.usercodec.specs.Fields.{Reading}
use Rattle.botjournal.specs.declared.base.Base.{Base}

-- A reader that passes over a value leaves the bytes after it. It may run out of memory before it finds a fault.
abbrev pub PassesSome : {A : Type 0} → Result Unit (Failure CodecFault) → Reading A → List ℕ → Type 0
PassesSome {A = A} (Ok done) reading rest = (value : A) × (reading ≡ Ok (value, rest))
PassesSome (Err failure) reading rest = Fails failure reading

-- the base with these records
abbrev pub with_records : List Record → Base → Base
with_records records base = record base { records = records }

-- A reader that passes over a base's records returns the base with other records.
abbrev pub FindsAround : Result Base (Failure CodecFault) → Reading Base → List ℕ → Type 0
FindsAround (Ok base) reading rest = (records : List Record) × (reading ≡ Ok (with_records records base, rest))
FindsAround (Err failure) reading rest = Fails failure reading
