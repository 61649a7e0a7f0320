-- What a reader returns, compared with what reading its bytes gives.
use Rattle.std.specs.Prelude.{◌≡◌, ◌≤◌, ℕ, List, length, drop, Result, Ok, Err, IsOk}
use Rattle.bytetext.specs.declared.failure.Failure.{Failure}
use Rattle.bytetext.specs.declared.failure.Failure.TheVariants.{Refused, NoMemory}
use Rattle.usercodec.specs.declared.decoded.Decoded.{Decoded}
use Rattle.usercodec.specs.declared.fault.CodecFault.{CodecFault}
use Rattle.usercodec.specs.Fields.{Reading}

-- a reader that does not allocate returns what reading gives, with its value seen through `view`
abbrev pub Tells : {A : Type 0} → Failure CodecFault → Result A CodecFault → Type 0
Tells (Refused fault) reading = reading ≡ Err fault
Tells NoMemory reading = ⊥

abbrev pub Gives : {A B : Type 0} → (A → B) → Result A (Failure CodecFault) → Result B CodecFault → Type 0
Gives view (Ok x) reading = reading ≡ Ok (view x)
Gives view (Err failure) reading = Tells failure reading

-- a reader that passes over a value, without building it, leaves the bytes after the value
abbrev pub Passes : {A : Type 0} → Result Unit (Failure CodecFault) → Reading A → List ℕ → Type 0
Passes {A = A} (Ok done) reading rest = (value : A) × (reading ≡ Ok (value, rest))
Passes (Err failure) reading rest = Tells failure reading

-- a reader that copies may also run out of memory, but only if reading gives a value
abbrev pub MayTell : {A : Type 0} → Failure CodecFault → Result A CodecFault → Type 0
MayTell (Refused fault) reading = reading ≡ Err fault
MayTell NoMemory reading = IsOk reading

abbrev pub Makes : {A B : Type 0} → (A → B) → Result A (Failure CodecFault) → Result B CodecFault → Type 0
Makes view (Ok x) reading = reading ≡ Ok (view x)
Makes view (Err failure) reading = MayTell failure reading

-- a reader that copies one value after another may run out of memory before it reaches a fault
abbrev pub Fails : {A : Type 0} → Failure CodecFault → Result A CodecFault → Type 0
Fails (Refused fault) reading = reading ≡ Err fault
Fails NoMemory reading = Unit {0}

abbrev pub Finds : {A B : Type 0} → (A → B) → Result A (Failure CodecFault) → Result B CodecFault → Type 0
Finds view (Ok x) reading = reading ≡ Ok (view x)
Finds view (Err failure) reading = Fails failure reading

-- what reading a whole value from some bytes returns: the value and the number of bytes that spell it, or the first
-- fault
abbrev pub Decodes : {A : Type 0} → List ℕ → Result (Decoded A) (Failure CodecFault) → Reading A → Type 0
Decodes bytes (Ok read) reading = (read.used ≤ length bytes) × (reading ≡ Ok (read.value, drop read.used bytes))
Decodes bytes (Err failure) reading = MayTell failure reading

-- this value was read, from `used` bytes, unless memory ran out
abbrev pub Reads : {A : Type 0} → Result (Decoded A) (Failure CodecFault) → A → ℕ → Type 0
Reads (Ok read) value used = (read.value ≡ value) × (read.used ≡ used)
Reads (Err (Refused fault)) value used = ⊥
Reads (Err NoMemory) value used = Unit {0}
