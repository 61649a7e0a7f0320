-- Values that hold nothing: reading one allocates nothing.
use Rattle.std.specs.Prelude.{◌≡◌, ◌+◌, ℕ, length, Result, Ok, Err, IfOk}
use Rattle.bytetext.specs.declared.failure.Failure.{Failure}
use Rattle.bytetext.specs.declared.failure.Failure.TheVariants.{Refused, NoMemory}
use Rattle.usercodec.specs.declared.fault.CodecFault.{CodecFault}
use Rattle.botjournal.specs.declared.base.Base.{Base}

-- how many records, replies and requests a base holds
abbrev pub item_count : Base → ℕ
item_count base = length base.records + (length base.replies + length base.out)

-- A reader of lists may run out of memory before it finds a fault, or when what it reads holds something.
abbrev pub FailsSome : {B : Type 0} → (B → Type 0) → Failure CodecFault → Result B CodecFault → Type 0
FailsSome Holds (Refused fault) reading = reading ≡ Err fault
FailsSome Holds NoMemory reading = IfOk reading Holds

-- otherwise it returns what reading gives, with its value seen by `view`
abbrev pub FindsSome : {A B : Type 0} → (A → B) → (B → Type 0) → Result A (Failure CodecFault) → Result B CodecFault → Type 0
FindsSome view Holds (Ok x) reading = reading ≡ Ok (view x)
FindsSome view Holds (Err failure) reading = FailsSome Holds failure reading
