-- The one spelling of an entry in each layout, and what reading an entry returns.
use Rattle.std.specs.Prelude.{◌≡◌, ℕ, ◌<◌, ◌^◌, ◌==◌, List, [], ◌∷◌, ◌++◌, Option, Some, None, Result, Ok, Err, if◌then◌else◌}
use Rattle.std.specs.Int.{w16, w32}
use Rattle.bytetext.specs.declared.failure.Failure.{Failure}
use Rattle.bytetext.specs.declared.failure.Failure.TheVariants.{Refused, NoMemory as RanOut}
use Rattle.bytetext.specs.declared.memory.NoMemory.{NoMemory}
use Rattle.userfile.specs.Apply.{bad_shape}
use Rattle.userfile.specs.declared.change.Change.{Change}
use Rattle.usercodec.specs.declared.fault.CodecFault.{CodecFault}
use Rattle.usercodec.specs.declared.fault.CodecFault.TheVariants.{BadTag}
use Rattle.usercodec.specs.Fields.{number, Reading, ◌>>=◌, byte_at, number_at}
use Rattle.usercodec.specs.Changes.{change_bytes, IsGoodChange, both, made}
use Rattle.usercodec.specs.FaultBytes.{fault_byte, fault_at}
use Rattle.botjournal.specs.Whole.{whole}
use Rattle.botjournal.specs.Layouts.{IsGoodChangeBy, change_by}
use Rattle.botjournal.specs.declared.layouts.Layout.{Layout}
use Rattle.botjournal.specs.declared.entry.Entry.{Entry}
use Rattle.botjournal.specs.declared.entry.Entry.TheVariants.{Accepted, Settled, Applied, ReqOut, ReqDone}

-- ---- spellings

-- an entry: a byte that is its tag, and its fields, each number with its most significant byte first. All layouts spell
-- it alike, if the layout has its change.
abbrev pub entry_bytes : Entry → List ℕ
entry_bytes (Accepted origin request change) = 1 ∷ (number w16 origin ++ (number w32 request ++ change_bytes change))
entry_bytes (Settled leaf request fault) = 2 ∷ (number w16 leaf ++ (number w32 request ++ fault_byte fault ∷ []))
entry_bytes (Applied n change) = 3 ∷ (number w32 n ++ change_bytes change)
entry_bytes (ReqOut request change) = 4 ∷ (number w32 request ++ change_bytes change)
entry_bytes (ReqDone request) = 5 ∷ number w32 request

-- the shape of its change is good, as the userfile says
abbrev pub HasShape : Entry → Type 0
HasShape (Accepted origin request change) = bad_shape change ≡ None
HasShape (Settled leaf request fault) = Unit {0}
HasShape (Applied n change) = bad_shape change ≡ None
HasShape (ReqOut request change) = bad_shape change ≡ None
HasShape (ReqDone request) = Unit {0}

-- an entry whose change has a spelling, and whose numbers have room
abbrev pub IsGoodWith : (Change → Type 0) → Entry → Type 0
IsGoodWith IsGood (Accepted origin request change) = (origin < 2 ^ 16) × ((request < 2 ^ 32) × IsGood change)
IsGoodWith IsGood (Settled leaf request fault) = (leaf < 2 ^ 16) × (request < 2 ^ 32)
IsGoodWith IsGood (Applied n change) = (n < 2 ^ 32) × IsGood change
IsGoodWith IsGood (ReqOut request change) = (request < 2 ^ 32) × IsGood change
IsGoodWith IsGood (ReqDone request) = request < 2 ^ 32

-- an entry that has a spelling
abbrev pub IsGoodEntry : Entry → Type 0
IsGoodEntry entry = IsGoodWith IsGoodChange entry

-- an entry that has a spelling in this layout
abbrev pub IsGoodEntryBy : Layout → Entry → Type 0
IsGoodEntryBy layout entry = IsGoodWith (IsGoodChangeBy layout) entry

-- ---- reading

unfoldable pub accepted_at : Layout → List ℕ → Reading Entry
accepted_at layout bytes = made (λ x. Accepted x.0 x.1.0 x.1.1) (both (number_at w16) (both (number_at w32) (change_by layout)) bytes)

unfoldable pub settled_at : List ℕ → Reading Entry
settled_at bytes = made (λ x. Settled x.0 x.1.0 x.1.1) (both (number_at w16) (both (number_at w32) fault_at) bytes)

unfoldable pub applied_at : Layout → List ℕ → Reading Entry
applied_at layout bytes = made (λ x. Applied x.0 x.1) (both (number_at w32) (change_by layout) bytes)

unfoldable pub request_out_at : Layout → List ℕ → Reading Entry
request_out_at layout bytes = made (λ x. ReqOut x.0 x.1) (both (number_at w32) (change_by layout) bytes)

unfoldable pub request_done_at : List ℕ → Reading Entry
request_done_at bytes = made ReqDone (number_at w32 bytes)

-- the fields after a tag
unfoldable pub entry_fields_at : Layout → ℕ → List ℕ → Reading Entry
entry_fields_at layout tag bytes =
    if tag == 1 then accepted_at layout bytes
    else (if tag == 2 then settled_at bytes
    else (if tag == 3 then applied_at layout bytes
    else (if tag == 4 then request_out_at layout bytes
    else (if tag == 5 then request_done_at bytes
    else Err BadTag))))

unfoldable pub entry_at : Layout → List ℕ → Reading Entry
entry_at layout bytes = do
  tag ← byte_at bytes
  entry_fields_at layout tag.0 tag.1

-- an entry that holds a change
abbrev pub HoldsChange : Entry → Type 0
HoldsChange (Accepted origin request change) = Unit {0}
HoldsChange (Settled leaf request fault) = ⊥
HoldsChange (Applied n change) = Unit {0}
HoldsChange (ReqOut request change) = Unit {0}
HoldsChange (ReqDone request) = ⊥

-- what was read is an entry whose change is copied
abbrev pub TakesMemory : Reading Entry → Type 0
TakesMemory (Ok x) = HoldsChange x.0
TakesMemory (Err fault) = ⊥

-- the result is what reading gives, and this rest is left, or memory ran out
abbrev pub MakesEntry : Result Entry (Failure CodecFault) → List ℕ → Reading Entry → Type 0
MakesEntry (Ok entry) rest reading = reading ≡ Ok (entry, rest)
MakesEntry (Err (Refused fault)) rest reading = reading ≡ Err fault
MakesEntry (Err RanOut) rest reading = TakesMemory reading

-- ---- entries that are all of their bytes

-- the entry whose spelling in this layout these bytes are
abbrev pub entry_in : Layout → List ℕ → Option Entry
entry_in layout bytes = whole (entry_at layout bytes)

-- what was found is spelled by these bytes in this layout
abbrev pub IsEntryOf : Layout → List ℕ → Option Entry → Type 0
IsEntryOf layout bytes None = Unit {0}
IsEntryOf layout bytes (Some entry) = IsGoodEntryBy layout entry × (bytes ≡ entry_bytes entry)

-- this entry was found, unless memory ran out
abbrev pub FindsEntry : Entry → Result (Option Entry) NoMemory → Type 0
FindsEntry entry (Ok found) = found ≡ Some entry
FindsEntry entry (Err e) = Unit {0}
