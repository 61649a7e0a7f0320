-- What a stream of records holds: bodies, and then an incomplete record, or a fault.
use Rattle.std.specs.Prelude.{◌≡◌, ◌<◌, ◌≤◌, ◌+◌, ◌-◌, ◌*◌, ◌^◌, ℕ, List, [], ◌++◌, length, take, drop, Option, Some, None, Result, Ok, Err, IfOk}
use Rattle.std.specs.List.{AllByRecursion}
use Rattle.std.specs.Int.{w16, from_be_bytes, div_ceil}
use Rattle.bytetext.specs.declared.memory.NoMemory.{NoMemory}
use Rattle.sealing.specs.declared.fault.SealFault.{SealFault}
use Rattle.sealing.specs.declared.fault.SealFault.TheVariants.{BadLength, BadTag, Spent, Failed}
use Rattle.sealing.specs.declared.kind.Kind.TheVariants.{Frames, Beat}
use Rattle.sealing.specs.declared.limits.TheConstants.{MAX_CONTENT, OVERHEAD, TAG}
use Rattle.sealing.specs.declared.opener.OpenedPiece.{OpenedPiece}
use Rattle.sealing.specs.Records.{IsLength, IsBody, carried, tag_of, all_sealed}

-- ---- the front of a stream

-- the length in the first two bytes, the body of that length after them, and the tag after that
abbrev pub said : List ℕ → ℕ
said bytes = from_be_bytes w16 bytes

abbrev pub body_in : List ℕ → List ℕ
body_in bytes = take (said bytes) (drop 2 bytes)

abbrev pub tag_in : List ℕ → List ℕ
tag_in bytes = take TAG (drop (2 + said bytes) bytes)

-- a direction has at most so many records, since a count has 8 bytes and the last one is never used
abbrev pub max_records : ℕ
max_records = 2 ^ 64 - 1

-- less than a whole record, and nothing is wrong so far
pub record IsUnfinished (bytes : List ℕ) : Type 0 where
  pub fits : 2 ≤ length bytes → IsLength (said bytes)
  pub cut : 2 ≤ length bytes → length bytes < 2 + said bytes + TAG

-- A fault at the record of this count: of its length with its second byte, of its tag with its last byte, and that no
-- count is left before its first byte. `Failed` is no fault of a stream by itself: it says that the reader failed
-- before.
abbrev pub HasFault : List ℕ → ℕ → SealFault → List ℕ → Type 0
HasFault key count BadLength bytes = (count < max_records) × ((2 ≤ length bytes) × (IsLength (said bytes) → ⊥))
HasFault key count BadTag bytes =
    (count < max_records) × (IsLength (said bytes) × ((2 + said bytes + TAG ≤ length bytes)
    × (tag_of key count (body_in bytes) ≡ tag_in bytes → ⊥)))
HasFault key count Spent bytes = count ≡ max_records
HasFault key count Failed bytes = ⊥

-- ---- a whole stream

-- how a stream ends so far: in the beginning of a record, which is empty after a whole one, or at a fault
abbrev pub Ending : Type 0
Ending = Result (List ℕ) SealFault

abbrev pub Ends : List ℕ → ℕ → List ℕ → Ending → Type 0
Ends key count rest (Ok begun) = (rest ≡ begun) × ((count < max_records) × IsUnfinished rest)
Ends key count rest (Err fault) = HasFault key count fault rest

-- the beginning of a record, or the fault if there is one
abbrev pub ended : List ℕ → Option SealFault → Ending
ended begun None = Ok begun
ended begun (Some fault) = Err fault

-- a reader: its key, the count of the next record, and how its stream ends so far
pub record Opening : Type 0 where
  pub key : List ℕ
  pub count : ℕ
  pub ending : Ending

-- under this key the stream is the records of these bodies, from count 0 on, and a rest with this ending
pub record Opens (key stream : List ℕ) (bodies : List (List ℕ)) (opening : Opening) : Type 0 where
  pub rest : List ℕ
  pub parts : stream ≡ all_sealed key 0 bodies ++ rest
  pub good : AllByRecursion IsBody bodies
  pub few : length bodies ≤ max_records
  pub count : opening.count ≡ length bodies
  pub ends : Ends key (length bodies) rest opening.ending

-- the stream goes on with a piece, and opens as before, with what was returned for the piece
pub record GoesOn (stream piece : List ℕ) (bodies : List (List ℕ)) (old new : Opening) (opened : OpenedPiece) : Type 0 where
  pub more : List (List ℕ)
  pub frames : opened.frames.items ≡ carried Frames more
  pub beats : opened.beats.items ≡ carried Beat more
  pub opens : Opens old.key (stream ++ piece) (bodies ++ more) new

-- if a stream opens with some bodies, then that stream and the piece after it open with those bodies and the piece's
abbrev pub OpensOn : List ℕ → Opening → Opening → Result OpenedPiece NoMemory → Type 0
OpensOn piece old new result =
    (stream : List ℕ) (bodies : List (List ℕ)) → Opens old.key stream bodies old
    → IfOk result (λ opened. GoesOn stream piece bodies old new opened)

-- the fault of a stream with this ending
abbrev pub fault_in : Ending → Option SealFault
fault_in (Ok begun) = None
fault_in (Err fault) = Some fault

-- the fault that is reported when the ending of a stream changes from the first to the second
abbrev pub fault_told : Ending → Ending → Option SealFault
fault_told (Err fault) new = Some Failed
fault_told (Ok begun) new = fault_in new

-- ---- a stream that is written

-- a writer: its key, and the count of the next record
pub record Sealing : Type 0 where
  pub key : List ℕ
  pub count : ℕ

-- as many records as frames of this length need
abbrev pub record_count : ℕ → ℕ
record_count n = div_ceil n MAX_CONTENT

-- as many bytes as these records have
abbrev pub sealed_len : ℕ → ℕ
sealed_len n = n + OVERHEAD * record_count n

-- records that carry these frames, and no more of them than the frames need, were appended
pub record AreSealed (old : Sealing) (before frames after : List ℕ) (new : Sealing) : Type 0 where
  pub bodies : List (List ℕ)
  pub parts : after ≡ before ++ all_sealed old.key old.count bodies
  pub good : AllByRecursion IsBody bodies
  pub frames_are : frames ≡ carried Frames bodies
  pub no_beats : carried Beat bodies ≡ []
  pub few : length bodies ≡ record_count (length frames)
  pub next : new ≡ record { key = old.key; count = old.count + length bodies }
