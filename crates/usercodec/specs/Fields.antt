-- How each field is spelled as bytes, and what reading it at the front of some bytes returns (our own choice
-- throughout). A read reports a fault of a field as soon as the field is complete, before any fault of the bytes
-- after it.
use Rattle.std.specs.Prelude.{ℕ, ◌^◌, ◌==◌, nat_lt, nat_le, Bool, List, [], ◌∷◌, length, take, drop, Result, Ok, Err, if◌then◌else◌}
use Rattle.std.specs.List.{flat_map}
use Rattle.std.specs.Int.{Width, w64, byte_len, from_be_bytes, to_be_bytes}
use Rattle.rfccase.specs.Channels.{is_channel_name}
use Rattle.userfile.specs.Shapes.{is_handle, is_hostmask, is_ban_channel, is_comment, is_info, is_person}
use Rattle.usercodec.specs.declared.fault.CodecFault.{CodecFault}
use Rattle.usercodec.specs.declared.fault.CodecFault.TheVariants.{Short, NotCanonical}

-- ---- spellings

-- a number, its most significant byte first
abbrev pub number : Width → ℕ → List ℕ
number width n = to_be_bytes width n

-- a text: its length in one byte, and its bytes
abbrev pub text : List ℕ → List ℕ
text bytes = length bytes ∷ bytes

-- flags: the bits 0 to 25 are a to z, the bits 26 to 51 are A to Z
abbrev pub flags : ℕ → List ℕ
flags bits = number w64 bits

-- a mark: 1 if it is set, else 0
abbrev pub mark : Bool → List ℕ
mark on = (if on then 1 else 0) ∷ []

-- items: their count in one byte, and each of them
abbrev pub counted : {A : Type 0} → (A → List ℕ) → List A → List ℕ
counted spelling items = length items ∷ flat_map spelling items

-- ---- reading

-- a value and the bytes after it, or the first fault from the left
abbrev pub Reading : Type 0 → Type 0
Reading A = Result (A × List ℕ) CodecFault

-- one read and then the next, unless the first returns a fault
infixl 10 ◌>>=◌
abbrev pub ◌>>=◌ : {A B : Type 0} → Result A CodecFault → (A → Result B CodecFault) → Result B CodecFault
(Ok x) >>= next = next x
(Err fault) >>= next = Err fault

-- a complete value must pass a test
abbrev pub checked : {A : Type 0} → (A → Bool) → Reading A → Reading A
checked test reading = reading >>= λ x. if test x.0 then Ok x else Err NotCanonical

-- the next `count` bytes
unfoldable pub bytes_at : ℕ → List ℕ → Reading (List ℕ)
bytes_at count bytes = if nat_lt (length bytes) count then Err Short else Ok (take count bytes, drop count bytes)

-- one byte
unfoldable pub byte_at : List ℕ → Reading ℕ
byte_at [] = Err Short
byte_at (byte ∷ bytes) = Ok (byte, bytes)

unfoldable pub number_at : Width → List ℕ → Reading ℕ
number_at width bytes = do
  digits ← bytes_at (byte_len width) bytes
  Ok (from_be_bytes width digits.0, digits.1)

unfoldable pub text_at : List ℕ → Reading (List ℕ)
text_at bytes = do
  count ← byte_at bytes
  bytes_at count.0 count.1

-- a count, at most `most`
unfoldable pub count_at : ℕ → List ℕ → Reading ℕ
count_at most bytes = checked (λ n. nat_le n most) (byte_at bytes)

-- flags of letters only: no bit above 51 is set
unfoldable pub flags_at : List ℕ → Reading ℕ
flags_at bytes = checked (λ bits. nat_lt bits (2 ^ 52)) (number_at w64 bytes)

unfoldable pub handle_at : List ℕ → Reading (List ℕ)
handle_at bytes = checked is_handle (text_at bytes)

unfoldable pub hostmask_at : List ℕ → Reading (List ℕ)
hostmask_at bytes = checked is_hostmask (text_at bytes)

unfoldable pub person_at : List ℕ → Reading (List ℕ)
person_at bytes = checked is_person (text_at bytes)

unfoldable pub channel_at : List ℕ → Reading (List ℕ)
channel_at bytes = checked is_channel_name (text_at bytes)

unfoldable pub ban_channel_at : List ℕ → Reading (List ℕ)
ban_channel_at bytes = checked is_ban_channel (text_at bytes)

unfoldable pub comment_at : List ℕ → Reading (List ℕ)
comment_at bytes = checked is_comment (text_at bytes)

unfoldable pub info_at : List ℕ → Reading (List ℕ)
info_at bytes = checked is_info (text_at bytes)

-- a byte that is 0 or 1
unfoldable pub mark_at : List ℕ → Reading Bool
mark_at bytes = do
  byte ← checked (λ byte. nat_le byte 1) (byte_at bytes)
  Ok (byte.0 == 1, byte.1)
