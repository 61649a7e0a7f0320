-- What a reply answers to a query (RFC 1035 section 4.1).
use Rattle.std.specs.Prelude.{◌≡◌, ◌<◌, ◌≤◌, ℕ, zero, suc, ◌+◌, ◌-◌, ◌*◌, ◌/◌, ◌%◌, ◌==◌, nat_lt, Bool, List, [], ◌∷◌, ◌++◌, length, take, drop, map, slice_index, Option, None, Some, option_and_then, if◌then◌else◌}
use Rattle.std.specs.Option.{option_map}
use Rattle.std.specs.Str.{bytes_eq}
use Rattle.std.specs.Char.{to_ascii_lowercase}
use Rattle.std.specs.declared.net.ip_addr.IpAddr.{IpAddr}
use Rattle.std.specs.declared.net.ip_addr.IpAddr.TheVariants as Ip
use Rattle.std.specs.Net.Addr.{segments_of}
use Rattle.resolver.specs.declared.addresses.TheConstants.{MAX_ADDRESSES}
use Rattle.resolver.specs.declared.query.TheConstants.{HEADER}
use Rattle.resolver.specs.declared.family.Family.{Family}
use Rattle.resolver.specs.declared.family.Family.TheVariants.{V4, V6}
use Rattle.resolver.specs.declared.reply.NameAnswer.{NameAnswer}
use Rattle.resolver.specs.declared.reply.NameAnswer.TheVariants.{Found, Nothing}
use Rattle.resolver.specs.Queries.{Asked, kind_and_class}

-- the number in two bytes, the high one first
abbrev pub number_at : ℕ → List ℕ → ℕ
number_at place bytes = slice_index bytes place * 256 + slice_index bytes (suc place)

-- ---- addresses

-- addresses beyond the most that are kept are dropped
abbrev pub put : IpAddr → List IpAddr → List IpAddr
put address found = if nat_lt (length found) MAX_ADDRESSES then found ++ address ∷ [] else found

-- an address is all that its record holds: 4 bytes, or 16
abbrev pub address_of : Family → List ℕ → Option IpAddr
address_of V4 bytes = if length bytes == 4 then Some (Ip.V4 (record { octets = bytes })) else None
address_of V6 bytes = if length bytes == 16 then Some (Ip.V6 (record { segments = segments_of bytes })) else None

-- ---- records

-- what follows one more byte
abbrev pub behind_byte : List ℕ → Option (List ℕ)
behind_byte [] = None
behind_byte (b ∷ bs) = Some bs

-- What follows a name, of whose first label `left` bytes are still to come. A label is its length and so many bytes. A
-- name ends with the length 0, or with a pointer, whose first byte is at least 192. Lengths of 64 to 191 mean nothing.
abbrev pub after_name : ℕ → List ℕ → Option (List ℕ)
after_name left [] = None
after_name left (b ∷ bs) =
    if nat_lt 0 left then after_name (left - 1) bs
    else if b == 0 then Some bs else if nat_lt b 64 then after_name b bs else if nat_lt b 192 then None else behind_byte bs

-- a record: its type and class, what it holds, and what follows it
pub record Held : Type 0 where
  pub kind : List ℕ
  pub contents : List ℕ
  pub rest : List ℕ

abbrev pub cut_contents : List ℕ → ℕ → List ℕ → Option Held
cut_contents kind size bytes =
    if nat_lt (length bytes) size then None else Some (record { kind = kind; contents = take size bytes; rest = drop size bytes })

-- after its name a record has its type and class in two bytes each, the time to live in four, and the size of
-- what it holds in two
abbrev pub record_in : List ℕ → Option Held
record_in bytes = if nat_lt (length bytes) 10 then None else cut_contents (take 4 bytes) (number_at 8 bytes) (drop 10 bytes)

abbrev pub record_at : List ℕ → Option Held
record_at bytes = option_and_then record_in (after_name 0 bytes)

-- the addresses found so far, and that of a record if it is of the type that was asked for
abbrev pub noted : Family → List IpAddr → List ℕ → List ℕ → Option (List IpAddr)
noted family found kind contents =
    if bytes_eq kind (kind_and_class family) then option_map (λ address. put address found) (address_of family contents)
    else Some found

-- the addresses found so far, and those of so many records: none at all if one of the records is malformed
unfoldable pub found_at : Family → ℕ → List IpAddr → List ℕ → Option (List IpAddr)
found_at family zero found bytes = Some found
found_at family (suc records) found bytes =
    option_and_then
    (λ held. option_and_then (λ longer. found_at family records longer held.rest) (noted family found held.kind held.contents))
    (record_at bytes)

-- ---- replies

-- the bytes of a question as they are compared: the case of letters does not count (RFC 4343), and neither a length nor a
-- type is a letter
abbrev pub folded : List ℕ → List ℕ
folded bytes = map to_ascii_lowercase bytes

-- a reply to this query: it has the number and the question that the query has, and says that it is a response (QR) of the
-- standard kind (OPCODE 0)
pub record IsReply (query reply : List ℕ) : Type 0 where
  pub long : length query ≤ length reply
  pub number : number_at 0 reply ≡ number_at 0 query
  pub response : 128 ≤ slice_index reply 2
  pub standard : slice_index reply 2 < 136
  pub one : number_at 4 reply ≡ 1
  pub same : folded (take (length query - HEADER) (drop HEADER reply)) ≡ folded (drop HEADER query)

-- whether the reply was cut to fit a datagram (TC)
abbrev pub is_cut : List ℕ → Bool
is_cut reply = slice_index reply 2 / 2 % 2 == 1

-- what went wrong: 0 for nothing, 3 for a name that nobody has (RCODE)
abbrev pub code_in : List ℕ → ℕ
code_in reply = slice_index reply 3 % 16

-- what the addresses of a whole answer section mean
abbrev pub answer_with : Bool → List IpAddr → Option NameAnswer
answer_with cut [] = if cut then None else Some Nothing
answer_with cut (address ∷ found) = Some (Found (address ∷ found))

-- the addresses in the answer section, which begins after the question
abbrev pub found_in : Asked → List ℕ → Option (List IpAddr)
found_in asked reply = found_at asked.family (number_at 6 reply) [] (drop (length asked.bytes) reply)

-- what a reply to this query answers
abbrev pub answer_in : Asked → List ℕ → Option NameAnswer
answer_in asked reply =
    if code_in reply == 0 then option_and_then (answer_with (is_cut reply)) (found_in asked reply)
    else if code_in reply == 3 then Some Nothing else None
