-- The messages of a SCRAM exchange (RFC 5802 sections 3, 5 and 7), as the client writes and reads them.
-- The bytes: 44 is ',', 61 '='.
use Rattle.std.specs.Prelude.{ℕ, ◌+◌, ◌-◌, ◌*◌, ◌==◌, ◌&&◌, not, nat_lt, Bool, List, [], ◌∷◌, length, take, drop, codes}
use Rattle.std.specs.Prelude.{Option, Some, None, option_and_then, unwrap_or, Result, Ok, Err, if◌then◌else◌}
use Rattle.std.specs.List.{concat, flat_map, position_or_len}
use Rattle.std.specs.Str.{bytes_eq}
use Rattle.bytetext.specs.Numerals.{is_digit}
use Rattle.base64.specs.declared.decode.DecodeError.{DecodeError}
use Rattle.base64.specs.Engines.{standard}
use Rattle.base64.specs.GeneralPurpose.{decode_of, encode_of}
use Rattle.registration.specs.declared.scram_fault.ScramFault.{ScramFault}
use Rattle.registration.specs.declared.scram_fault.ScramFault.TheVariants.{Unreadable, ForeignNonce, TooFewIterations, TooManyIterations, BadSalt, ServerError, WrongSignature}
use Rattle.registration.specs.declared.limits.TheConstants.{MAX_ITERATIONS, MIN_ITERATIONS}

-- the Base64 of some bytes (RFC 4648 section 4)
abbrev pub base64 : List ℕ → List ℕ
base64 bytes = encode_of standard bytes

-- the bytes that a text is the Base64 of, if it is
abbrev pub result_of : Result (List ℕ) DecodeError → Option (List ℕ)
result_of (Ok bytes) = Some bytes
result_of (Err error) = None

abbrev pub unbase64 : List ℕ → Option (List ℕ)
unbase64 text = result_of (decode_of standard text)

-- ---- client-first-message

-- saslname: in a name '=' is written "=3D", and ',' "=2C"
abbrev pub escaped_byte : ℕ → List ℕ
escaped_byte b = if b == 61 then codes "=3D" else if b == 44 then codes "=2C" else b ∷ []

abbrev pub escaped : List ℕ → List ℕ
escaped name = flat_map escaped_byte name

-- client-first-message-bare
abbrev pub first_bare : List ℕ → List ℕ → List ℕ
first_bare name nonce = concat (codes "n=" ∷ escaped name ∷ codes ",r=" ∷ nonce ∷ [])

-- gs2-header: no channel binding, no other identity to act as
abbrev pub client_first : List ℕ → List ℕ → List ℕ
client_first name nonce = concat (codes "n,," ∷ first_bare name nonce ∷ [])

-- ---- server-first-message

-- the bytes before the first comma, or all if there is none
abbrev pub is_comma : ℕ → Bool
is_comma b = b == 44

abbrev pub part_len : List ℕ → ℕ
part_len text = position_or_len is_comma text

abbrev pub part_of : List ℕ → List ℕ
part_of text = take (part_len text) text

-- the bytes after that comma
abbrev pub rest_of : List ℕ → List ℕ
rest_of text = drop (part_len text + 1) text

-- the value of an attribute, which follows a letter and '='
abbrev pub value_of : List ℕ → List ℕ
value_of part = drop 2 part

abbrev pub is_named : List ℕ → List ℕ → Bool
is_named name part = bytes_eq (take 2 part) name

-- r=NONCE,s=SALT,i=COUNT, and extensions after another comma
abbrev pub salt_part : List ℕ → List ℕ
salt_part message = part_of (rest_of message)

abbrev pub count_part : List ℕ → List ℕ
count_part message = part_of (rest_of (rest_of message))

abbrev pub nonce_in : List ℕ → List ℕ
nonce_in message = value_of (part_of message)

abbrev pub salt_in : List ℕ → List ℕ
salt_in message = value_of (salt_part message)

abbrev pub is_server_first : List ℕ → Bool
is_server_first message =
    is_named (codes "r=") (part_of message) && (is_named (codes "s=") (salt_part message) && is_named (codes "i=") (count_part message))

-- the number with one more digit, if it stays below 2^32
abbrev pub digit_onto : ℕ → ℕ → Option ℕ
digit_onto value b =
    if is_digit b then (if nat_lt (value * 10 + (b - 48)) 4294967296 then Some (value * 10 + (b - 48)) else None) else None

abbrev pub digits_from : ℕ → List ℕ → Option ℕ
digits_from value [] = Some value
digits_from value (b ∷ bs) = option_and_then (λ longer. digits_from longer bs) (digit_onto value b)

-- posit-number: digits, of which the first is not 0
abbrev pub count_of : List ℕ → Option ℕ
count_of [] = None
count_of (b ∷ bs) = if b == 48 then None else digits_from 0 (b ∷ bs)

-- the number of iterations
abbrev pub count_in : List ℕ → Option ℕ
count_in message = count_of (value_of (count_part message))

abbrev pub count_fault : Option ℕ → Option ScramFault
count_fault None = Some Unreadable
count_fault (Some count) =
    if nat_lt count MIN_ITERATIONS then Some TooFewIterations
    else if nat_lt MAX_ITERATIONS count then Some TooManyIterations
    else None

-- whether a nonce begins with the client's own
abbrev pub begins_with : List ℕ → List ℕ → Bool
begins_with own nonce = bytes_eq (take (length own) nonce) own

-- why a server-first-message is refused, but for its salt
abbrev pub first_fault : List ℕ → List ℕ → Option ScramFault
first_fault own message =
    if not (is_server_first message) then Some Unreadable
    else if not (begins_with own (nonce_in message)) then Some ForeignNonce
    else count_fault (count_in message)

-- and with its salt, which is Base64
abbrev pub salt_fault : Option (List ℕ) → Option ScramFault
salt_fault (Some salt) = None
salt_fault None = Some BadSalt

abbrev pub first_of : Option ScramFault → Option ScramFault → Option ScramFault
first_of (Some fault) other = Some fault
first_of None other = other

abbrev pub first_refusal : List ℕ → List ℕ → Option ScramFault
first_refusal own message = first_of (first_fault own message) (salt_fault (unbase64 (salt_in message)))

-- what is said in a message that is not refused
abbrev pub salt_of : List ℕ → List ℕ
salt_of message = unwrap_or (unbase64 (salt_in message)) []

abbrev pub iterations_of : List ℕ → ℕ
iterations_of message = unwrap_or (count_in message) 0

-- ---- client-final-message

-- client-final-message-without-proof: "biws" is the Base64 of the gs2-header "n,,"
abbrev pub without_proof : List ℕ → List ℕ
without_proof nonce = concat (codes "c=biws,r=" ∷ nonce ∷ [])

abbrev pub client_final : List ℕ → List ℕ → List ℕ
client_final front proof = concat (front ∷ codes ",p=" ∷ base64 proof ∷ [])

-- AuthMessage
abbrev pub auth_message : List ℕ → List ℕ → List ℕ → List ℕ
auth_message name nonce server_first =
    concat (first_bare name nonce ∷ codes "," ∷ server_first ∷ codes "," ∷ without_proof (nonce_in server_first) ∷ [])

-- ---- server-final-message

-- the verifier is the whole Base64 of the signature
abbrev pub verifier : List ℕ → List ℕ
verifier signature = concat (codes "v=" ∷ base64 signature ∷ [])

-- why a message does not show this verifier
abbrev pub verifier_fault : List ℕ → List ℕ → Option ScramFault
verifier_fault verifier message =
    if bytes_eq (part_of message) verifier then None
    else if is_named (codes "e=") (part_of message) then Some ServerError
    else Some WrongSignature

abbrev pub final_fault : List ℕ → List ℕ → Option ScramFault
final_fault signature message = verifier_fault (verifier signature) message
