-- Where a page is served, and who may read it.
use Rattle.std.specs.Prelude.{ℕ, ◌==◌, Bool, true, false, not, ◌||◌, List, [], ◌∷◌, ◌++◌, take, drop, Option, None, Some, is_some, Result, Ok, Err, if◌then◌else◌, codes, decimal}
use Rattle.std.specs.List.{list_any}
use Rattle.std.specs.Str.{bytes_eq, str_eq_ignore_ascii_case}
use Rattle.base64.specs.declared.decode.DecodeError.{DecodeError}
use Rattle.base64.specs.Engines.{standard}
use Rattle.base64.specs.GeneralPurpose.{decode_of}
use Rattle.sha2.specs.Sha256.{sha256}
use Rattle.page.specs.declared.site.PageSite.{PageSite}

-- ---- the Host of a request (RFC 9110 section 7.2)

-- an address of IPv6 stands in brackets
abbrev pub host_text : List ℕ → List ℕ
host_text host = if list_any (λ b. b == 58) host then codes "[" ++ (host ++ codes "]") else host

-- the port 80 is left out
abbrev pub port_text : ℕ → List ℕ
port_text port = if port == 80 then [] else codes ":" ++ decimal port

abbrev pub authority : List ℕ → ℕ → List ℕ
authority host port = host ++ port_text port

-- the Host is the address of the page, or localhost, with its port
abbrev pub is_ours : PageSite → List ℕ → Bool
is_ours site host = str_eq_ignore_ascii_case host site.own || str_eq_ignore_ascii_case host site.local

-- ---- the password (RFC 7617)

-- the bytes that a text is the Base64 of, if it is
abbrev pub result_of : Result (List ℕ) DecodeError → Option (List ℕ)
result_of (Ok bytes) = Some bytes
result_of (Err error) = None

abbrev pub unbase64 : List ℕ → Option (List ℕ)
unbase64 text = result_of (decode_of standard text)

-- what stands after `Basic` and a space
abbrev pub basic_token : List ℕ → Option (List ℕ)
basic_token value = if str_eq_ignore_ascii_case (take 6 value) (codes "basic ") then Some (drop 6 value) else None

-- what stands after the first colon
abbrev pub after_colon : List ℕ → Option (List ℕ)
after_colon [] = None
after_colon (b ∷ bs) = if b == 58 then Some bs else after_colon bs

-- the password has this digest
abbrev pub is_given : List ℕ → Option (List ℕ) → Bool
is_given digest None = false
is_given digest (Some password) = bytes_eq (sha256 password) digest

-- a user's name, a colon, and the password of this digest
abbrev pub is_pair : List ℕ → List ℕ → Bool
is_pair digest pair = is_given digest (after_colon pair)

abbrev pub is_found : List ℕ → Option (List ℕ) → Bool
is_found digest None = false
is_found digest (Some pair) = is_pair digest pair

abbrev pub is_token : List ℕ → Option (List ℕ) → Bool
is_token digest None = false
is_token digest (Some token) = is_found digest (unbase64 token)

-- the value of a field `Authorization` shows the password of this digest
abbrev pub shows : List ℕ → List ℕ → Bool
shows digest value = is_token digest (basic_token value)

abbrev pub passes : Option (List ℕ) → List ℕ → Bool
passes None value = true
passes (Some digest) value = shows digest value

-- a page without a password is for all
abbrev pub is_allowed : PageSite → Option (List ℕ) → Bool
is_allowed site None = not (is_some site.digest)
is_allowed site (Some value) = passes site.digest value
