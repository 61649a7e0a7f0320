-- Which names and passwords an account can have.
use Rattle.std.specs.Prelude.{ℕ, ◌&&◌, not, nat_le, Bool, List, length, Option, Some, None, if◌then◌else◌}
use Rattle.std.specs.List.{list_all}
use Rattle.registration.specs.declared.credentials.CredentialsFault.{CredentialsFault}
use Rattle.registration.specs.declared.credentials.CredentialsFault.TheVariants.{NameLength, NameBytes, PasswordLength, PasswordBytes}
use Rattle.registration.specs.declared.limits.TheConstants.{MAX_CREDENTIAL}

-- printable ASCII, which SASLprep (RFC 4013) leaves as it is
abbrev pub is_printable : ℕ → Bool
is_printable b = nat_le 32 b && nat_le b 126

abbrev pub are_printable : List ℕ → Bool
are_printable text = list_all is_printable text

abbrev pub has_room : List ℕ → Bool
has_room text = nat_le 1 (length text) && nat_le (length text) MAX_CREDENTIAL

abbrev pub account_fault : List ℕ → List ℕ → Option CredentialsFault
account_fault name password =
    if not (has_room name) then Some NameLength
    else if not (are_printable name) then Some NameBytes
    else if not (has_room password) then Some PasswordLength
    else if not (are_printable password) then Some PasswordBytes
    else None
