-- Who a person is: by the account of the network's services first, and else by nick!user@host.
use Rattle.std.specs.Prelude.{ℕ, nat_le, ◌==◌, Bool, not, ◌&&◌, if◌then◌else◌, List, ◌++◌, length, map, filter, codes}
use Rattle.std.specs.List.{list_all, list_any}
use Rattle.std.specs.Str.{bytes_eq}
use Rattle.rfccase.specs.declared.casemappings.Casemapping.{Casemapping}
use Rattle.wildmask.specs.Masks.{is_account_byte}
use Rattle.userfile.specs.declared.user.User.{User}
use Rattle.userfile.specs.Persons.{handle_of}
use Rattle.procs.specs.declared.limits.TheConstants.{MAX_ACCOUNT}

-- the claim of an account: as a hostmask of the account NAME is written, $a:NAME
abbrev pub account_claim : List ℕ → List ℕ
account_claim account = codes "$a:" ++ account

-- whether a hostmask can be of this account: its claim has at most 120 bytes, and no byte that a hostmask's name of an
-- account can't have, as the ! of nick!user@host
unfoldable pub is_account : List ℕ → Bool
is_account account = not (length account == 0) && nat_le (length account) MAX_ACCOUNT && list_all is_account_byte account

-- whether a user has a hostmask of this account; a handle is never *
unfoldable pub is_known_account : Casemapping → List User → List ℕ → Bool
is_known_account mapping users account = is_account account && not (bytes_eq (handle_of mapping users (account_claim account)) (codes "*"))

-- a person's claim, the text by which the person is found: the account's if a user has a hostmask of the account, and
-- else nick!user@host
unfoldable pub claim_by : Casemapping → List User → List ℕ → List ℕ → List ℕ
claim_by mapping users account who = if is_known_account mapping users account then account_claim account else who

-- the handle of a person of this account, which is empty if none is known, and this nick!user@host
unfoldable pub handle_by : Casemapping → List User → List ℕ → List ℕ → List ℕ
handle_by mapping users account who =
    if is_known_account mapping users account then handle_of mapping users (account_claim account) else handle_of mapping users who

-- ---- which hostmasks find whom

-- whether a text has the byte !, as each nick!user@host has, and no claim of an account
abbrev pub has_bang : List ℕ → Bool
has_bang text = list_any (λ b. b == 33) text

-- a user without the hostmasks that pass a test
abbrev pub with_less : (List ℕ → Bool) → User → User
with_less test user = record user { masks = filter (λ mask. not (test mask)) user.masks }

abbrev pub without : (List ℕ → Bool) → List User → List User
without test users = map (with_less test) users
