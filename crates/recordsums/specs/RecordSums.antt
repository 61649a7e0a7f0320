-- The sum of a userfile's records.
use Rattle.std.specs.Prelude.{ℕ, List, ◌++◌, take}
use Rattle.std.specs.List.{flat_map}
use Rattle.hex.specs.Hex.{encode_lower}
use Rattle.sha2.specs.Sha256.{sha256}
use Rattle.userfile.specs.Records.{Records}
use Rattle.userfile.specs.declared.ban.Ban.{Ban}
use Rattle.userfile.specs.declared.user.User.{User}
use Rattle.usercodec.specs.Records.{record_bytes}
use Rattle.usercodec.specs.declared.records.Record.TheVariants as records

-- each record in its one encoding, in order
abbrev pub users_spelled : List User → List ℕ
users_spelled users = flat_map (λ user. record_bytes (records.User user)) users

abbrev pub bans_spelled : List Ban → List ℕ
bans_spelled bans = flat_map (λ ban. record_bytes (records.Ban ban)) bans

-- the users first, then the bans
abbrev pub spelled : Records → List ℕ
spelled held = users_spelled held.users ++ bans_spelled held.bans

-- the first eight bytes of their SHA-256, as digits
abbrev pub sum_of : Records → List ℕ
sum_of held = encode_lower (take 8 (sha256 (spelled held)))
