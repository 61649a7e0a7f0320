-- Passing over records, without building them.
use Rattle.std.proofs.Common.{◌≡◌, ℕ, ◌-◌, List, [], Ok, refl, arith}
use Rattle.userfile.specs.declared.ban.Ban.{Ban}
use Rattle.userfile.specs.declared.user.User.{User}
use Rattle.usercodec.specs.declared.records.Record.{Record}
use Rattle.usercodec.specs.declared.records.Record.TheVariants as records
use Rattle.usercodec.specs.Fields.{Reading}
use Rattle.usercodec.specs.Records.{user_at, held_ban_at, record_fields_at, items_at}

pub passes_user : (tag : ℕ) (bytes rest : List ℕ) (user : User) → tag ≡ 3 → user_at bytes ≡ Ok (user, rest)
    → (value : Record) × (record_fields_at tag bytes ≡ Ok (value, rest))
unfolding record_fields_at
passes_user tag bytes rest user is read = (records.User user, rw (is, read) refl)

pub passes_ban : (tag : ℕ) (bytes rest : List ℕ) (ban : Ban) → tag ≡ 4 → held_ban_at bytes ≡ Ok (ban, rest)
    → (value : Record) × (record_fields_at tag bytes ≡ Ok (value, rest))
unfolding record_fields_at
passes_ban tag bytes rest ban is read = (records.Ban ban, rw (is, read) refl)

-- before the first item all of them are left
pub starts : {A : Type 0} (item_at : List A → List ℕ → Reading A) (count : ℕ) (bytes : List ℕ)
    → items_at item_at (count - 0) [] bytes ≡ items_at item_at count [] bytes
starts item_at count bytes =
    let k : count - 0 ≡ count = omega arith in
    rw k refl
