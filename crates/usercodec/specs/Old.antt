-- The spellings of the layouts 1 to 3, and what reading one returns. Layouts 2 and 3 had no changes in a person's name;
-- layout 1 had no info texts and no sticky bans either.
use Rattle.std.specs.Prelude.{◌≡◌, ℕ, ◌==◌, nat_le, Bool, false, ◌&&◌, ◌||◌, List, [], ◌∷◌, None, Err, if◌then◌else◌}
use Rattle.userfile.specs.Changes.{by_nobody}
use Rattle.userfile.specs.declared.change.Change.{Change}
use Rattle.userfile.specs.declared.edit.Edit.{Edit}
use Rattle.userfile.specs.declared.edit.Edit.TheVariants.{AddUser, DelUser, AddHost, DelHost, SetGlobal, SetChan, SetBot, AddBan, DelBan}
use Rattle.userfile.specs.declared.edit.Edit.TheVariants.{SetInfo, SetSticky}
use Rattle.usercodec.specs.declared.fault.CodecFault.TheVariants.{BadTag}
use Rattle.usercodec.specs.declared.records.Record.{Record}
use Rattle.usercodec.specs.declared.records.Record.TheVariants as records
use Rattle.usercodec.specs.Fields.{Reading, ◌>>=◌, byte_at}
use Rattle.usercodec.specs.Changes.{ban_bytes, change_bytes, IsGoodChange, made, ban_at, edit_fields_at, edit_at}
use Rattle.usercodec.specs.Records.{plain_user_bytes, IsGoodRecord, items_at, plain_user_at}

-- ---- changes of layouts 2 and 3, which are spelled as now

-- a change in nobody's name that has a spelling
pub record IsGoodNamelessChange (change : Change) : Type 0 where
  pub good : IsGoodChange change
  pub nameless : change.by ≡ None

unfoldable pub nameless_change_at : List ℕ → Reading Change
nameless_change_at bytes = made by_nobody (edit_at bytes)

-- ---- changes of layout 1

-- a change that layout 1 had is spelled as it is now
abbrev pub change_bytes_old : Change → List ℕ
change_bytes_old change = change_bytes change

-- layout 1 had all edits except those of info texts and sticky bans
abbrev pub IsOldEdit : Edit → Type 0
IsOldEdit (AddUser handle) = Unit {0}
IsOldEdit (DelUser handle) = Unit {0}
IsOldEdit (AddHost handle mask) = Unit {0}
IsOldEdit (DelHost handle mask) = Unit {0}
IsOldEdit (SetGlobal handle bits) = Unit {0}
IsOldEdit (SetChan handle channel bits) = Unit {0}
IsOldEdit (SetBot handle bits) = Unit {0}
IsOldEdit (AddBan channel mask creator expires comment) = Unit {0}
IsOldEdit (DelBan channel mask) = Unit {0}
IsOldEdit (SetInfo handle info) = ⊥
IsOldEdit (SetSticky channel mask on) = ⊥

-- a change that has a spelling in layout 1
pub record IsGoodChangeOld (change : Change) : Type 0 where
  pub good : IsGoodChange change
  pub nameless : change.by ≡ None
  pub old : IsOldEdit change.edit

-- the tags of its changes
abbrev pub is_change_tag_old : ℕ → Bool
is_change_tag_old tag = nat_le 1 tag && nat_le tag 9

unfoldable pub fields_at_old : ℕ → List ℕ → Reading Change
fields_at_old tag bytes = if is_change_tag_old tag then made by_nobody (edit_fields_at tag bytes) else Err BadTag

unfoldable pub change_at_old : List ℕ → Reading Change
change_at_old bytes = do
  tag ← byte_at bytes
  fields_at_old tag.0 tag.1

-- ---- records of layout 1

-- a record: its tag in one byte, and its fields
abbrev pub record_bytes_old : Record → List ℕ
record_bytes_old (records.User user) = 1 ∷ plain_user_bytes user
record_bytes_old (records.Ban ban) = 2 ∷ ban_bytes ban

-- a user without an info text, or a ban that isn't sticky
abbrev pub IsOldRecord : Record → Type 0
IsOldRecord (records.User user) = user.info ≡ []
IsOldRecord (records.Ban ban) = ban.sticky ≡ false

-- a record that has a spelling in layout 1
pub record IsGoodRecordOld (value : Record) : Type 0 where
  pub good : IsGoodRecord value
  pub old : IsOldRecord value

-- the tags of its records
abbrev pub is_record_tag_old : ℕ → Bool
is_record_tag_old tag = tag == 1 || tag == 2

unfoldable pub record_fields_at_old : ℕ → List ℕ → Reading Record
record_fields_at_old tag bytes =
    if tag == 1 then made records.User (plain_user_at bytes)
    else (if tag == 2 then made records.Ban (ban_at bytes)
    else Err BadTag)

unfoldable pub record_at_old : List ℕ → Reading Record
record_at_old bytes = do
  tag ← byte_at bytes
  record_fields_at_old tag.0 tag.1

-- `count` records, one after the other
abbrev pub so_many_records_at_old : ℕ → List ℕ → Reading (List Record)
so_many_records_at_old count bytes = items_at (λ held after. record_at_old after) count [] bytes
