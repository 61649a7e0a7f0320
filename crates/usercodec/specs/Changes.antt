-- The one spelling of a change, and what reading one returns.
use Rattle.std.specs.Prelude.{◌≡◌, ℕ, ◌<◌, ◌^◌, ◌==◌, nat_le, Bool, ◌&&◌, List, [], ◌∷◌, ◌++◌, Option, Some, None, Ok, Err, if◌then◌else◌}
use Rattle.std.specs.Int.{w64}
use Rattle.rfccase.specs.declared.casemappings.Casemapping.{Casemapping}
use Rattle.rfccase.specs.declared.casemappings.Casemapping.TheVariants.{Ascii, StrictRfc1459, Rfc1459}
use Rattle.userfile.specs.Apply.{bad_edit, bad_shape, new_ban}
use Rattle.userfile.specs.Changes.{by_nobody, by_person}
use Rattle.userfile.specs.declared.ban.Ban.{Ban}
use Rattle.userfile.specs.declared.change.Asker.{Asker}
use Rattle.userfile.specs.declared.change.Change.{Change}
use Rattle.userfile.specs.declared.edit.Edit.{Edit}
use Rattle.userfile.specs.declared.edit.Edit.TheVariants.{AddUser, DelUser, AddHost, DelHost, SetGlobal, SetChan, SetBot, AddBan, DelBan}
use Rattle.userfile.specs.declared.edit.Edit.TheVariants.{SetInfo, SetSticky}
use Rattle.usercodec.specs.declared.fault.CodecFault.TheVariants.{BadTag}
use Rattle.usercodec.specs.Fields.{number, text, flags, mark, Reading, ◌>>=◌, checked, byte_at, number_at, flags_at}
use Rattle.usercodec.specs.Fields.{handle_at, hostmask_at, channel_at, ban_channel_at, comment_at, info_at, mark_at, person_at}
use Rattle.usercodec.specs.FaultBytes.{known}

-- ---- spellings of edits

-- the fields of a ban that a change adds
abbrev pub ban_bytes : Ban → List ℕ
ban_bytes ban = text ban.channel ++ (text ban.mask ++ (text ban.creator ++ (number w64 ban.expires ++ text ban.comment)))

-- an edit: its tag in one byte, and its fields
abbrev pub edit_bytes : Edit → List ℕ
edit_bytes (AddUser handle) = 1 ∷ text handle
edit_bytes (DelUser handle) = 2 ∷ text handle
edit_bytes (AddHost handle mask) = 3 ∷ (text handle ++ text mask)
edit_bytes (DelHost handle mask) = 4 ∷ (text handle ++ text mask)
edit_bytes (SetGlobal handle bits) = 5 ∷ (text handle ++ flags bits)
edit_bytes (SetChan handle channel bits) = 6 ∷ (text handle ++ (text channel ++ flags bits))
edit_bytes (SetBot handle bits) = 7 ∷ (text handle ++ flags bits)
edit_bytes (AddBan channel mask creator expires comment) =
    8 ∷ ban_bytes (new_ban channel mask creator expires comment)
edit_bytes (DelBan channel mask) = 9 ∷ (text channel ++ text mask)
edit_bytes (SetInfo handle info) = 10 ∷ (text handle ++ text info)
edit_bytes (SetSticky channel mask on) = 11 ∷ (text channel ++ (text mask ++ mark on))

-- flags have only bits of letters, and a moment fits in eight bytes
abbrev pub HasRoom : Edit → Type 0
HasRoom (AddUser handle) = Unit {0}
HasRoom (DelUser handle) = Unit {0}
HasRoom (AddHost handle mask) = Unit {0}
HasRoom (DelHost handle mask) = Unit {0}
HasRoom (SetGlobal handle bits) = bits < 2 ^ 52
HasRoom (SetChan handle channel bits) = bits < 2 ^ 52
HasRoom (SetBot handle bits) = bits < 2 ^ 52
HasRoom (AddBan channel mask creator expires comment) = expires < 2 ^ 64
HasRoom (DelBan channel mask) = Unit {0}
HasRoom (SetInfo handle info) = Unit {0}
HasRoom (SetSticky channel mask on) = Unit {0}

-- an edit that has a spelling: its shape is good by the userfile's rules
pub record IsGoodEdit (edit : Edit) : Type 0 where
  pub shape : bad_edit edit ≡ None
  pub room : HasRoom edit

-- ---- spellings of changes

abbrev pub casemapping_byte : Casemapping → ℕ
casemapping_byte Ascii = 0
casemapping_byte StrictRfc1459 = 1
casemapping_byte Rfc1459 = 2

-- who asks: nick!user@host, and the casemapping of the asking bot's server
abbrev pub asker_bytes : Asker → List ℕ
asker_bytes asker = text asker.person ++ casemapping_byte asker.casemapping ∷ []

-- an edit in nobody's name is spelled alone; one in a person's name comes after the tag 12 and who asks
abbrev pub bytes_by : Option Asker → Edit → List ℕ
bytes_by None edit = edit_bytes edit
bytes_by (Some asker) edit = 12 ∷ (asker_bytes asker ++ edit_bytes edit)

abbrev pub change_bytes : Change → List ℕ
change_bytes change = bytes_by change.by change.edit

-- a change that has a spelling: its shape is good by the userfile's rules
pub record IsGoodChange (change : Change) : Type 0 where
  pub shape : bad_shape change ≡ None
  pub room : HasRoom change.edit

-- ---- reading edits

-- one field and then another
abbrev pub both : {A B : Type 0} → (List ℕ → Reading A) → (List ℕ → Reading B) → List ℕ → Reading (A × B)
both first second bytes = do
  a ← first bytes
  b ← second a.1
  Ok ((a.0, b.0), b.1)

-- what a function makes of the value that is read
abbrev pub made : {A B : Type 0} → (A → B) → Reading A → Reading B
made value_of reading = do
  x ← reading
  Ok (value_of x.0, x.1)

unfoldable pub handle_and_mask_at : List ℕ → Reading (List ℕ × List ℕ)
handle_and_mask_at bytes = both handle_at hostmask_at bytes

unfoldable pub handle_and_flags_at : List ℕ → Reading (List ℕ × ℕ)
handle_and_flags_at bytes = both handle_at flags_at bytes

unfoldable pub channel_and_mask_at : List ℕ → Reading (List ℕ × List ℕ)
channel_and_mask_at bytes = both ban_channel_at hostmask_at bytes

unfoldable pub ban_at : List ℕ → Reading Ban
ban_at bytes = do
  channel ← ban_channel_at bytes
  mask ← hostmask_at channel.1
  creator ← handle_at mask.1
  expires ← number_at w64 creator.1
  comment ← comment_at expires.1
  Ok (new_ban channel.0 mask.0 creator.0 expires.0 comment.0, comment.1)

unfoldable pub set_chan_at : List ℕ → Reading Edit
set_chan_at bytes = made (λ x. SetChan x.0 x.1.0 x.1.1) (both handle_at (both channel_at flags_at) bytes)

unfoldable pub add_ban_at : List ℕ → Reading Edit
add_ban_at bytes = made (λ ban. AddBan ban.channel ban.mask ban.creator ban.expires ban.comment) (ban_at bytes)

unfoldable pub set_info_at : List ℕ → Reading Edit
set_info_at bytes = made (λ x. SetInfo x.0 x.1) (both handle_at info_at bytes)

unfoldable pub set_sticky_at : List ℕ → Reading Edit
set_sticky_at bytes = made (λ x. SetSticky x.0 x.1.0 x.1.1) (both ban_channel_at (both hostmask_at mark_at) bytes)

-- the tags of edits
abbrev pub is_edit_tag : ℕ → Bool
is_edit_tag tag = nat_le 1 tag && nat_le tag 11

-- the fields after a tag
unfoldable pub edit_fields_at : ℕ → List ℕ → Reading Edit
edit_fields_at tag bytes =
    if tag == 1 then made AddUser (handle_at bytes)
    else (if tag == 2 then made DelUser (handle_at bytes)
    else (if tag == 3 then made (λ x. AddHost x.0 x.1) (handle_and_mask_at bytes)
    else (if tag == 4 then made (λ x. DelHost x.0 x.1) (handle_and_mask_at bytes)
    else (if tag == 5 then made (λ x. SetGlobal x.0 x.1) (handle_and_flags_at bytes)
    else (if tag == 6 then set_chan_at bytes
    else (if tag == 7 then made (λ x. SetBot x.0 x.1) (handle_and_flags_at bytes)
    else (if tag == 8 then add_ban_at bytes
    else (if tag == 9 then made (λ x. DelBan x.0 x.1) (channel_and_mask_at bytes)
    else (if tag == 10 then set_info_at bytes
    else (if tag == 11 then set_sticky_at bytes
    else Err BadTag))))))))))

unfoldable pub edit_at : List ℕ → Reading Edit
edit_at bytes = do
  tag ← byte_at bytes
  edit_fields_at tag.0 tag.1

-- ---- reading changes

-- the casemapping of a byte, if it is one's
unfoldable pub casemapping_from : ℕ → Option Casemapping
casemapping_from byte =
    if byte == 0 then Some Ascii
    else (if byte == 1 then Some StrictRfc1459
    else (if byte == 2 then Some Rfc1459
    else None))

unfoldable pub casemapping_at : List ℕ → Reading Casemapping
casemapping_at bytes = do
  byte ← byte_at bytes
  known (casemapping_from byte.0) byte.1

abbrev pub asker_of : List ℕ × Casemapping → Asker
asker_of x = record { person = x.0; casemapping = x.1 }

unfoldable pub asker_at : List ℕ → Reading Asker
asker_at bytes = made asker_of (both person_at casemapping_at bytes)

-- the edit that a person asks for: another tag there is a field that breaks its rule, since `BadTag` tells of the first
-- byte alone
unfoldable pub asked_edit_at : List ℕ → Reading Edit
asked_edit_at bytes = do
  tag ← checked is_edit_tag (byte_at bytes)
  edit_fields_at tag.0 tag.1

unfoldable pub named_at : List ℕ → Reading Change
named_at bytes = made (λ x. by_person x.0 x.1) (both asker_at asked_edit_at bytes)

-- the tags of changes
abbrev pub is_change_tag : ℕ → Bool
is_change_tag tag = nat_le 1 tag && nat_le tag 12

-- what stands after a tag
unfoldable pub fields_at : ℕ → List ℕ → Reading Change
fields_at tag bytes = if tag == 12 then named_at bytes else made by_nobody (edit_fields_at tag bytes)

unfoldable pub change_at : List ℕ → Reading Change
change_at bytes = do
  tag ← byte_at bytes
  fields_at tag.0 tag.1
