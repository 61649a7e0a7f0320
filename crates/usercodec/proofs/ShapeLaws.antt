-- What a good shape says of a change's fields, and how long such fields are.
use Rattle.std.proofs.Common.{◌≡◌, ℕ, ◌<◌, Bool, true, false, List, length, Option, None, Some, refl, sym, subst, arith}
use Rattle.std.specs.List.{list_all}
use Rattle.std.proofs.lemmas.Bool.Decides.{nat_tests}
use Rattle.std.proofs.lemmas.List.{length-append}
use Rattle.rfccase.specs.Channels.{is_channel_name}
use Rattle.userfile.specs.Shapes.{is_handle, is_hostmask, is_ban_channel, is_comment, is_info, is_person}
use Rattle.userfile.proofs.RepeatLemmas.{and_true}
use Rattle.userfile.specs.Together.{is_user, is_entry, is_good_ban}
use Rattle.userfile.specs.declared.ban.Ban.{Ban}
use Rattle.userfile.specs.declared.user.User.{User}
use Rattle.userfile.specs.Apply.{bad_asker, bad_edit, bad_shape, fault_unless, first_of_two}
use Rattle.userfile.specs.declared.change.Asker.{Asker}
use Rattle.userfile.specs.declared.change.Change.{Change}
use Rattle.userfile.specs.declared.edit.Edit.{Edit}
use Rattle.userfile.specs.declared.edit.Edit.TheVariants.{AddUser, DelUser, AddHost, DelHost, SetGlobal, SetChan, SetBot, AddBan, DelBan}
use Rattle.userfile.specs.declared.edit.Edit.TheVariants.{SetInfo, SetSticky}
use Rattle.userfile.specs.declared.error.ChangeFault.{ChangeFault}
use Rattle.usercodec.specs.Lengths.{IsShort, AskerIsShort, EditIsShort, ChangeIsShort}
use Rattle.usercodec.specs.Changes.{edit_bytes, bytes_by, change_bytes}

-- ---- lengths

pub handle_is_short : (handle : List ℕ) → is_handle handle ≡ true → IsShort handle
unfolding is_handle
handle_is_short handle good = grind (arith, nat_tests)

pub channel_is_short : (channel : List ℕ) → is_channel_name channel ≡ true → IsShort channel
channel_is_short channel good = grind (arith, nat_tests)

pub ban_channel_is_short : (channel : List ℕ) → is_ban_channel channel ≡ true → IsShort channel
unfolding is_ban_channel
ban_channel_is_short channel good = grind (arith, nat_tests)

pub hostmask_is_short : (mask : List ℕ) → is_hostmask mask ≡ true → IsShort mask
unfolding is_hostmask
hostmask_is_short mask good = grind (arith, nat_tests)

pub comment_is_short : (comment : List ℕ) → is_comment comment ≡ true → IsShort comment
unfolding is_comment
comment_is_short comment good = grind (arith, nat_tests)

pub info_is_short : (info : List ℕ) → is_info info ≡ true → IsShort info
unfolding is_info
info_is_short info good = grind (arith, nat_tests)

pub person_is_short : (person : List ℕ) → is_person person ≡ true → IsShort person
unfolding is_person
person_is_short person good = hostmask_is_short person (and_true good).0

-- ---- shapes

pub two_pass : (first later : Option ChangeFault) → first_of_two first later ≡ None → (first ≡ None) × (later ≡ None)
two_pass None later e = (refl, e)
two_pass (Some fault) later e = absurd cc

pub passes : (test : Bool) (fault : ChangeFault) → fault_unless test fault ≡ None → test ≡ true
passes true fault e = refl
passes false fault e = absurd cc

-- each field of the edit passes its test
abbrev pub FieldsPass : Edit → Type 0
FieldsPass (AddUser handle) = is_handle handle ≡ true
FieldsPass (DelUser handle) = is_handle handle ≡ true
FieldsPass (AddHost handle mask) = (is_handle handle ≡ true) × (is_hostmask mask ≡ true)
FieldsPass (DelHost handle mask) = (is_handle handle ≡ true) × (is_hostmask mask ≡ true)
FieldsPass (SetGlobal handle bits) = is_handle handle ≡ true
FieldsPass (SetChan handle channel bits) = (is_handle handle ≡ true) × (is_channel_name channel ≡ true)
FieldsPass (SetBot handle bits) = is_handle handle ≡ true
FieldsPass (AddBan channel mask creator expires comment) =
    (is_ban_channel channel ≡ true) × (is_hostmask mask ≡ true) × (is_handle creator ≡ true) × (is_comment comment ≡ true)
FieldsPass (DelBan channel mask) = (is_ban_channel channel ≡ true) × (is_hostmask mask ≡ true)
FieldsPass (SetInfo handle info) = (is_handle handle ≡ true) × (is_info info ≡ true)
FieldsPass (SetSticky channel mask on) = (is_ban_channel channel ≡ true) × (is_hostmask mask ≡ true)

pub fields_pass : (edit : Edit) → bad_edit edit ≡ None → FieldsPass edit
fields_pass (AddUser handle) e = passes _ _ e
fields_pass (DelUser handle) e = passes _ _ e
fields_pass (AddHost handle mask) e = let p = two_pass _ _ e in (passes _ _ p.0, passes _ _ p.1)
fields_pass (DelHost handle mask) e = let p = two_pass _ _ e in (passes _ _ p.0, passes _ _ p.1)
fields_pass (SetGlobal handle bits) e = passes _ _ e
fields_pass (SetChan handle channel bits) e = let p = two_pass _ _ e in (passes _ _ p.0, passes _ _ p.1)
fields_pass (SetBot handle bits) e = passes _ _ e
fields_pass (AddBan channel mask creator expires comment) e =
    let p = two_pass _ _ e in
    let q = two_pass _ _ p.1 in
    let r = two_pass _ _ q.1 in
    (passes _ _ r.0, passes _ _ q.0, passes _ _ p.0, passes _ _ r.1)
fields_pass (DelBan channel mask) e = let p = two_pass _ _ e in (passes _ _ p.1, passes _ _ p.0)
fields_pass (SetInfo handle info) e = let p = two_pass _ _ e in (passes _ _ p.0, passes _ _ p.1)
fields_pass (SetSticky channel mask on) e = let p = two_pass _ _ e in (passes _ _ p.1, passes _ _ p.0)

-- and the other way round
pub shape_passes : (edit : Edit) → FieldsPass edit → bad_edit edit ≡ None
shape_passes (AddUser handle) p = rw p refl
shape_passes (DelUser handle) p = rw p refl
shape_passes (AddHost handle mask) p = rw (p.0, p.1) refl
shape_passes (DelHost handle mask) p = rw (p.0, p.1) refl
shape_passes (SetGlobal handle bits) p = rw p refl
shape_passes (SetChan handle channel bits) p = rw (p.0, p.1) refl
shape_passes (SetBot handle bits) p = rw p refl
shape_passes (AddBan channel mask creator expires comment) p = rw (p.2, p.1, p.0, p.3) refl
shape_passes (DelBan channel mask) p = rw (p.1, p.0) refl
shape_passes (SetInfo handle info) p = rw (p.0, p.1) refl
shape_passes (SetSticky channel mask on) p = rw (p.1, p.0) refl

short_edit : (edit : Edit) → bad_edit edit ≡ None → EditIsShort edit
short_edit (AddUser handle) e = handle_is_short handle (fields_pass (AddUser handle) e)
short_edit (DelUser handle) e = handle_is_short handle (fields_pass (DelUser handle) e)
short_edit (AddHost handle mask) e = let p = fields_pass (AddHost handle mask) e in (handle_is_short handle p.0, hostmask_is_short mask p.1)
short_edit (DelHost handle mask) e = let p = fields_pass (DelHost handle mask) e in (handle_is_short handle p.0, hostmask_is_short mask p.1)
short_edit (SetGlobal handle bits) e = handle_is_short handle (fields_pass (SetGlobal handle bits) e)
short_edit (SetChan handle channel bits) e =
    let p = fields_pass (SetChan handle channel bits) e in (handle_is_short handle p.0, channel_is_short channel p.1)
short_edit (SetBot handle bits) e = handle_is_short handle (fields_pass (SetBot handle bits) e)
short_edit (AddBan channel mask creator expires comment) e =
    let p = fields_pass (AddBan channel mask creator expires comment) e in
    (ban_channel_is_short channel p.0, hostmask_is_short mask p.1, handle_is_short creator p.2, comment_is_short comment p.3)
short_edit (DelBan channel mask) e =
    let p = fields_pass (DelBan channel mask) e in (ban_channel_is_short channel p.0, hostmask_is_short mask p.1)
short_edit (SetInfo handle info) e = let p = fields_pass (SetInfo handle info) e in (handle_is_short handle p.0, info_is_short info p.1)
short_edit (SetSticky channel mask on) e =
    let p = fields_pass (SetSticky channel mask on) e in (ban_channel_is_short channel p.0, hostmask_is_short mask p.1)

short_asker : (by : Option Asker) → bad_asker by ≡ None → AskerIsShort by
short_asker None e = tt
short_asker (Some asker) e = person_is_short asker.person (passes _ _ e)

-- what a good shape says of who asks, and of the edit
pub parts_pass : (change : Change) → bad_shape change ≡ None → (bad_asker change.by ≡ None) × (bad_edit change.edit ≡ None)
parts_pass change e = two_pass (bad_asker change.by) (bad_edit change.edit) e

pub short_texts : (change : Change) → bad_shape change ≡ None → ChangeIsShort change
short_texts change e = let p = parts_pass change e in (short_asker change.by p.0, short_edit change.edit p.1)

edit_is_short : (edit : Edit) → EditIsShort edit → length (edit_bytes edit) < 1700
edit_is_short (AddUser handle) short = omega arith
edit_is_short (DelUser handle) short = omega arith
edit_is_short (AddHost handle mask) short = simp length-append (omega arith)
edit_is_short (DelHost handle mask) short = simp length-append (omega arith)
edit_is_short (SetGlobal handle bits) short = simp length-append (omega arith)
edit_is_short (SetChan handle channel bits) short = simp length-append (omega arith)
edit_is_short (SetBot handle bits) short = simp length-append (omega arith)
edit_is_short (AddBan channel mask creator expires comment) short = simp length-append (omega arith)
edit_is_short (DelBan channel mask) short = simp length-append (omega arith)
edit_is_short (SetInfo handle info) short = simp length-append (omega arith)
edit_is_short (SetSticky channel mask on) short = simp length-append (omega arith)

named_is_short : (by : Option Asker) (edit : Edit) → AskerIsShort by → EditIsShort edit → length (bytes_by by edit) < 2000
named_is_short None edit asker short = let e = edit_is_short edit short in omega arith
named_is_short (Some asker) edit name short = let e = edit_is_short edit short in simp length-append (omega arith)

pub change_is_short : (change : Change) → ChangeIsShort change → length (change_bytes change) < 2000
change_is_short change short = named_is_short change.by change.edit short.0 short.1

-- ---- records

pub short_as : (seen text : List ℕ) → seen ≡ text → IsShort text → IsShort seen
short_as seen text same short = subst IsShort (sym same) short

pub user_texts : (user : User) → is_user user ≡ true → IsShort user.handle × (list_all is_entry user.channels ≡ true) × IsShort user.info
unfolding is_user
user_texts user good =
    let p = and_true good in
    let q = and_true (and_true p.0).0 in
    (handle_is_short user.handle q.0, q.1, info_is_short user.info p.1)

pub ban_texts : (ban : Ban) → is_good_ban ban ≡ true → IsShort ban.channel × IsShort ban.creator × IsShort ban.comment
unfolding is_good_ban
ban_texts ban good =
    let p = and_true good in
    let q = and_true p.0 in
    (ban_channel_is_short ban.channel q.1, handle_is_short ban.creator q.0, comment_is_short ban.comment p.1)
