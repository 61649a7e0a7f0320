-- What is made in advance for an edit.
use Rattle.std.specs.Prelude.{◌≡◌, Bool, true, false, None}
use Rattle.userfile.specs.Records.{Records}
use Rattle.userfile.specs.Apply.{refusal, changed, edit_refusal, edit_made, edit_grows, user_edited, with_info}
use Rattle.userfile.specs.UserEdits.{with_channels}
use Rattle.userfile.specs.declared.change.Change.{Change}
use Rattle.userfile.specs.declared.edit.Edit.{Edit}
use Rattle.userfile.specs.declared.edit.Edit.TheVariants.{AddUser, DelUser, AddHost, DelHost, SetGlobal, SetChan, SetBot, AddBan, DelBan, SetInfo, SetSticky}
use Rattle.userfile.specs.declared.plan.Plan.{Plan}
use Rattle.userfile.specs.declared.plan.Plan.TheVariants.{Later, Added, Channels, Info}

-- whether an edit adds a user, a hostmask or a ban
abbrev pub adds : Edit → Bool
adds (AddUser handle) = true
adds (DelUser handle) = false
adds (AddHost handle mask) = true
adds (DelHost handle mask) = false
adds (SetGlobal handle flags) = false
adds (SetChan handle channel flags) = false
adds (SetBot handle flags) = false
adds (AddBan channel mask creator expires comment) = true
adds (DelBan channel mask) = false
adds (SetInfo handle info) = false
adds (SetSticky channel mask on) = false

-- the edit that removes what an edit adds
abbrev pub taken_back : Edit → Edit
taken_back (AddUser handle) = DelUser handle
taken_back (DelUser handle) = DelUser handle
taken_back (AddHost handle mask) = DelHost handle mask
taken_back (DelHost handle mask) = DelHost handle mask
taken_back (SetGlobal handle flags) = SetGlobal handle flags
taken_back (SetChan handle channel flags) = SetChan handle channel flags
taken_back (SetBot handle flags) = SetBot handle flags
taken_back (AddBan channel mask creator expires comment) = DelBan channel mask
taken_back (DelBan channel mask) = DelBan channel mask
taken_back (SetInfo handle info) = SetInfo handle info
taken_back (SetSticky channel mask on) = SetSticky channel mask on

-- the records before an edit with this plan; `held` are the records since the plan was made
abbrev pub before : Plan → Edit → Records → Records
before Later edit held = held
before Added edit held = edit_made held (taken_back edit)
before (Channels handle entries) edit held = held
before (Info handle info) edit held = held

-- and the records after it
abbrev pub after : Plan → Edit → Records → Records
after Later edit held = edit_made held edit
after Added edit held = held
after (Channels handle entries) edit held = edit_made held edit
after (Info handle info) edit held = edit_made held edit

-- the plan is what the edit needs
abbrev pub Suits : Plan → Edit → Records → Type 0
Suits Later edit held = (edit_refusal held edit ≡ None) × (edit_grows edit ≡ false)
Suits Added edit held = (edit_refusal held (taken_back edit) ≡ None) × (adds edit ≡ true)
Suits (Channels handle entries) edit held =
    (edit_refusal held edit ≡ None) × (user_edited held handle (with_channels entries) ≡ edit_made held edit)
Suits (Info handle info) edit held = (edit_refusal held edit ≡ None) × (user_edited held handle (with_info info) ≡ edit_made held edit)

-- how the records since this plan was made follow from the records before
abbrev pub IsPlanFor : Plan → Edit → Records → Records → Type 0
IsPlanFor Later edit old held = (held ≡ old) × (edit_grows edit ≡ false)
IsPlanFor Added edit old held = (held ≡ edit_made old edit) × (adds edit ≡ true)
IsPlanFor (Channels handle entries) edit old held =
    (held ≡ old) × (user_edited old handle (with_channels entries) ≡ edit_made old edit)
IsPlanFor (Info handle info) edit old held = (held ≡ old) × (user_edited old handle (with_info info) ≡ edit_made old edit)

-- this plan was made for a change that isn't refused; `old` are the records before it, `held` those since
pub record IsMade (plan : Plan) (change : Change) (old held : Records) : Type 0 where
  pub taken : refusal old change ≡ None
  pub earlier : before plan change.edit held ≡ old
  pub later : after plan change.edit held ≡ changed old change
  pub suits : Suits plan change.edit held
