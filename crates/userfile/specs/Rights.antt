-- Who may ask for what, judged by the records just before the change. The flags are Eggdrop's: o is a channel's
-- operator, m a master, n an owner. That only owners touch the records of masters and owners is Eggdrop's rule, too.
use Rattle.std.specs.Prelude.{ℕ, List, [], Bool, false, not, ◌&&◌, ◌||◌, if◌then◌else◌, Option, None, Some}
use Rattle.std.specs.List.{list_any}
use Rattle.rfccase.specs.Casemapping.{is_same}
use Rattle.flagexpr.specs.Letters.{has_letter}
use Rattle.userfile.specs.Persons.{user_for, flags_on, flags_of}
use Rattle.userfile.specs.declared.user.User.{User}
use Rattle.userfile.specs.declared.change.Asker.{Asker}
use Rattle.userfile.specs.declared.edit.Edit.{Edit}
use Rattle.userfile.specs.declared.edit.Edit.TheVariants.{AddUser, DelUser, AddHost, DelHost, SetGlobal, SetChan, SetBot, AddBan, DelBan, SetInfo, SetSticky}
use Rattle.userfile.specs.declared.rights.TheConstants.{OP, MASTER, OWNER}

-- ---- flags

-- the flags are those of an owner
abbrev pub owns : ℕ → Bool
owns flags = has_letter flags OWNER

-- the flags are those of a master or an owner: everywhere, they guard the user's record
abbrev pub is_guarded : ℕ → Bool
is_guarded flags = has_letter flags MASTER || owns flags

-- the flags are those of an operator, a master or an owner
abbrev pub operates : ℕ → Bool
operates flags = has_letter flags OP || is_guarded flags

-- ---- who asks, as one of the users

abbrev pub is_owner : Option User → Bool
is_owner asker = owns (flags_on [] asker).global

-- a master or an owner
abbrev pub is_master : Option User → Bool
is_master asker = is_guarded (flags_on [] asker).global

-- an operator, a master or an owner, everywhere or on the channel; nobody has flags on the empty text, which is the
-- channel of a ban of all channels
abbrev pub is_op : List ℕ → Option User → Bool
is_op channel asker = operates (flags_on channel asker).global || operates (flags_on channel asker).chan

-- the user with the handle
abbrev pub is_self : List ℕ → Option User → Bool
is_self handle None = false
is_self handle (Some user) = is_same handle user.handle

-- ---- whose record is edited

-- the user with the handle is a master or an owner
abbrev pub is_of_guarded : List User → List ℕ → Bool
is_of_guarded users handle = is_guarded (flags_of users handle []).global

-- a user with another handle is an owner
abbrev pub owns_beside : List ℕ → User → Bool
owns_beside handle user = owns user.global && not (is_same handle user.handle)

-- the user with the handle is the only owner
abbrev pub is_last_owner : List User → List ℕ → Bool
is_last_owner users handle = owns (flags_of users handle []).global && not (list_any (owns_beside handle) users)

-- ---- the rule

-- an edit of a user is for masters and owners, and one for owners only for owners
abbrev pub may_change : Bool → Option User → Bool
may_change for_owners asker = if for_owners then is_owner asker else is_master asker

-- whether who asks, as one of the users, has the right to an edit
abbrev pub may_ask : List User → Option User → Edit → Bool
may_ask users asker (AddUser handle) = may_change (is_of_guarded users handle) asker
may_ask users asker (DelUser handle) = may_change (is_of_guarded users handle) asker && not (is_last_owner users handle)
may_ask users asker (AddHost handle mask) = may_change (is_of_guarded users handle) asker
may_ask users asker (DelHost handle mask) = may_change (is_of_guarded users handle) asker
may_ask users asker (SetGlobal handle flags) =
    may_change (is_guarded flags || is_of_guarded users handle) asker && (owns flags || not (is_last_owner users handle))
may_ask users asker (SetChan handle channel flags) = may_change (is_of_guarded users handle) asker
may_ask users asker (SetBot handle flags) = may_change (is_of_guarded users handle) asker
may_ask users asker (AddBan channel mask creator expires comment) = is_op channel asker
may_ask users asker (DelBan channel mask) = is_op channel asker
may_ask users asker (SetInfo handle info) = is_self handle asker
may_ask users asker (SetSticky channel mask on) = is_master asker

-- whether a person has the right to an edit: the user is looked up by the records just before it
abbrev pub may : List User → Asker → Edit → Bool
may users asker edit = may_ask users (user_for asker.casemapping asker.person users) edit
