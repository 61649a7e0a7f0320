-- The members of one channel, in the order in which they came.
use Rattle.std.specs.Prelude.{ℕ, Bool, false, ◌||◌, List, [], ◌∷◌, ◌++◌, if◌then◌else◌}
use Rattle.std.specs.List.{list_any}
use Rattle.chanstate.specs.declared.member.Member.{Member}
use Rattle.chanstate.specs.declared.member.Mark.{Mark}
use Rattle.chanstate.specs.declared.member.Mark.TheVariants.{Op, Voice, HalfOp}
use Rattle.chanstate.specs.declared.member_edit.MemberEdit.{MemberEdit}
use Rattle.chanstate.specs.declared.member_edit.MemberEdit.TheVariants.{Marked, Listed, Addressed, Told}
use Rattle.chanstate.specs.declared.detail.Detail.{Detail}
use Rattle.chanstate.specs.declared.detail.Detail.TheVariants.{Account, Address}
use Rattle.rfccase.specs.Casemapping.{is_same_by}
use Rattle.chanstate.specs.Firsts.{first_removed, first_changed}
use Rattle.rfccase.specs.declared.casemappings.Casemapping.{Casemapping}

-- whether the member has this nick
abbrev pub is_called : Casemapping → List ℕ → Member → Bool
is_called mapping nick m = is_same_by mapping nick m.nick

-- whether one of the members has this nick
abbrev pub has_member : Casemapping → List ℕ → List Member → Bool
has_member mapping nick members = list_any (is_called mapping nick) members

-- a member who has no mark yet, and of whom no account is known
abbrev pub unmarked : List ℕ → List ℕ → List ℕ → Member
unmarked nick user host = record { nick = nick; user = user; host = host; account = []; op = false; voice = false; half_op = false }

-- the member with another user and host
abbrev pub with_address : List ℕ → List ℕ → Member → Member
with_address user host m = record m { user = user; host = host }

-- the member logged in under another account
abbrev pub with_account : List ℕ → Member → Member
with_account account m = record m { account = account }

-- the member as the server has told
abbrev pub with_detail : Detail → Member → Member
with_detail (Account account) m = with_account account m
with_detail (Address user host) m = with_address user host m

-- the member under another nick
abbrev pub with_nick : List ℕ → Member → Member
with_nick nick m = record m { nick = nick }

-- the member with a mark set or cleared
abbrev pub with_mark : Mark → Bool → Member → Member
with_mark Op on m = record m { op = on }
with_mark Voice on m = record m { voice = on }
with_mark HalfOp on m = record m { half_op = on }

-- the member with these marks besides its own
abbrev pub with_marks_of : Member → Member → Member
with_marks_of more m = record m { op = m.op || more.op; voice = m.voice || more.voice; half_op = m.half_op || more.half_op }

-- the member after a change that keeps the nick
abbrev pub edited : MemberEdit → Member → Member
edited (Marked mark on) m = with_mark mark on m
edited (Listed more) m = with_marks_of more m
edited (Addressed user host) m = with_address user host m
edited (Told detail) m = with_detail detail m

-- someone joins: a member gets the new address, and anyone else comes last, without marks
abbrev pub arrived : Casemapping → Member → List Member → List Member
arrived mapping one members =
    if has_member mapping one.nick members
    then first_changed (is_called mapping one.nick) (with_address one.user one.host) members
    else members ++ one ∷ []

-- someone is listed: a member gets the marks, and anyone else comes last with them
abbrev pub listed : Casemapping → Member → List Member → List Member
listed mapping one members =
    if has_member mapping one.nick members
    then first_changed (is_called mapping one.nick) (with_marks_of one) members
    else members ++ one ∷ []

-- several are listed, in their order
abbrev pub listed_each : Casemapping → List Member → List Member → List Member
listed_each mapping [] members = members
listed_each mapping (one ∷ more) members = listed_each mapping more (listed mapping one members)

-- several are shown, but only members get the marks
abbrev pub shown_each : Casemapping → List Member → List Member → List Member
shown_each mapping [] members = members
shown_each mapping (one ∷ more) members = shown_each mapping more (first_changed (is_called mapping one.nick) (with_marks_of one) members)

-- the members without another one who has the new nick
abbrev pub without_namesake : Casemapping → List ℕ → List ℕ → List Member → List Member
without_namesake mapping old new members = if is_same_by mapping old new then members else first_removed (is_called mapping new) members

-- a member changes nick and keeps its place, and another member of that nick is removed first
abbrev pub renamed : Casemapping → List ℕ → List ℕ → List Member → List Member
renamed mapping old new members =
    if has_member mapping old members
    then first_changed (is_called mapping old) (with_nick new) (without_namesake mapping old new members)
    else members
