-- Who may use a folder: its owner, and for some calls root.
use Rattle.std.specs.Prelude.{ℕ, ◌==◌, ◌&&◌, not, Bool, true, false, Option, None, Some, if◌then◌else◌}
use Rattle.botfolder.specs.declared.fault.FolderFault.{FolderFault}
use Rattle.botfolder.specs.declared.fault.FolderFault.TheVariants.{IsLink, OtherUser}
use Rattle.botfolder.specs.declared.owner.Besides.{Besides}
use Rattle.botfolder.specs.declared.owner.Besides.TheVariants.{Nobody, Root}

abbrev pub admits_root : Besides → Bool
admits_root Nobody = false
admits_root Root = true

-- whether this user is another one than the owner; nobody knows of a user that the system does not say
abbrev pub is_other : ℕ → Option ℕ → Besides → Bool
is_other owner None besides = false
is_other owner (Some user) besides = not (user == owner) && not (user == 0 && admits_root besides)

-- a link may lead to anybody's folder
abbrev pub barred_by : Bool → ℕ → Option ℕ → Besides → Option FolderFault
barred_by is_link owner user besides =
    if is_link then Some IsLink else if is_other owner user besides then Some OtherUser else None
