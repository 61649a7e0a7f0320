-- Who may do what with a file or a folder, by its mode: three bits each for its owner, its group and everybody.
use Rattle.std.specs.Prelude.{ℕ, ◌==◌, ◌||◌, ◌&&◌, not, bit_and, Bool, Option, None, Some, if◌then◌else◌}
use Rattle.botfolder.specs.declared.fault.FolderFault.TheVariants.{BarsOwner, LetsOthersIn, NotAFolder}
use Rattle.doctor.specs.declared.modes.Seen.{Seen}
use Rattle.doctor.specs.declared.modes.FileMode.{FileMode}
use Rattle.doctor.specs.declared.modes.FileMode.TheVariants.{Owner, Group}
use Rattle.doctor.specs.declared.verdict.Verdict.{Verdict}
use Rattle.doctor.specs.declared.verdict.Verdict.TheVariants.{Fine, Note, Bad}
use Rattle.doctor.specs.declared.verdict.Fine.TheVariants as Fine
use Rattle.doctor.specs.declared.verdict.Note.TheVariants as Note
use Rattle.doctor.specs.declared.verdict.Bad.TheVariants as Bad

-- whether the mode has one of these bits, or all of them
abbrev pub has_some : ℕ → ℕ → Bool
has_some mode bits = not (bit_and mode bits == 0)

abbrev pub has_all : ℕ → ℕ → Bool
has_all mode bits = bit_and mode bits == bits

-- everybody may read the file, or its group; but a file of root's is read by the group of the bot's user
abbrev pub is_open : Seen → Bool
is_open file = has_some file.mode 0o004 || (has_some file.mode 0o040 && not (file.owner == 0))

abbrev pub mode_to_give : Seen → Option FileMode
mode_to_give file = if not (is_open file) then None else if file.owner == 0 then Some Group else Some Owner

-- a folder's owner needs all three rights, and nobody else has one
abbrev pub verdict_of_mode : ℕ → Option Verdict
verdict_of_mode mode =
    if not (has_all mode 0o700) then Some (Bad (Bad.Folder BarsOwner))
    else if not (has_some mode 0o077) then None
    else if has_some mode 0o022 then Some (Bad Bad.OpenFolder)
    else if has_some mode 0o011 then Some (Bad (Bad.Folder LetsOthersIn))
    else Some (Note Note.OpenFolder)

-- a bot's folder belongs to the user who runs the bot
abbrev pub verdict_of_owner : ℕ → ℕ → Option Verdict
verdict_of_owner owner user = if owner == user then None else Some (Bad (Bad.OthersFolder owner user))

-- a missing folder is made in a folder in which this user may make one
abbrev pub verdict_above : Bool → Bool → Verdict
verdict_above is_folder may =
    if not is_folder then Bad (Bad.Folder NotAFolder) else if not may then Bad Bad.NoFolder else Fine Fine.NoFolder

-- the bits by which a user writes to a folder and enters it
abbrev pub rights_of : ℕ → Bool → Seen → ℕ
rights_of user is_member folder = if folder.owner == user then 0o300 else if is_member then 0o030 else 0o003

-- root may make a folder anywhere
abbrev pub may_make : ℕ → Bool → Seen → Bool
may_make user is_member folder = user == 0 || has_all folder.mode (rights_of user is_member folder)
