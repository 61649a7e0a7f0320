-- What the errors of Linux mean for a bot's folder.
use Rattle.std.specs.Prelude.{ℕ, List, [], ◌∷◌, if◌then◌else◌, ◌==◌}
use Rattle.botfolder.specs.declared.fault.FolderFault.{FolderFault}
use Rattle.botfolder.specs.declared.fault.FolderFault.TheVariants.{Unusable, DiskFails, NotAFolder, MachineFiles, ProcessFiles, Full, ReadOnly, System}

-- EPERM, EACCES, EIO, ENOTDIR, ENFILE, EMFILE, ENOSPC, EDQUOT, EROFS
abbrev pub causes : List (ℕ × FolderFault)
causes = (1, Unusable) ∷ (13, Unusable) ∷ (5, DiskFails) ∷ (20, NotAFolder) ∷ (23, MachineFiles) ∷ (24, ProcessFiles) ∷ (28, Full) ∷ (122, Full) ∷ (30, ReadOnly) ∷ []

abbrev pub cause_in : List (ℕ × FolderFault) → ℕ → FolderFault
cause_in [] code = System code
cause_in (row ∷ rows) code = if code == row.0 then row.1 else cause_in rows code

abbrev pub cause_of : ℕ → FolderFault
cause_of code = cause_in causes code
