-- The exit status of a bot's process.
use Rattle.std.specs.Prelude.{ℕ, ◌==◌, ◌||◌, if◌then◌else◌}
use Rattle.handshake.specs.declared.secret.SecretFault.{SecretFault}
use Rattle.handshake.specs.declared.secret.SecretFault.TheVariants.{Unreadable, NotRegular, ProcessFiles, MachineFiles, NoMemory as no_memory, DiskFails, Length, BadLeafKey, LeafKey, OtherLeaf}
use Rattle.upkeep.specs.declared.account.AccountFault.{AccountFault}
use Rattle.upkeep.specs.declared.account.AccountFault.TheVariants as account
use Rattle.upkeep.specs.declared.page_opening.PageFault.{PageFault}
use Rattle.upkeep.specs.declared.page_opening.PageFault.TheVariants as page
use Rattle.upkeep.specs.declared.ending.RunError.{RunError}
use Rattle.upkeep.specs.declared.ending.RunError.TheVariants.{NoServer, Page, BindKind, BindProc, Bind, Config, LogFile, Secret, Account, NoNet, NoMade, BadDoubt, BadParent, Book, Listen, Folder, OtherJournal, GenerationsSpent, Control, DiskFailed, System, NoMemory}

-- 1 for a file of the secret that holds none for this bot or that this user may not read; 3 for what the machine refuses
abbrev pub secret_status : SecretFault → ℕ
secret_status Unreadable = 1
secret_status NotRegular = 1
secret_status ProcessFiles = 3
secret_status MachineFiles = 3
secret_status no_memory = 3
secret_status DiskFails = 3
secret_status Length = 1
secret_status BadLeafKey = 1
secret_status LeafKey = 1
secret_status OtherLeaf = 1

-- the same for the file of a password
abbrev pub account_status : AccountFault → ℕ
account_status account.Unreadable = 1
account_status account.NotRegular = 1
account_status account.System = 3
account_status (account.Credentials fault) = 1

-- what the system's error of this number says of a file: EIO, ENOMEM, ENFILE and EMFILE are the machine's
abbrev pub account_cause : ℕ → AccountFault
account_cause code =
    if code == 5 || code == 12 || code == 23 || code == 24 then account.System else account.Unreadable

-- the fault of the file of a page's password
abbrev pub page_cause : AccountFault → PageFault
page_cause account.Unreadable = page.Unreadable
page_cause account.NotRegular = page.NotRegular
page_cause account.System = page.System
page_cause (account.Credentials fault) = page.Unreadable

-- 1 for a page's password, 3 for what the machine refuses
abbrev pub page_status : PageFault → ℕ
page_status page.Unreadable = 1
page_status page.NotRegular = 1
page_status page.Empty = 1
page_status page.System = 3
page_status (page.Door fault) = 3

-- 1 for the configuration, the file of its secret, a journal that is another bot's, lacks its net's number or cannot be
-- rewritten, and a faulty number of the folder or book of leaves; 3 for what the machine refuses; 4 if out of memory
abbrev pub status_of : RunError → ℕ
status_of NoServer = 1
status_of (Page fault) = page_status fault
status_of (BindKind line) = 1
status_of (BindProc line) = 1
status_of (Bind line fault) = 1
status_of Config = 1
status_of LogFile = 1
status_of (Secret fault) = secret_status fault
status_of (Account fault) = account_status fault
status_of NoNet = 1
status_of NoMade = 1
status_of BadDoubt = 1
status_of BadParent = 1
status_of (Book fault) = 1
status_of (Listen fault) = 3
status_of (Folder fault) = 3
status_of OtherJournal = 1
status_of GenerationsSpent = 1
status_of (Control fault) = 3
status_of (DiskFailed change) = 3
status_of System = 3
status_of NoMemory = 4
