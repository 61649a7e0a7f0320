-- What the NOTICEs say of changes that are refused, and which hostmask an edit adds.
use Rattle.std.specs.Prelude.{ℕ, List, [], ◌++◌, codes}
use Rattle.userfile.specs.declared.edit.Edit.{Edit}
use Rattle.userfile.specs.declared.edit.Edit.TheVariants.{AddUser, DelUser, AddHost, DelHost, SetGlobal, SetChan, SetBot, AddBan, DelBan, SetInfo, SetSticky}
use Rattle.userfile.specs.declared.error.ChangeFault.{ChangeFault}
use Rattle.userfile.specs.declared.error.ChangeFault.TheVariants.{BadHandle, BadMask, BadChannel, BadComment, NoSuchUser, UserExists, MaskExists}
use Rattle.userfile.specs.declared.error.ChangeFault.TheVariants.{NoSuchMask, BanExists, NoSuchBan, Full, NotAllowed}
use Rattle.userfile.specs.Codes.{fault_code}

-- ---- refusals

abbrev pub refusal_words : ChangeFault → List ℕ
refusal_words BadHandle = codes "a handle has 1 to 32 bytes, without spaces and * , : @"
refusal_words UserExists = codes "there is such a user already"
refusal_words NoSuchUser = codes "there is no such user"
refusal_words BadMask = codes "a mask is nick!user@host, of at most 120 bytes"
refusal_words MaskExists = codes "the user has this mask already"
refusal_words NoSuchMask = codes "the user has no such mask"
refusal_words BadChannel = codes "a channel begins with & # + or !, and has at most 100 bytes"
refusal_words BanExists = codes "there is such a ban already"
refusal_words NoSuchBan = codes "there is no such ban"
refusal_words BadComment = codes "a comment has at most 100 bytes, an info line at most 80"
refusal_words Full = codes "there is no room for one more"
refusal_words NotAllowed = codes "only an owner may make or change an owner or a master, and the last owner stays"

-- why a change is refused, and the refusal's code in brackets
abbrev pub refusal_text : ChangeFault → List ℕ
refusal_text fault = refusal_words fault ++ codes " (" ++ fault_code fault ++ codes ")"

-- ---- what is asked for

-- the hostmask that an edit adds to a user, or nothing
abbrev pub mask_added : Edit → List ℕ
mask_added (AddHost handle mask) = mask
mask_added (AddUser handle) = []
mask_added (DelUser handle) = []
mask_added (DelHost handle mask) = []
mask_added (SetGlobal handle flags) = []
mask_added (SetChan handle channel flags) = []
mask_added (SetBot handle flags) = []
mask_added (AddBan channel mask creator expires comment) = []
mask_added (DelBan channel mask) = []
mask_added (SetInfo handle info) = []
mask_added (SetSticky channel mask on) = []
