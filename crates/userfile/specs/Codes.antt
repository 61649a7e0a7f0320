-- The letter and number of each refusal.
use Rattle.std.specs.Prelude.{ℕ, List, codes}
use Rattle.userfile.specs.declared.error.ChangeFault.{ChangeFault}
use Rattle.userfile.specs.declared.error.ChangeFault.TheVariants.{BadHandle, BadMask, BadChannel, BadComment, NoSuchUser, UserExists, MaskExists}
use Rattle.userfile.specs.declared.error.ChangeFault.TheVariants.{NoSuchMask, BanExists, NoSuchBan, Full, NotAllowed}

abbrev pub fault_code : ChangeFault → List ℕ
fault_code BadHandle = codes "U1"
fault_code UserExists = codes "U2"
fault_code NoSuchUser = codes "U3"
fault_code BadMask = codes "U4"
fault_code MaskExists = codes "U5"
fault_code NoSuchMask = codes "U6"
fault_code BadChannel = codes "U7"
fault_code BanExists = codes "U8"
fault_code NoSuchBan = codes "U9"
fault_code BadComment = codes "U10"
fault_code Full = codes "U11"
fault_code NotAllowed = codes "U12"
