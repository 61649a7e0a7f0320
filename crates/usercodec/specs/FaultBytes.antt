-- The byte that says why the userfile refused a change: the number of the refusal's U code.
use Rattle.std.specs.Prelude.{ℕ, ◌==◌, List, Option, Some, None, Ok, Err, if◌then◌else◌}
use Rattle.userfile.specs.declared.error.ChangeFault.{ChangeFault}
use Rattle.userfile.specs.declared.error.ChangeFault.TheVariants.{BadHandle, BadMask, BadChannel, BadComment, NoSuchUser, UserExists, MaskExists}
use Rattle.userfile.specs.declared.error.ChangeFault.TheVariants.{NoSuchMask, BanExists, NoSuchBan, Full, NotAllowed}
use Rattle.usercodec.specs.declared.fault.CodecFault.TheVariants.{NotCanonical}
use Rattle.usercodec.specs.Fields.{Reading, ◌>>=◌, byte_at}

abbrev pub fault_byte : ChangeFault → ℕ
fault_byte BadHandle = 1
fault_byte UserExists = 2
fault_byte NoSuchUser = 3
fault_byte BadMask = 4
fault_byte MaskExists = 5
fault_byte NoSuchMask = 6
fault_byte BadChannel = 7
fault_byte BanExists = 8
fault_byte NoSuchBan = 9
fault_byte BadComment = 10
fault_byte Full = 11
fault_byte NotAllowed = 12

-- the fault that a byte stands for, if there is one
unfoldable pub fault_from : ℕ → Option ChangeFault
fault_from byte =
    if byte == 1 then Some BadHandle
    else (if byte == 2 then Some UserExists
    else (if byte == 3 then Some NoSuchUser
    else (if byte == 4 then Some BadMask
    else (if byte == 5 then Some MaskExists
    else (if byte == 6 then Some NoSuchMask
    else (if byte == 7 then Some BadChannel
    else (if byte == 8 then Some BanExists
    else (if byte == 9 then Some NoSuchBan
    else (if byte == 10 then Some BadComment
    else (if byte == 11 then Some Full
    else (if byte == 12 then Some NotAllowed
    else None)))))))))))

-- the value that was read must be a known one
abbrev pub known : {A : Type 0} → Option A → List ℕ → Reading A
known (Some x) bytes = Ok (x, bytes)
known None bytes = Err NotCanonical

unfoldable pub fault_at : List ℕ → Reading ChangeFault
fault_at bytes = do
  byte ← byte_at bytes
  known (fault_from byte.0) byte.1
