-- The short code of each fault.
use Rattle.std.specs.Prelude.{ℕ, List, codes}
use Rattle.ircline.specs.declared.fault.LineFault.{LineFault}
use Rattle.ircline.specs.declared.fault.LineFault.TheVariants.{TooLong, NulByte, BadPrefix, BadCommand}

abbrev pub code_of : LineFault → List ℕ
code_of TooLong = codes "L1"
code_of NulByte = codes "L4"
code_of BadPrefix = codes "L2"
code_of BadCommand = codes "L3"
