-- The letter and number of each fault.
use Rattle.std.specs.Prelude.{ℕ, List, codes}
use Rattle.usercodec.specs.declared.fault.CodecFault.{CodecFault}
use Rattle.usercodec.specs.declared.fault.CodecFault.TheVariants.{Short, BadTag, NotCanonical}

abbrev pub fault_code : CodecFault → List ℕ
fault_code Short = codes "X1"
fault_code BadTag = codes "X2"
fault_code NotCanonical = codes "X3"
