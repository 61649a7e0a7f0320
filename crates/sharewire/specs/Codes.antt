-- The letter and number of each fault.
use Rattle.std.specs.Prelude.{ℕ, List, codes}
use Rattle.sharewire.specs.declared.fault.WireFault.{WireFault}
use Rattle.sharewire.specs.declared.fault.WireFault.TheVariants.{BadLength, BadKind, BadBody, Failed}

abbrev pub wire_code : WireFault → List ℕ
wire_code BadLength = codes "K3"
wire_code BadKind = codes "K1"
wire_code BadBody = codes "K2"
wire_code Failed = codes "K4"
