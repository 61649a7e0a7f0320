-- The letters and numbers of faults.
use Rattle.std.specs.Prelude.{ℕ, List, codes}
use Rattle.procs.specs.declared.proc_fault.AddFault.{AddFault}
use Rattle.procs.specs.declared.proc_fault.AddFault.TheVariants.{NameTaken, Full}
use Rattle.procs.specs.declared.proc_fault.CallFault.{CallFault}
use Rattle.procs.specs.declared.proc_fault.CallFault.TheVariants.{NoSuchProc}

abbrev pub add_code : AddFault → List ℕ
add_code NameTaken = codes "P1"
add_code Full = codes "P2"

abbrev pub call_code : CallFault → List ℕ
call_code NoSuchProc = codes "P3"
