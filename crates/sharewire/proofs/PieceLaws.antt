-- The fault of a stream, from the faults that its pieces told.
use Rattle.std.proofs.Common.{◌≡◌, ℕ, true, false, List, [], Option, Ok, Err, refl, sym, ap, subst, ◌∙◌}
use Rattle.std.specs.Prelude.{IsErr}
use Rattle.std.specs.Option.{is_none}
use Rattle.sharewire.specs.declared.fault.WireFault.{WireFault}
use Rattle.sharewire.specs.declared.packet.Packet.{Packet}
use Rattle.sharewire.specs.Streams.{Ending, Tells, ended, fault_in, fault_told}

pub first_fault : (old new : Ending) (fault told : Option WireFault) → fault ≡ fault_in old → told ≡ fault_told old new → is_none fault ≡ true
    → told ≡ fault_in new
first_fault (Ok begun) new fault told is tells none = tells
first_fault (Err bad) new fault told is tells none = absurd cc

pub kept_fault : (old new : Ending) (fault : Option WireFault) → fault ≡ fault_in old → (IsErr old → new ≡ old) → is_none fault ≡ false → fault ≡ fault_in new
kept_fault (Ok begun) new fault is stays some = absurd cc
kept_fault (Err bad) new fault is stays some = is ∙ ap fault_in (sym (stays refl))

pub ends_so : (ending : Ending) (fault : Option WireFault) (stream : List ℕ) (packets : List Packet) → fault ≡ fault_in ending → Tells stream packets ending
    → (begun : List ℕ) × Tells stream packets (ended begun fault)
ends_so (Ok begun) fault stream packets is told = (begun, subst (λ (f : Option WireFault). Tells stream packets (ended begun f)) (sym is) told)
ends_so (Err bad) fault stream packets is told = ([], subst (λ (f : Option WireFault). Tells stream packets (ended [] f)) (sym is) told)
