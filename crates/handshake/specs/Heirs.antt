-- A hub tells a leaf that it is the heir of the leaf's net.
use Rattle.std.specs.Prelude.{◌≡◌, ℕ, Bool, true, false, List}
use Rattle.handshake.specs.declared.fault.HandshakeFault.TheVariants.{Told}
use Rattle.handshake.specs.declared.refusal.HandshakeRefusal.TheVariants.{Heir}
use Rattle.handshake.specs.declared.leaf_side.LeafSide.{LeafSide}
use Rattle.handshake.specs.declared.leaf_side.LeafHears.TheVariants.{Refused}
use Rattle.handshake.specs.Sides.{leaf_hears}

-- These bytes of the hub's tell the leaf so, by a code under the leaf's key.
abbrev pub TellsHeir : LeafSide → List ℕ → Type 0
TellsHeir side heard = leaf_hears side heard ≡ Refused (Told Heir)

-- if the leaf was told so, then by these bytes
abbrev pub IsToldBy : LeafSide → List ℕ → Bool → Type 0
IsToldBy side heard false = Unit {0}
IsToldBy side heard true = TellsHeir side heard
