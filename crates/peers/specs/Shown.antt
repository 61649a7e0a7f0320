-- A guest asks only if it has shown its code.
use Rattle.std.specs.Prelude.{ℕ, List}
use Rattle.peers.specs.declared.guest_stage.GuestStage.{GuestStage}
use Rattle.peers.specs.declared.guest_stage.GuestStage.TheVariants.{Meets, Asks, Enters}
use Rattle.handshake.specs.declared.hub_side.HubSide.{HubSide}
use Rattle.handshake.specs.Sides.{ShowsKey}

-- What was heard on this connection begins with the guest's line, which has the code under the key of the leaf that it
-- names.
abbrev pub HasShown : HubSide → List ℕ → GuestStage → Type 0
HasShown side heard Meets = Unit {0}
HasShown side heard (Asks asked) = ShowsKey side heard asked.used asked.ask
HasShown side heard (Enters asked) = ShowsKey side heard asked.used asked.ask
