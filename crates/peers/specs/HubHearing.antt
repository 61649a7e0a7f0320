-- What a hub's connection brings to a leaf.
use Rattle.std.specs.Prelude.{◌≡◌, ℕ, Bool, true, false, List, IsSome}
use Rattle.sharewire.specs.declared.packet.Packet.{Packet}
use Rattle.peers.specs.declared.beat.Beats.{Beats}
use Rattle.peers.specs.declared.beat.Beats.TheVariants.{Nothing, Last, Bad}
use Rattle.peers.specs.declared.hub_link.HubLink.{HubLink}
use Rattle.peers.specs.Beats.{IsLast}
use Rattle.peers.specs.Hearing.{ReadsOn, is_no_hub}
use Rattle.peers.specs.Sealed.{OpensFrames}

-- The packets are those of the frames that whole records carried, of which each had the right tag at its place.
pub record HearsHub (old : HubLink) (packets : List Packet) (new : HubLink) : Type 0 where
  pub frames : List ℕ
  pub opens : OpensFrames frames old.wire new.wire
  pub reads : ReadsOn frames packets old.reader new.reader

-- a hub that has come less far than the leaf, or differs from it, is to be disconnected
abbrev pub EndsIf : Bool → HubLink → Type 0
EndsIf true new = IsSome new.wire.gone
EndsIf false new = Unit {0}

abbrev pub HeedsHubIf : Beats → HubLink → HubLink → Type 0
HeedsHubIf Nothing old new = new ≡ old
HeedsHubIf (Last beat) old new = (new.version ≡ beat.version) × EndsIf (is_no_hub beat old.said) new
HeedsHubIf Bad old new = IsSome new.wire.gone

pub record HeedsHub (contents : List ℕ) (old new : HubLink) : Type 0 where
  pub beats : Beats
  pub last : IsLast contents beats
  pub heeds : HeedsHubIf beats old new
