-- How a bot is connected to the others of its net.
use Rattle.std.specs.Prelude.{◌≡◌, ◌<◌, ◌==◌, ◌&&◌, nat_lt, ℕ, Bool, List, Option, MatchOption}
use Rattle.settings.specs.declared.settings.LeafLine.{LeafLine}
use Rattle.settings.specs.declared.settings.LeafRule.{LeafRule}
use Rattle.settings.specs.declared.settings.LeafRule.TheVariants.{Reads as reads_line, Persons as persons_line}
use Rattle.settings.specs.declared.settings.Station.{Station}
use Rattle.handshake.specs.Keys.{leaf_key}
use Rattle.handshake.specs.declared.secret.Secret.{Secret}
use Rattle.handshake.specs.declared.secret.Secret.TheVariants.{Net as NetSecret, Leaf as LeafKey}
use Rattle.handshake.specs.declared.progress.LeafRights.{LeafRights}
use Rattle.handshake.specs.declared.progress.LeafRights.TheVariants.{Reads, Persons}
use Rattle.peers.specs.declared.stations.LeafLimit.{LeafLimit}
use Rattle.peers.specs.declared.links.Links.{Links}
use Rattle.peers.specs.declared.links.Links.TheVariants.{Alone, Hub, Leaf}

-- the hub knows the net's secret; a leaf knows that, or its own key
abbrev pub Suits : Station → Secret → Type 0
Suits station (NetSecret key) = Unit {0}
Suits station (LeafKey leaf key) = (0 < station.number) × (leaf ≡ station.number)

-- a bot of a net of several knows a secret that suits it, and one that is alone knows none
abbrev pub IsKnownWhereWanted : Station → Option Secret → Type 0
IsKnownWhereWanted station secret = MatchOption secret (station.leaves ≡ 0) (λ known. (0 < station.leaves) × Suits station known)

-- the key of the leaf of this number: made of the net's secret, or given
abbrev pub own_key : ℕ → Secret → List ℕ
own_key leaf (NetSecret key) = leaf_key key leaf
own_key leaf (LeafKey number key) = key

-- what the hub's file says that a leaf may do
abbrev pub rights_by : LeafRule → LeafRights
rights_by reads_line = Reads
rights_by persons_line = Persons

abbrev pub limit_in : LeafLine → LeafLimit
limit_in line = record { leaf = line.leaf; may = rights_by line.rule }

-- a bot that is the hub, and has leaves
abbrev pub is_hub : Station → Bool
is_hub station = (station.number == 0) && nat_lt 0 station.leaves

-- A bot without leaves is alone. In a net of several, number 0 is the hub, and each other number a leaf.
abbrev pub IsLinkedAs : Station → Links → Type 0
IsLinkedAs station Alone = station.leaves ≡ 0
IsLinkedAs station (Hub hub) = (0 < station.leaves) × (station.number ≡ 0)
IsLinkedAs station (Leaf leaf) = (0 < station.leaves) × (0 < station.number)
