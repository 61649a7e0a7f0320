-- The botnet of a script before its first step.
use Rattle.std.specs.Prelude.{◌≡◌, ℕ, ◌+◌, false, List, [], ◌∷◌, ◌++◌, length, Option, None, Some, pos, codes, decimal}
use Rattle.botjournal.specs.Ledger.{Device}
use Rattle.bottimers.specs.Zones.{TzText, fixed_rule}
use Rattle.botcore.specs.declared.config.Config.{Config}
use Rattle.botcore.specs.Bots.{Bot, new_bot}
use Rattle.botworld.specs.Network.{State, start}

-- the zone that a script gives, or UTC
abbrev pub zone_or_utc : Option TzText → TzText
zone_or_utc None = fixed_rule (pos 0)
zone_or_utc (Some rule) = rule

-- the configuration of a bot: bot 3, say, has the nick egg3; each bot has the channel #egg, exclusive off and a clock
-- of this zone
abbrev pub config_of : ℕ → TzText → ℕ → Config
config_of leaves zone number = record {
  number = number;
  leaves = leaves;
  nick = codes "egg" ++ decimal number;
  channels = codes "#egg" ∷ [];
  exclusive = false;
  sends_at_once = false;
  leaves_bans = false;
  zone = zone;
}

-- new bots, one for each of these devices, which are its two disks; the first has this number, and each next one is one
-- higher
abbrev pub bots_from : ℕ → TzText → ℕ → List Device → List Bot
bots_from leaves zone first [] = []
bots_from leaves zone first (f ∷ fs) = new_bot (config_of leaves zone first) f ∷ bots_from leaves zone (first + 1) fs

-- these are `count` new bots of a net of `leaves` leaves in a zone, the hub first
pub record AreNew (leaves : ℕ) (zone : TzText) (count : ℕ) (bots : List Bot) : Type 0 where
  pub devices : List Device
  pub each : length devices ≡ count
  pub are : bots ≡ bots_from leaves zone 0 devices

-- a hub and its leaves before the first step, with procs of these names
pub record IsFirst (leaves : ℕ) (zone : TzText) (names : List (List ℕ)) (s : State) : Type 0 where
  pub bots : List Bot
  pub new : AreNew leaves zone (leaves + 1) bots
  pub starts : s ≡ start bots names
