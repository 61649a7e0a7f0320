-- The end that a bot has.
use Rattle.std.specs.Prelude.{◌<◌}
use Rattle.sharelink.specs.HubLinks.{HubEnd}
use Rattle.sharelink.specs.LeafLinks.{LeafEnd}
use Rattle.protocol.specs.Ends.{AtHub, AtLeaf}
use Rattle.sharelink.specs.declared.ends.Ends.{Ends}
use Rattle.sharelink.specs.declared.ends.Ends.TheVariants.{Hub, Leaf}
use Rattle.sharelink.specs.BotLinks.{BotEnd}

-- the hub's end is bot 0's
abbrev pub hub_end : HubEnd → BotEnd
hub_end hub = record { number = 0; leaves = hub.leaves; end = AtHub hub.bot; device = hub.device }

abbrev pub leaf_end : LeafEnd → BotEnd
leaf_end leaf = record { number = leaf.number; leaves = leaf.leaves; end = AtLeaf leaf.bot; device = leaf.device }

module _ {D : Type 0} where
  abbrev pub bot_of : Ends D → BotEnd
  bot_of (Hub hub) = hub_end hub
  bot_of (Leaf leaf) = leaf_end leaf

  -- leaves are numbered from 1
  abbrev pub IsNumbered : Ends D → Type 0
  IsNumbered (Hub hub) = Unit {0}
  IsNumbered (Leaf leaf) = 0 < leaf.number
