-- What a bot's connections tell the other bots about it.
use Rattle.std.specs.Prelude.{ℕ, zero, suc, ◌==◌, List, [], ◌∷◌, ◌++◌, replicate, Option, None, Some, if◌then◌else◌}
use Rattle.protocol.specs.Ends.{End}
use Rattle.sharelink.specs.Telling.{end_held, end_last_reply, end_last_request}
use Rattle.sharelink.specs.declared.held_snapshot.HeldSnapshot.{HeldSnapshot}
use Rattle.handshake.specs.declared.own.HeldParts.{HeldParts}
use Rattle.botcore.specs.Bots.{Bot}

-- of leaf 1 to this one, in order: the number of the last request that the hub replied to
abbrev pub replies_up_to : ℕ → End → List ℕ
replies_up_to zero end = []
replies_up_to (suc leaf) end = replies_up_to leaf end ++ end_last_reply end (suc leaf) ∷ []

-- the same of all leaves, each at the place of its number
abbrev pub last_replies : Bot → List ℕ
last_replies bot = 0 ∷ replies_up_to bot.config.leaves bot.link.end

-- a leaf tells the number of its own last request
abbrev pub lasts_of : Bot → List ℕ
lasts_of bot = if bot.config.number == 0 then last_replies bot else end_last_request bot.link.end ∷ []

-- the parts of a snapshot that a bot holds, of version 0 if it holds none
abbrev pub parts_or_none : Option HeldSnapshot → HeldParts
parts_or_none None = record { version = 0; bits = replicate 11 0 }
parts_or_none (Some held) = record { version = held.version; bits = held.bits }

abbrev pub held_of : Bot → HeldParts
held_of bot = parts_or_none (end_held bot.link.end)
