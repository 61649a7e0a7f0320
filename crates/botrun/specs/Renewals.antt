-- A leaf that begins again with a new journal.
use Rattle.std.specs.Prelude.{◌≡◌, true}
use Rattle.botcore.specs.Bots.{Bot}
use Rattle.botcore.specs.Links.{link_version}
use Rattle.peers.specs.Moving.{is_to_move}
use Rattle.peers.specs.declared.links.Links.{Links}
use Rattle.botrun.specs.declared.bot_process.LifeEnd.{LifeEnd}
use Rattle.botrun.specs.declared.bot_process.LifeEnd.TheVariants.{BeginsAbove as BeginsAgain, Whole}
use Rattle.botrun.specs.declared.bot_process.RunEnd.TheVariants.{Ended as RunEnded, Moves as RunMoves}
use Rattle.botrun.specs.declared.process.Turned.{Turned}
use Rattle.botrun.specs.declared.process.Turned.TheVariants.{Busy, Rests, BeginsAbove, Moves, Ended}

-- the bot is before the first change
abbrev pub HasNoRecords : Bot → Type 0
HasNoRecords bot = link_version bot.link ≡ 0

-- a turn after which the bot is to begin again leaves it without records
abbrev pub BeginsWithout : Turned → Bot → Type 0
BeginsWithout Busy bot = Unit {0}
BeginsWithout Rests bot = Unit {0}
BeginsWithout (BeginsAbove last) bot = HasNoRecords bot
BeginsWithout Moves bot = Unit {0}
BeginsWithout Ended bot = Unit {0}

-- a leaf leaves its net only if its hub has told it, under its key, that it is the heir of that net
abbrev pub MovesAsTold : Turned → Links → Type 0
MovesAsTold Busy links = Unit {0}
MovesAsTold Rests links = Unit {0}
MovesAsTold (BeginsAbove last) links = Unit {0}
MovesAsTold Moves links = is_to_move links ≡ true
MovesAsTold Ended links = Unit {0}

-- ---- the same of all the turns of a bot

abbrev pub RenewsWithout : LifeEnd → Bot → Type 0
RenewsWithout (BeginsAgain last) bot = HasNoRecords bot
RenewsWithout (Whole end) bot = Unit {0}

abbrev pub LeavesAsTold : LifeEnd → Links → Type 0
LeavesAsTold (BeginsAgain last) links = Unit {0}
LeavesAsTold (Whole RunMoves) links = is_to_move links ≡ true
LeavesAsTold (Whole RunEnded) links = Unit {0}
