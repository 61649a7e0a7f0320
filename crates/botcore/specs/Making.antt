-- How a bot is made, opened from its disks, and taken apart.
use Rattle.std.specs.Prelude.{◌≡◌, ℕ, Result, Ok, Err}
use Rattle.bytetext.specs.declared.failure.Failure.{Failure}
use Rattle.bytetext.specs.declared.failure.Failure.TheVariants.{Refused, NoMemory}
use Rattle.disks.specs.State.{State}
use Rattle.bytejournal.specs.declared.fault.JournalFault.{JournalFault}
use Rattle.bytejournal.specs.Opening.{CannotCreate}
use Rattle.sharelink.specs.BotLinks.{BotEnd}
use Rattle.botjournal.specs.Contents.{meaning}
use Rattle.botjournal.specs.Ledger.{Device, AtEachMoment, device_on}
use Rattle.sharelink.specs.BotOpening.{AreBots, IsFound, IsLeft, FindsNone, MeanTheSame}
use Rattle.botcore.specs.declared.config.Config.{Config}
use Rattle.botcore.specs.declared.fault.BotFault.{BotFault}
use Rattle.botcore.specs.declared.fault.BotFault.TheVariants.{BadConfig, Journal}
use Rattle.botcore.specs.declared.making.UnopenedBot.{UnopenedBot}
use Rattle.botcore.specs.Bots.{Bot, begun, new_bot, bot_after}
use Rattle.botcore.specs.Configs.{IsGood}

-- why no bot is made before the disks are read: the configuration breaks a rule, or memory ran out although it is good
abbrev pub IsWhyNot : Config → Failure BotFault → Type 0
IsWhyNot config (Refused BadConfig) = ¬ IsGood config
IsWhyNot config (Refused (Journal fault)) = ⊥
IsWhyNot config NoMemory = IsGood config

-- an error of a journal as an error of a bot
abbrev pub of_journal : Failure JournalFault → Failure BotFault
of_journal (Refused fault) = Refused (Journal fault)
of_journal NoMemory = NoMemory

module _ {D : Type 0} (state : D → State) (config : Config) (first second : D) where
  -- ---- making

  -- why a bot isn't made: the configuration breaks a rule, and the disks are untouched; or it is good, and there is no
  -- journal
  abbrev pub NotMade : Failure BotFault → D → D → Type 0
  NotMade (Refused BadConfig) first' second' = (¬ IsGood config) × (first' ≡ first) × (second' ≡ second)
  NotMade (Refused (Journal fault)) first' second' =
      IsGood config × CannotCreate (state first) (state second) (Refused fault) (state first') (state second')
  NotMade NoMemory first' second' = IsGood config × CannotCreate (state first) (state second) NoMemory (state first') (state second')

  -- Making a bot, by cases on the answer.
  abbrev pub Makes : Result Bot (UnopenedBot D) → Type 0
  Makes (Ok bot) = IsGood config × (bot ≡ new_bot config bot.link.device)
  Makes (Err returned) = NotMade returned.error returned.disks.first returned.disks.second

  -- Making a bot whose requests are numbered above this number, by cases on the answer.
  abbrev pub MakesAfter : ℕ → Result Bot (UnopenedBot D) → Type 0
  MakesAfter last (Ok bot) = IsGood config × (bot ≡ bot_after config last bot.link.device)
  MakesAfter last (Err returned) = NotMade returned.error returned.disks.first returned.disks.second

  -- ---- opening

  -- whatever a crash leaves on the disks means what the given disks mean, or the same rewritten in the present layout
  abbrev pub StayTheSame : D → D → Type 0
  StayTheSame first' second' = MeanTheSame state config.number config.leaves first second first' second'

  -- why no bot is found: the configuration breaks a rule, and the disks are untouched; or it is good, and they hold
  -- none
  abbrev pub NotFound : Failure BotFault → D → D → Type 0
  NotFound (Refused BadConfig) first' second' = (¬ IsGood config) × (first' ≡ first) × (second' ≡ second)
  NotFound (Refused (Journal fault)) first' second' = IsGood config
      × FindsNone state config.number config.leaves first second (Refused fault) first' second' × StayTheSame first' second'
  NotFound NoMemory first' second' = IsGood config × StayTheSame first' second'

  -- the end of the link that the disks hold, of a bot with this configuration
  abbrev pub IsOnDisks : BotEnd → Type 0
  IsOnDisks link = IsFound state config.number config.leaves first second link.end
      × (link ≡ record { number = config.number; leaves = config.leaves; end = link.end; device = link.device })

  -- Opening a bot, by cases on the answer.
  abbrev pub Finds : Result Bot (UnopenedBot D) → Type 0
  Finds (Ok bot) = IsGood config × IsOnDisks bot.link × (bot ≡ begun config bot.link)
  Finds (Err returned) = NotFound returned.error returned.disks.first returned.disks.second

  -- at each moment, from the given disks on to these, a crash leaves what the disks mean, or the same rewritten
  abbrev pub LeavesFound : Device → Type 0
  LeavesFound now = AtEachMoment (device_on (state first) (state second)) now
      (IsLeft config.number config.leaves (meaning (state first).seen (state second).seen))

  -- so it is at each moment of opening a bot
  abbrev pub FindsAtEachMoment : Result Bot (UnopenedBot D) → Type 0
  FindsAtEachMoment (Ok bot) = LeavesFound bot.link.device
  FindsAtEachMoment (Err returned) = LeavesFound (device_on (state returned.disks.first) (state returned.disks.second))

  -- if the disks hold a journal of the bot, at each moment, from the given disks on to these, a crash leaves one
  abbrev pub LeavesBots : Device → Type 0
  LeavesBots now = AreBots config.number config.leaves (state first).seen (state second).seen
      → AtEachMoment (device_on (state first) (state second)) now (AreBots config.number config.leaves)

  -- so it is at each moment of opening a bot
  abbrev pub StaysBots : Result Bot (UnopenedBot D) → Type 0
  StaysBots (Ok bot) = LeavesBots bot.link.device
  StaysBots (Err returned) = LeavesBots (device_on (state returned.disks.first) (state returned.disks.second))
