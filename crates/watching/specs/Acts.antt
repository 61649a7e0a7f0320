-- What a process does with its bot, as its watcher is told, and which of these acts are lawful.
use Rattle.std.specs.Prelude.{◌≡◌, ◌⊎◌, ◌+◌, ◌++◌, ℕ, List, [], ◌∷◌, drop, Option, Some, None}
use Rattle.sharewire.specs.declared.packet.Packet.{Packet}
use Rattle.procs.specs.Promises.{Promised}
use Rattle.sharelink.specs.declared.answer.Outgoing.{Outgoing}
use Rattle.sharelink.specs.BotLinks.{MayLeave}
use Rattle.botcore.specs.declared.config.Config.{Config}
use Rattle.botcore.specs.declared.event.BotEvent.{BotEvent}
use Rattle.botcore.specs.declared.event.BotEvent.TheVariants.{Connect, Line, Ask, Pump, Receive, Clock, Bind, Unbind, Compact, Restart}
use Rattle.botcore.specs.declared.report.Report.{Report}
use Rattle.botcore.specs.Bots.{Bot, bot_after}
use Rattle.botcore.specs.Links.{link_version}
use Rattle.botcore.specs.Steps.{TakesStep}
use Rattle.watching.specs.Openings.{IsOpened}

-- ---- acts

pub data Act : Type 0 where
  -- the bot is to be opened from these bytes of its two disks
  Opens : (first second : List ℕ) → Act
  -- the bot is to be created on two disks with these bytes; if it is a leaf, its requests are numbered above `last`
  Creates : (first second : List ℕ) (last : ℕ) → Act
  -- the bot is opened or created, and is this one
  Began : Bot → Act
  -- the bot, which is this one, is to make a step of this event
  Told : Bot → BotEvent → Act
  -- the step is made: the bot has reported this, and is this one now
  Made : Report → Bot → Act
  -- the journal of the bot, which is this one, is to be forgotten
  Forgets : Bot → Act
  -- these packets of other bots are taken from the process's connections
  Hears : List Packet → Act
  -- this packet is queued on the connection to its recipient
  Sends : Outgoing → Act
  -- the process waits until there may be something to do
  Waits : Act

-- A past is a list of acts, the newest first. This is the bot of the process after it; none before the bot has begun,
-- and none in the middle of an act.
abbrev pub bot_in : List Act → Option Bot
bot_in [] = None
bot_in (Opens first second ∷ past) = None
bot_in (Creates first second last ∷ past) = None
bot_in (Began bot ∷ past) = Some bot
bot_in (Told bot event ∷ past) = None
bot_in (Made report bot ∷ past) = Some bot
bot_in (Forgets bot ∷ past) = None
bot_in (Hears packets ∷ past) = bot_in past
bot_in (Sends outgoing ∷ past) = bot_in past
bot_in (Waits ∷ past) = bot_in past

-- ---- how a bot may begin

-- which bot of a net a process runs: its number, and how many leaves the net has
pub record Station : Type 0 where
  pub number : ℕ
  pub leaves : ℕ

-- the station of a bot of this configuration
abbrev pub station_in : Config → Station
station_in config = record { number = config.number; leaves = config.leaves }

-- nothing was done yet, or the journal of the last bot is forgotten
abbrev pub HasNoBot : List Act → Type 0
HasNoBot [] = Unit {0}
HasNoBot (Opens first second ∷ past) = ⊥
HasNoBot (Creates first second last ∷ past) = ⊥
HasNoBot (Began bot ∷ past) = ⊥
HasNoBot (Told bot event ∷ past) = ⊥
HasNoBot (Made report bot ∷ past) = ⊥
HasNoBot (Forgets bot ∷ past) = Unit {0}
HasNoBot (Hears packets ∷ past) = ⊥
HasNoBot (Sends outgoing ∷ past) = ⊥
HasNoBot (Waits ∷ past) = ⊥

-- the requests of the first bot of a process are numbered from 1 on
abbrev pub NumbersAbove : List Act → ℕ → Type 0
NumbersAbove [] last = last ≡ 0
NumbersAbove (Opens first second ∷ past) last = ⊥
NumbersAbove (Creates first second other ∷ past) last = ⊥
NumbersAbove (Began bot ∷ past) last = ⊥
NumbersAbove (Told bot event ∷ past) last = ⊥
NumbersAbove (Made report bot ∷ past) last = ⊥
NumbersAbove (Forgets bot ∷ past) last = Unit {0}
NumbersAbove (Hears packets ∷ past) last = ⊥
NumbersAbove (Sends outgoing ∷ past) last = ⊥
NumbersAbove (Waits ∷ past) last = ⊥

-- a bot that was opened is the one that its disks held, and one that was created is new
abbrev pub Begins : List Act → Bot → Type 0
Begins [] bot = ⊥
Begins (Opens first second ∷ past) bot = IsOpened bot.config.number (bot.config.leaves + 1) first second bot
Begins (Creates first second last ∷ past) bot = bot ≡ bot_after bot.config last bot.link.device
Begins (Began other ∷ past) bot = ⊥
Begins (Told other event ∷ past) bot = ⊥
Begins (Made report other ∷ past) bot = ⊥
Begins (Forgets other ∷ past) bot = ⊥
Begins (Hears packets ∷ past) bot = ⊥
Begins (Sends outgoing ∷ past) bot = ⊥
Begins (Waits ∷ past) bot = ⊥

-- the bot is this station's
abbrev pub IsBotOf : Station → Bot → Type 0
IsBotOf station bot = (bot.config.number ≡ station.number) × (bot.config.leaves ≡ station.leaves)

-- what a crash leaves on the bot's disks is what it keeps, with the record in doubt or without it
abbrev pub IsKept : Bot → Type 0
IsKept bot = MayLeave bot.link.device.first bot.link.device.second bot.link

-- The acts with which a bot of this station begins. It is created on disks that hold nothing.
abbrev pub MayBegin : Station → List Act → Act → Type 0
MayBegin station past (Opens first second) = HasNoBot past
MayBegin station past (Creates first second last) = NumbersAbove past last × (first ≡ []) × (second ≡ [])
MayBegin station past (Began bot) = Begins past bot × IsBotOf station bot × IsKept bot
MayBegin station past (Told bot event) = ⊥
MayBegin station past (Made report bot) = ⊥
MayBegin station past (Forgets bot) = ⊥
MayBegin station past (Hears packets) = ⊥
MayBegin station past (Sends outgoing) = ⊥
MayBegin station past Waits = ⊥

-- ---- what a process has heard

-- the packet is one of these
abbrev pub IsOneOf : List Packet → Packet → Type 0
IsOneOf [] packet = ⊥
IsOneOf (one ∷ packets) packet = (packet ≡ one) ⊎ IsOneOf packets packet

-- the process has taken this packet from its connections since its bot has begun
abbrev pub IsHeard : List Act → Packet → Type 0
IsHeard [] packet = ⊥
IsHeard (Opens first second ∷ past) packet = ⊥
IsHeard (Creates first second last ∷ past) packet = ⊥
IsHeard (Began bot ∷ past) packet = ⊥
IsHeard (Told bot event ∷ past) packet = IsHeard past packet
IsHeard (Made report bot ∷ past) packet = IsHeard past packet
IsHeard (Forgets bot ∷ past) packet = ⊥
IsHeard (Hears packets ∷ past) packet = IsOneOf packets packet ⊎ IsHeard past packet
IsHeard (Sends outgoing ∷ past) packet = IsHeard past packet
IsHeard (Waits ∷ past) packet = IsHeard past packet

-- ---- what a process has sent

-- the packets that the steps of its bot have reported since the bot has begun, in order, and that are not queued yet
abbrev pub unsent : List Act → List Outgoing
unsent [] = []
unsent (Opens first second ∷ past) = []
unsent (Creates first second last ∷ past) = []
unsent (Began bot ∷ past) = []
unsent (Told bot event ∷ past) = unsent past
unsent (Made report bot ∷ past) = unsent past ++ report.packets
unsent (Forgets bot ∷ past) = []
unsent (Hears packets ∷ past) = unsent past
unsent (Sends outgoing ∷ past) = drop 1 (unsent past)
unsent (Waits ∷ past) = unsent past

-- the packets that are queued since the bot has begun, the newest first
abbrev pub sent_by : List Act → List Outgoing
sent_by [] = []
sent_by (Opens first second ∷ past) = []
sent_by (Creates first second last ∷ past) = []
sent_by (Began bot ∷ past) = []
sent_by (Told bot event ∷ past) = sent_by past
sent_by (Made report bot ∷ past) = sent_by past
sent_by (Forgets bot ∷ past) = []
sent_by (Hears packets ∷ past) = sent_by past
sent_by (Sends outgoing ∷ past) = outgoing ∷ sent_by past
sent_by (Waits ∷ past) = sent_by past

-- the packet is the first of those that are not queued yet
abbrev pub IsDue : List Act → Outgoing → Type 0
IsDue past outgoing = (rest : List Outgoing) × (unsent past ≡ outgoing ∷ rest)

-- ---- when a process may wait

abbrev pub IsReading : BotEvent → Type 0
IsReading Connect = ⊥
IsReading (Line line) = ⊥
IsReading (Ask change) = ⊥
IsReading Pump = ⊥
IsReading (Receive packet) = ⊥
IsReading (Clock now) = Unit {0}
IsReading (Bind asked) = ⊥
IsReading (Unbind gone) = ⊥
IsReading Compact = ⊥
IsReading Restart = ⊥

-- the bot has begun, or was told a reading of the clock, since the process waited last
abbrev pub HasTicked : List Act → Type 0
HasTicked [] = ⊥
HasTicked (Opens first second ∷ past) = ⊥
HasTicked (Creates first second last ∷ past) = ⊥
HasTicked (Began bot ∷ past) = Unit {0}
HasTicked (Told bot event ∷ past) = IsReading event ⊎ HasTicked past
HasTicked (Made report bot ∷ past) = HasTicked past
HasTicked (Forgets bot ∷ past) = ⊥
HasTicked (Hears packets ∷ past) = HasTicked past
HasTicked (Sends outgoing ∷ past) = HasTicked past
HasTicked (Waits ∷ past) = ⊥

-- ---- which steps a bot may make

-- A packet that the bot is told was taken from the process's connections. A process does not restart its bot: another
-- process opens it.
abbrev pub MayTake : List Act → BotEvent → Type 0
MayTake past Connect = Unit {0}
MayTake past (Line line) = Unit {0}
MayTake past (Ask change) = Unit {0}
MayTake past Pump = Unit {0}
MayTake past (Receive packet) = IsHeard past packet
MayTake past (Clock now) = Unit {0}
MayTake past (Bind asked) = Unit {0}
MayTake past (Unbind gone) = Unit {0}
MayTake past Compact = Unit {0}
MayTake past Restart = ⊥

module _ (promised : Promised) (names : List (List ℕ)) where
  -- the step that was begun ends so
  abbrev pub EndsStep : List Act → Report → Bot → Type 0
  EndsStep [] report after = ⊥
  EndsStep (Opens first second ∷ past) report after = ⊥
  EndsStep (Creates first second last ∷ past) report after = ⊥
  EndsStep (Began bot ∷ past) report after = ⊥
  EndsStep (Told was event ∷ past) report after = TakesStep promised names was event report after
  EndsStep (Made other bot ∷ past) report after = ⊥
  EndsStep (Forgets bot ∷ past) report after = ⊥
  EndsStep (Hears packets ∷ past) report after = ⊥
  EndsStep (Sends outgoing ∷ past) report after = ⊥
  EndsStep (Waits ∷ past) report after = ⊥

  -- The acts of a step: the bot is the one of the past, and the step is one that it takes with the procs of these names.
  -- Packets are taken and queued between two steps: those that the bot has reported are queued in order, each once.
  abbrev pub MayStep : List Act → Act → Type 0
  MayStep past (Opens first second) = ⊥
  MayStep past (Creates first second last) = ⊥
  MayStep past (Began bot) = ⊥
  MayStep past (Told bot event) = (bot_in past ≡ Some bot) × MayTake past event
  MayStep past (Made report bot) = EndsStep past report bot × IsKept bot
  MayStep past (Forgets bot) = ⊥
  MayStep past (Hears packets) = (bot : Bot) × (bot_in past ≡ Some bot)
  MayStep past (Sends outgoing) = ((bot : Bot) × (bot_in past ≡ Some bot)) × IsDue past outgoing
  MayStep past Waits = ⊥

  -- ---- all acts

  -- Each act of a process of this station that is lawful after a past. Only the journal of a bot without records is
  -- forgotten. A process waits once all packets are queued, and its bot was told the time.
  abbrev pub May : Station → List Act → Act → Type 0
  May station past (Opens first second) = MayBegin station past (Opens first second)
  May station past (Creates first second last) = MayBegin station past (Creates first second last)
  May station past (Began bot) = MayBegin station past (Began bot)
  May station past (Told bot event) = MayStep past (Told bot event)
  May station past (Made report bot) = MayStep past (Made report bot)
  May station past (Forgets bot) = (bot_in past ≡ Some bot) × (link_version bot.link ≡ 0)
  May station past (Hears packets) = MayStep past (Hears packets)
  May station past (Sends outgoing) = MayStep past (Sends outgoing)
  May station past Waits = ((bot : Bot) × (bot_in past ≡ Some bot)) × (unsent past ≡ []) × HasTicked past
