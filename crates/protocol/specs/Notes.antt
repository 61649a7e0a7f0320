-- What a call of a link reports.
use Rattle.std.specs.Prelude.{ℕ, List}
use Rattle.userfile.specs.declared.error.ChangeFault.{ChangeFault}

-- the outcome of a call
pub data Note : Type 0 where
  -- the ask waits for a pump
  Queued : Note
  -- nothing waits
  Idle : Note
  -- the leaf's requests went out; this number is the highest of them
  Sent : (request : ℕ) → Note
  -- a change was accepted under this number
  Accepted : (number : ℕ) → Note
  -- the records refuse the change
  Refused : ChangeFault → Note
  -- a hello is answered with this number of packets
  Served : (count : ℕ) → Note
  -- the packet brings nothing new
  Old : Note
  -- a request comes again, the reply to which is kept
  Repeat : Note
  -- a request before this one is missing
  Gap : Note
  -- a change before this one is missing
  Early : Note
  -- the change of this number was applied
  Applied : (number : ℕ) → Note
  -- the leaf keeps the part of this number until it has the others
  Kept : (part : ℕ) → Note
  -- the records of this version were installed
  Installed : (version : ℕ) → Note
  -- the journal holds the state alone
  Compacted : Note
  -- a text is on its way to another bot
  Relayed : Note
  -- a text is for this bot
  Text : (from : ℕ) (text : List ℕ) → Note
  -- the packet is not for this bot, or names something that the net does not have
  Stray : Note
  -- the journal was opened again, at this version
  Restarted : (version : ℕ) → Note

-- why a call is rejected
pub data LinkFault : Type 0 where
  -- the change has a bad shape
  BadChange : ChangeFault → LinkFault
  -- S1: the most asks allowed are waiting
  AsksFull : LinkFault
  -- S2: a device failed, and the bot waits for a restart
  Down : LinkFault
  -- S8: the other bot's journal has another layout
  OtherLayout : LinkFault
  -- S3: the records are not the hub's
  Diverged : LinkFault
  -- S4: the version, the request number or the generation is the last one
  NumbersSpent : LinkFault
  -- S5: the device failed while the journal was written
  JournalFault : LinkFault
  -- S7: no such text may go there
  BadBotText : LinkFault
  -- J1: the device failed while the journal was opened
  DiskFault : LinkFault
