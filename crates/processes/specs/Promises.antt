-- What is promised of the packets in reports, of a leaf that is replaced, and of steps.
use Rattle.std.specs.Prelude.{◌≡◌, ◌<◌, ◌≤◌, ℕ, suc, true, map, slice_get, Option, None, Some}
use Rattle.userfile.specs.declared.change.Change.{Change as UserChange}
use Rattle.userfile.specs.declared.error.ChangeFault.{ChangeFault}
use Rattle.sharewire.specs.declared.packet.Packet.{Packet}
use Rattle.sharewire.specs.declared.packet.Packet.TheVariants.{Hello, Change, Request, Accepted, Refused, BotText, Part}
use Rattle.protocol.specs.LeafRules.{is_out}
use Rattle.protocol.specs.Ends.{End as LinkEnd, AtHub, AtLeaf}
use Rattle.botcore.specs.declared.report.End.{End}
use Rattle.botcore.specs.declared.report.End.TheVariants.{Done, Refused as refused, NoMemory}
use Rattle.botcore.specs.Bots.{Bot}
use Rattle.botcore.specs.Happenings.{happenings_of}
use Rattle.botworld.specs.Calling.{Calling, proc_call}
use Rattle.processes.specs.Deeds.{Runs, Net, Step, IsTold}

-- ---- a request is accepted at most once

pub record Once (w : Net) : Type 0 where
  -- the changes in reports for one request of a leaf are one change under one number
  pub change : (n m place request : ℕ) (a b : UserChange) → IsTold w (Change n (suc place) request a)
      → IsTold w (Change m (suc place) request b) → (n ≡ m) × (a ≡ b)
  -- no report gives that request as accepted under another number, or as refused
  pub accepted : (n m place request : ℕ) (a : UserChange) → IsTold w (Change n (suc place) request a)
      → IsTold w (Accepted (suc place) request m) → m ≡ n
  pub not_refused : (n place request : ℕ) (a : UserChange) (fault : ChangeFault)
      → IsTold w (Change n (suc place) request a) → IsTold w (Refused (suc place) request fault) → ⊥
  -- the changes in reports under one number are one change of one request
  pub same : (n o p r s : ℕ) (a b : UserChange) → IsTold w (Change n o r a) → IsTold w (Change n p s b)
      → (o ≡ p) × (r ≡ s) × (a ≡ b)

-- ---- a leaf that was replaced

-- a reply to this request of a leaf
abbrev pub IsReplyTo : (leaf request : ℕ) → Packet → Type 0
IsReplyTo leaf request (Hello layout from version) = ⊥
IsReplyTo leaf request (Change number origin made change) = ⊥
IsReplyTo leaf request (Request from made change) = ⊥
IsReplyTo leaf request (Accepted to made number) = (to ≡ leaf) × (made ≡ request)
IsReplyTo leaf request (Refused to made fault) = (to ≡ leaf) × (made ≡ request)
IsReplyTo leaf request (BotText from to text) = ⊥
IsReplyTo leaf request (Part version part count items) = ⊥

-- a leaf awaits the reply to its request of this number
abbrev pub Awaits : LinkEnd → ℕ → Type 0
Awaits (AtHub hub) request = ⊥
Awaits (AtLeaf leaf) request = is_out request leaf.kept.out ≡ true

-- A leaf was replaced after the moment `before`, when `last` was the number of its last request that the hub had replied
-- to. At the moment `now` it has not been replaced again.
pub record BeginsAnew (before now : Net) (leaf last : ℕ) : Type 0 where
  -- each reply in a report until then is to a request up to that number
  pub replies : (request : ℕ) (packet : Packet) → IsReplyTo leaf request packet → IsTold before packet → request ≤ last
  -- the new process awaits replies to requests above it alone
  pub awaits : (bot : Bot) (request : ℕ) → slice_get now.processes leaf ≡ Some (Runs bot) → Awaits bot.link.end request
      → last < request
  -- so no reply from before is to a request of the new process
  pub no_old_reply : (bot : Bot) (request : ℕ) → slice_get now.processes leaf ≡ Some (Runs bot) → Awaits bot.link.end request
      → (packet : Packet) → IsReplyTo leaf request packet → IsTold before packet → ⊥

-- ---- which procs a step calls

abbrev pub calling_at : End → Step → Option Calling
calling_at Done step = Some (record {
  bot = step.was;
  happenings = happenings_of step.was step.event;
  calls = map proc_call step.report.calls;
})
calling_at (refused why) step = None
calling_at NoMemory step = None

-- what a step calls, if it is done
abbrev pub calling_of : Step → Option Calling
calling_of step = calling_at step.report.end step
