-- What a promotion makes: the journal of the hub of an heir.
use Rattle.std.specs.Prelude.{ℕ, List, []}
use Rattle.procs.specs.Promises.{Promised}
use Rattle.disks.specs.State.{State, may_leave}
use Rattle.botjournal.specs.declared.base.Base.{Base}
use Rattle.botjournal.specs.Contents.{meaning}
use Rattle.protocol.specs.Ends.{End, end_version, end_records}
use Rattle.sharelink.specs.BotOpening.{IsKeptOf}
use Rattle.botcore.specs.Bots.{Bot}
use Rattle.processes.specs.Deeds.{Net, Opened, Happens, after_deed}
use Rattle.heirs.specs.Heirs.{MeanHeir, IsHeirOf}
use Rattle.promotion.specs.Leaves.{LeafFound}

-- the base of the hub of an heir, of the base of a leaf
abbrev pub heir_base : Base → Base
heir_base base = record { bot = 0; version = base.version; records = base.records; replies = []; last_request = 0; out = [] }

-- A process that opens the leaf's bytes as that leaf keeps this end; and whatever a crash leaves on these disks means the
-- hub of an heir at the end's version with its records, whatever the number of leaves.
pub record Promotes (leaf : LeafFound) (first second : State) : Type 0 where
  pub end : End
  pub shows : (leaves : ℕ) → IsKeptOf leaf.base.bot leaves (meaning leaf.first leaf.second) end
  pub heir : (count : ℕ) (x y : List ℕ) → may_leave first x → may_leave second y
      → MeanHeir count (end_version end) (end_records end) x y

-- A process may open the bot of this number from the bytes that its last process left, and the new net is an heir, with
-- this number of leaves, of what the bot shows then.
pub record IsPromotion (promised : Promised) (old : Net) (bot count : ℕ) (heir : Net) : Type 0 where
  pub after : Bot
  pub opens : Happens promised old (Opened bot after)
  pub version : ℕ
  pub heir_of : IsHeirOf (after_deed old (Opened bot after)) bot version count heir
