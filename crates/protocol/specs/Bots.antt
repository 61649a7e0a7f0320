-- A bot whose journal is on a device that may fail: what survives a restart, what doesn't, and the record in doubt.
use Rattle.std.specs.Prelude.{ℕ, Bool, true, false, List, [], if◌then◌else◌, Option, None, Some, Result, Ok, Err}
use Rattle.protocol.specs.Packets.{Outgoing}
use Rattle.protocol.specs.Notes.{Note, LinkFault}
use Rattle.protocol.specs.Notes.Note.{Restarted}
use Rattle.protocol.specs.Notes.LinkFault.{Down, JournalFault, DiskFault}

-- what the device did in a step: it worked, and a restart found that the record in doubt doesn't count; it failed; or
-- it worked, and a restart found that the record in doubt counts
pub data How : Type 0 where
  Works : How
  Fails : How
  Counts : How

-- a rule: what a call reports, what it sends, and the state that it leaves
pub record Row (S : Type 0) : Type 0 where
  pub told : Result Note LinkFault
  pub sends : List Outgoing
  pub after : S

-- a note, and nothing to send
abbrev pub noted : {S : Type 0} → Note → S → Row S
noted note after = record { told = Ok note; sends = []; after = after }

-- a refusal, and what it leaves
abbrev pub refused : {S : Type 0} → LinkFault → S → Row S
refused fault after = record { told = Err fault; sends = []; after = after }

-- a bot: what the journal keeps, what a restart loses, whether a device failed since the last restart, and what was
-- being journaled at that failure, which may count or not
pub record Bot (Kept Loose Entry : Type 0) : Type 0 where
  pub kept : Kept
  pub loose : Loose
  pub down : Bool
  pub doubt : Option Entry

-- what is kept, with the record in doubt counted if there is one
abbrev pub counted : {Kept Entry : Type 0} → (Kept → Entry → Kept) → Kept → Option Entry → Kept
counted folded kept None = kept
counted folded kept (Some entry) = folded kept entry

module _ {Kept Loose Entry : Type 0} where
  -- a bot that is down takes no call but a restart
  abbrev pub unless_down : Bot Kept Loose Entry → Row (Bot Kept Loose Entry) → Row (Bot Kept Loose Entry)
  unless_down old row = if old.down then refused Down old else row

  -- a call that journals: it reports and sends nothing before the record is kept; if the device fails, the bot is down,
  -- shows what it showed before, and the record is in doubt
  abbrev pub journals : (Kept → Entry → Kept) → How → Bot Kept Loose Entry → Entry → Note → List Outgoing → Loose
      → Row (Bot Kept Loose Entry)
  journals folded Fails old entry note sends loose = refused JournalFault (record old { down = true; doubt = Some entry })
  journals folded Works old entry note sends loose =
      record { told = Ok note; sends = sends; after = record old { kept = folded old.kept entry; loose = loose } }
  journals folded Counts old entry note sends loose =
      record { told = Ok note; sends = sends; after = record old { kept = folded old.kept entry; loose = loose } }

  -- a bot whose journal was opened
  abbrev pub reopened : (Kept → ℕ) → Loose → Kept → Row (Bot Kept Loose Entry)
  reopened version empty kept = noted (Restarted (version kept)) (record { kept = kept; loose = empty; down = false; doubt = None })

  -- a restart opens the journal, and finds what was kept, with the record in doubt or without it; if the device fails,
  -- the bot is down and all else stays
  abbrev pub restarted : (Kept → Entry → Kept) → (Kept → ℕ) → Loose → How → Bot Kept Loose Entry → Row (Bot Kept Loose Entry)
  restarted folded version empty Works old = reopened version empty old.kept
  restarted folded version empty Fails old = refused DiskFault (record old { down = true })
  restarted folded version empty Counts old = reopened version empty (counted folded old.kept old.doubt)
