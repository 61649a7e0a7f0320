-- A world as contracts see it, and what one step does to it.
use Rattle.std.specs.Prelude.{◌≡◌, ℕ, zero, suc, ◌+◌, nat_lt, Bool, true, false, ◌&&◌, if◌then◌else◌, List, [], ◌∷◌, ◌++◌, length, slice_get, slice_set}
use Rattle.std.specs.Prelude.{Option, None, Some, Result, Ok, Err, IsOk}
use Rattle.std.specs.Option.{option_map}
use Rattle.userfile.specs.Records.{Records}
use Rattle.procs.specs.Promises.{Promised}
use Rattle.sharelink.specs.declared.answer.Outgoing.{Outgoing}
use Rattle.sharelink.specs.Shapes.{HasGoodRecords}
use Rattle.botcore.specs.declared.event.BotEvent.{BotEvent}
use Rattle.botcore.specs.declared.event.BotEvent.TheVariants.{Receive}
use Rattle.botcore.specs.declared.report.Report.{Report as BotReport}
use Rattle.botcore.specs.Bots.{Bot}
use Rattle.botcore.specs.Links.{link_version, link_records}
use Rattle.botcore.specs.Steps.{TakesStep}
use Rattle.botworld.specs.declared.sent.Sent.{Sent}
use Rattle.botworld.specs.declared.step.Part.{Part}
use Rattle.botworld.specs.declared.step.Step.{Step}
use Rattle.botworld.specs.declared.step.Step.TheVariants.{At, Deliver}
use Rattle.botworld.specs.declared.outcome.WorldReport.{WorldReport}
use Rattle.botworld.specs.declared.outcome.Outcome.{Outcome}
use Rattle.botworld.specs.declared.outcome.Outcome.TheVariants.{Report as reported, NoSuchBot, NoSuchPacket}

-- the bots, the hub first, every packet ever sent, in the order of sending, and the names of the procs
pub record Net : Type 0 where
  pub bots : List Bot
  pub packets : List Sent
  pub store : List (List ℕ)

-- the records of each part are well-formed
abbrev pub AllGood : List Sent → Type 0
AllGood [] = Unit {0}
AllGood (sent ∷ packets) = HasGoodRecords sent.packet × AllGood packets

-- ---- who takes part in a step

-- the packet with this number, from 1
abbrev pub packet_at : List Sent → ℕ → Option Sent
packet_at packets zero = None
packet_at packets (suc place) = slice_get packets place

-- whether a bot has this number
abbrev pub is_bot : Net → ℕ → Bool
is_bot w bot = nat_lt bot (length w.bots)

abbrev pub is_packet : BotEvent → Bool
is_packet (Receive packet) = true
is_packet other = false

-- the part of the bot with this number, if there is one
abbrev pub part_at : Net → ℕ → BotEvent → Result Part Outcome
part_at w bot event = if is_bot w bot then Ok (record { bot = bot; event = event }) else Err NoSuchBot

-- a bot may handle anything but a packet: a packet that nobody sent reaches nobody
abbrev pub told_at : Net → ℕ → BotEvent → Result Part Outcome
told_at w bot event = if is_bot w bot && is_packet event then Err NoSuchPacket else part_at w bot event

-- a packet that was sent reaches its addressee
abbrev pub delivered : Net → Option Sent → Result Part Outcome
delivered w None = Err NoSuchPacket
delivered w (Some sent) = part_at w sent.to (Receive sent.packet)

-- the bot that takes part in a step and its event; or the outcome, if none does
abbrev pub part_of : Net → Step → Result Part Outcome
part_of w (At bot event) = told_at w bot event
part_of w (Deliver packet) = delivered w (packet_at w.packets packet)

-- a bot takes part in the step at this place
abbrev pub TakesPartAt : Net → List Step → ℕ → Type 0
TakesPartAt w steps place = (step : Step) × (slice_get steps place ≡ Some step) × IsOk (part_of w step)

-- ---- what a step does

-- packets with their sender
abbrev pub posted : ℕ → List Outgoing → List Sent
posted from [] = []
posted from (o ∷ os) = record { from = from; to = o.to; packet = o.packet } ∷ posted from os

-- a bot's report, as an outcome: it gives the numbers of its packets, which continue from this one
abbrev pub report_of : ℕ → ℕ → BotReport → WorldReport
report_of bot first report = record {
  bot = bot;
  end = report.end;
  note = report.note;
  calls = report.calls;
  first = first;
  count = length report.packets;
  lines = report.lines;
  faults = report.faults;
  logged = report.logged;
}

-- a bot makes its own step, and its packets are on the network after the earlier ones
pub record TakesPart (promised : Promised)
    (old : Net) (part : Part) (outcome : Outcome) (new : Net) : Type 0 where
  pub was : Bot
  pub there : slice_get old.bots part.bot ≡ Some was
  pub report : BotReport
  pub after : Bot
  pub steps : TakesStep promised old.store was part.event report after
  pub told : outcome ≡ reported (report_of part.bot (length old.packets + 1) report)
  pub leaves : new ≡ record {
    bots = slice_set old.bots part.bot after;
    packets = old.packets ++ posted part.bot report.packets;
    store = old.store;
  }

-- the outcome of a step and the net after it, by who takes part
abbrev pub Comes : Promised
    → Net → Result Part Outcome → Outcome → Net → Type 0
Comes promised old (Ok part) outcome new = TakesPart promised old part outcome new
Comes promised old (Err missing) outcome new = (outcome ≡ missing) × (new ≡ old)

-- a step from old to new with this outcome
abbrev pub NetStep : Promised → Net → Step → Outcome → Net → Type 0
NetStep promised old step outcome new = Comes promised old (part_of old step) outcome new

-- ---- what a bot shows

-- the version of a bot, and its records; none if there is no such bot
abbrev pub shown_version : Net → ℕ → Option ℕ
shown_version w bot = option_map (λ (b : Bot). link_version b.link) (slice_get w.bots bot)

abbrev pub shown_records : Net → ℕ → Option Records
shown_records w bot = option_map (λ (b : Bot). link_records b.link) (slice_get w.bots bot)
