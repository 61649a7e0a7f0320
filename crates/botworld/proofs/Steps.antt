-- A bot's own step, and the packets that it sends, are a step of the net.
use Rattle.std.proofs.Common.{◌≡◌, ℕ, ◌+◌, ◌<◌, Bool, true, false, ◌&&◌, List, ◌++◌, length, get_or}
use Rattle.std.proofs.Common.{slice_set, Option, None, Some, Result, Ok, Err, IsOk, refl, ap, sym, subst, ◌∙◌}
use Rattle.std.proofs.lemmas.Bool.{ltb-true}
use Rattle.std.proofs.lemmas.Option.{slice_get_read}
use Rattle.procs.specs.Promises.{Promised}
use Rattle.botcore.specs.declared.event.BotEvent.{BotEvent}
use Rattle.botcore.specs.declared.event.BotEvent.TheVariants.{Receive}
use Rattle.botcore.specs.declared.report.Report.{Report as BotReport}
use Rattle.botcore.specs.Bots.{Bot}
use Rattle.botcore.specs.Steps.{TakesStep}
use Rattle.botworld.specs.declared.sent.Sent.{Sent}
use Rattle.botworld.specs.declared.step.Part.{Part}
use Rattle.botworld.specs.declared.step.Step.{Step}
use Rattle.botworld.specs.declared.step.Step.TheVariants.{At, Deliver}
use Rattle.botworld.specs.declared.outcome.Outcome.{Outcome}
use Rattle.botworld.specs.declared.outcome.Outcome.TheVariants.{Report as reported, NoSuchBot, NoSuchPacket}
use Rattle.botworld.specs.Net.{Net, is_bot, is_packet, part_at, told_at, delivered, part_of, packet_at, posted, report_of, Comes, NetStep}

-- who takes part -------------------------------------------------------------------------------------------------------

-- a part that there is, is that of the bot and the event
record IsPart (w : Net) (bot : ℕ) (event : BotEvent) (r : Result Part Outcome) : Type 0 where
  there : bot < length w.bots
  is : r ≡ Ok (record { bot = bot; event = event })

part_at-ok : (w : Net) (bot : ℕ) (event : BotEvent) → IsOk (part_at w bot event) → IsPart w bot event (part_at w bot event)
part_at-ok w bot event ok = by (is_bot w bot) refl
  where
    by : (b : Bool) → is_bot w bot ≡ b → IsPart w bot event (part_at w bot event)
    by true e = record { there = ltb-true bot (length w.bots) e; is = rw e refl }
    by false e = let none : part_at w bot event ≡ Err NoSuchBot = rw e refl in let bad = subst (λ (r : Result Part Outcome). IsOk r) none ok in cc

told_at-ok : (w : Net) (bot : ℕ) (event : BotEvent) → IsOk (told_at w bot event) → IsPart w bot event (told_at w bot event)
told_at-ok w bot event ok = by (is_bot w bot && is_packet event) refl
  where
    by : (b : Bool) → (is_bot w bot && is_packet event) ≡ b → IsPart w bot event (told_at w bot event)
    by true e = let none : told_at w bot event ≡ Err NoSuchPacket = rw e refl in let bad = subst (λ (r : Result Part Outcome). IsOk r) none ok in cc
    by false e =
        let same : told_at w bot event ≡ part_at w bot event = rw e refl in
        rw same (part_at-ok w bot event (subst (λ (r : Result Part Outcome). IsOk r) same ok))

-- the bot that takes part is there
pub part-there : (w : Net) (step : Step) (part : Part) → part_of w step ≡ Ok part → part.bot < length w.bots
part-there w (At bot event) part e =
    let found = told_at-ok w bot event (rw e refl) in
    let both : Ok (let p : Part = record { bot = bot; event = event } in p) ≡ Ok part = sym found.is ∙ e in
    let same : (let p : Part = record { bot = bot; event = event } in p) ≡ part = cc in
    subst (λ (p : Part). p.bot < length w.bots) same found.there
part-there w (Deliver k) part e = by (packet_at w.packets k) e
  where
    by : (r : Option Sent) → delivered w r ≡ Ok part → part.bot < length w.bots
    by None e = cc
    by (Some sent) e =
        let found = part_at-ok w sent.to (Receive sent.packet) (rw e refl) in
        let both : Ok (let p : Part = record { bot = sent.to; event = Receive sent.packet } in p) ≡ Ok part = sym found.is ∙ e in
        let same : (let p : Part = record { bot = sent.to; event = Receive sent.packet } in p) ≡ part = cc in
        subst (λ (p : Part). p.bot < length w.bots) same found.there

-- what it makes ----------------------------------------------------------------------------------------------------------

pub part_comes : (promised : Promised) (old : Net) (step : Step) (part : Part) (was after : Bot)
    (report : BotReport) (o : Outcome) (packets : List Sent) → part_of old step ≡ Ok part → was ≡ get_or old.bots part.bot was
    → TakesStep promised old.store was part.event report after → o ≡ reported (report_of part.bot (length old.packets + 1) report)
    → packets ≡ old.packets ++ posted part.bot report.packets
    → NetStep promised old step o (record { bots = slice_set old.bots part.bot after; packets = packets; store = old.store })
part_comes promised old step part was after report o packets is here takes told sent =
    let there = part-there old step part is in
    subst (λ (r : Result Part Outcome). Comes promised old r o
    (record { bots = slice_set old.bots part.bot after; packets = packets; store = old.store })) (sym is)
    (record {
      was = was;
      there = slice_get_read old.bots (length old.bots) part.bot was refl there here;
      report = report;
      after = after;
      steps = takes;
      told = told;
      leaves = ap (λ (ps : List Sent). let w : Net = record { bots = slice_set old.bots part.bot after; packets = ps; store = old.store } in w) sent;
    })
