-- The records of parts are of good shape: those that were sent, and those that a bot is told.
use Rattle.std.proofs.Common.{◌≡◌, ℕ, zero, suc, ◌-◌, Bool, true, false, List, [], ◌∷◌, ◌++◌, slice_get, get_or}
use Rattle.std.proofs.Common.{Option, None, Some, Result, Err, IsOk, refl, ap, sym, subst, ◌∙◌, arith}
use Rattle.std.proofs.lemmas.Option.{get_or_from_slice_get}
use Rattle.sharelink.specs.declared.answer.Outgoing.{Outgoing}
use Rattle.sharelink.specs.Shapes.{HasGoodRecords, AreGood}
use Rattle.botcore.specs.declared.event.BotEvent.{BotEvent}
use Rattle.botcore.specs.declared.event.BotEvent.TheVariants.{Connect, Line, Ask, Pump, Receive, Clock, Bind, Unbind, Compact, Restart}
use Rattle.botcore.specs.Steps.{IsGoodEvent}
use Rattle.botworld.specs.declared.sent.Sent.{Sent}
use Rattle.botworld.specs.declared.step.Part.{Part}
use Rattle.botworld.specs.declared.step.Step.TheVariants.{Deliver}
use Rattle.botworld.specs.declared.outcome.Outcome.{Outcome}
use Rattle.botworld.specs.declared.outcome.Outcome.TheVariants.{NoSuchBot, NoSuchPacket}
use Rattle.botworld.specs.Net.{Net, AllGood, is_bot, is_packet, told_at, delivered, part_of, posted}

-- what is posted after good packets
pub posted_good : (packets : List Sent) (from : ℕ) (os : List Outgoing) → AllGood packets → AreGood os → AllGood (packets ++ posted from os)
posted_good [] from [] good more = tt
posted_good [] from (o ∷ os) good more = (more.0, posted_good [] from os tt more.1)
posted_good (p ∷ packets) from os good more = (good.0, posted_good packets from os good.1 more)

-- a packet that was sent
pub sent_good : (packets : List Sent) (place : ℕ) (sent : Sent) → AllGood packets → slice_get packets place ≡ Some sent → HasGoodRecords sent.packet
sent_good [] place sent good e = cc
sent_good (p ∷ packets) zero sent good e =
    let same : p ≡ sent = cc in subst (λ (s : Sent). HasGoodRecords s.packet) same good.0
sent_good (p ∷ packets) (suc place) sent good e = sent_good packets place sent good.1 e

-- a packet that is delivered
pub delivered_good : (w : Net) (k : ℕ) (sent : Sent) → AllGood w.packets → IsOk (part_of w (Deliver k)) → sent ≡ get_or w.packets (k - 1) sent
    → HasGoodRecords sent.packet
delivered_good w zero sent good ok is = cc
delivered_good w (suc place) sent good ok is = by (slice_get w.packets place) refl ok
  where
    by : (r : Option Sent) → slice_get w.packets place ≡ r → IsOk (delivered w r) → HasGoodRecords sent.packet
    by None at ok = cc
    by (Some x) at ok =
        let one_less : suc place - 1 ≡ place = omega arith in
        let same : sent ≡ x = is ∙ ap (λ i. get_or w.packets i sent) one_less ∙ get_or_from_slice_get w.packets place x sent at in
        subst (λ (s : Sent). HasGoodRecords s.packet) (sym same) (sent_good w.packets place x good at)

-- an event that is no packet
other_good : (event : BotEvent) → is_packet event ≡ false → IsGoodEvent event
other_good (Receive packet) e = cc
other_good Connect e = tt
other_good (Line line) e = tt
other_good (Ask change) e = tt
other_good Pump e = tt
other_good (Clock now) e = tt
other_good (Bind asked) e = tt
other_good (Unbind gone) e = tt
other_good Compact e = tt
other_good Restart e = tt

-- what a bot may be told
pub told_good : (w : Net) (bot : ℕ) (event : BotEvent) → IsOk (told_at w bot event) → IsGoodEvent event
told_good w bot event ok = by (is_packet event) refl (is_bot w bot) refl
  where
    by : (p : Bool) → is_packet event ≡ p → (b : Bool) → is_bot w bot ≡ b → IsGoodEvent event
    by false other b there = other_good event other
    by true packet true there =
        let none : told_at w bot event ≡ Err NoSuchPacket = rw (there, packet) refl in
        let bad = subst (λ (r : Result Part Outcome). IsOk r) none ok in cc
    by true packet false there =
        let none : told_at w bot event ≡ Err NoSuchBot = rw there refl in
        let bad = subst (λ (r : Result Part Outcome). IsOk r) none ok in cc
