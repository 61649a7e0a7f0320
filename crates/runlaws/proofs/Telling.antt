-- What a bot was told in the middle of a step is still told after what happens meanwhile.
use Rattle.std.proofs.Common.{◌≡◌, ℕ, zero, suc, Bool, true, false, if◌then◌else◌, List, [], ◌∷◌, slice_get, Some, refl, sym, subst}
use Rattle.sharewire.specs.declared.packet.Packet.{Packet}
use Rattle.procs.specs.Promises.{Promised}
use Rattle.protocol.specs.Packets.{from_wire}
use Rattle.sharelink.specs.Telling.{end_last_request}
use Rattle.botcore.specs.declared.event.BotEvent.{BotEvent}
use Rattle.botcore.specs.declared.event.BotEvent.TheVariants.{Connect, Line, Ask, Pump, Receive, Clock, Bind, Unbind, Compact, Restart}
use Rattle.botcore.specs.Bots.{Bot}
use Rattle.botworld.specs.declared.sent.Sent.{Sent}
use Rattle.botworld.specs.Net.{packet_at, posted}
use Rattle.watching.specs.Acts.{Act, Opens, Creates, Began, Told, Made, Forgets, Hears, Sends, Waits}
use Rattle.processes.specs.Deeds.{Net, WasTold, is_unanswered, answered}
use Rattle.processes.proofs.Turning.{WasTold-more}
use Rattle.runlaws.specs.Calls.{Telling}
use Rattle.runlaws.specs.Folders.{Folder, What, Does, Takes, Ends, Happening, Holder, NoneYet, NoneNow, Holds, is_holder, holder_of, call_of}
use Rattle.runlaws.specs.Worlds.{posted_by, kept_by, sent_after, sent_in, IsRenewed, IsNext, Comes}

-- ---- packets that are not dropped

pub slice_answered : (leaf last : ℕ) (sent : Sent) → is_unanswered leaf last (from_wire sent.packet) ≡ false → (packets : List Sent)
    (place : ℕ) → slice_get packets place ≡ Some sent → (other : ℕ) × (slice_get (answered leaf last packets) other ≡ Some sent)
slice_answered leaf last sent stays [] place at = cc
slice_answered leaf last sent stays (one ∷ packets) zero at =
    let same : one ≡ sent = cc in
    let goes : is_unanswered leaf last (from_wire one.packet) ≡ false =
    subst (λ (s : Sent). is_unanswered leaf last (from_wire s.packet) ≡ false) (sym same) stays in
    subst (λ (b : Bool). (other : ℕ) × (slice_get (if b then answered leaf last packets else one ∷ answered leaf last packets) other ≡ Some sent))
    (sym goes) (zero, at)
slice_answered leaf last sent stays (one ∷ packets) (suc place) at =
    by (is_unanswered leaf last (from_wire one.packet)) (slice_answered leaf last sent stays packets place at)
  where
    by : (b : Bool) → (other : ℕ) × (slice_get (answered leaf last packets) other ≡ Some sent)
        → (other : ℕ) × (slice_get (if b then answered leaf last packets else one ∷ answered leaf last packets) other ≡ Some sent)
    by true rest = rest
    by false rest = (suc rest.0, rest.1)

pub packet_answered : (leaf last : ℕ) (sent : Sent) → is_unanswered leaf last (from_wire sent.packet) ≡ false → (packets : List Sent)
    (number : ℕ) → packet_at packets number ≡ Some sent → (other : ℕ) × (packet_at (answered leaf last packets) other ≡ Some sent)
packet_answered leaf last sent stays packets zero at = cc
packet_answered leaf last sent stays packets (suc place) at =
    let it = slice_answered leaf last sent stays packets place at in (suc it.0, it.1)

WasTold-answered : (leaf last : ℕ) (packets : List Sent) (bot : ℕ) (event : BotEvent)
    → ((packet : Packet) → event ≡ Receive packet → is_unanswered leaf last (from_wire packet) ≡ false) → WasTold packets bot event
    → WasTold (answered leaf last packets) bot event
WasTold-answered leaf last packets bot (Receive packet) stays told =
    let it = packet_answered leaf last _ (stays packet refl) packets told.0 told.2 in (it.0, told.1, it.1)
WasTold-answered leaf last packets bot Connect stays told = tt
WasTold-answered leaf last packets bot (Line line) stays told = tt
WasTold-answered leaf last packets bot (Ask change) stays told = tt
WasTold-answered leaf last packets bot Pump stays told = tt
WasTold-answered leaf last packets bot (Clock now) stays told = tt
WasTold-answered leaf last packets bot (Bind asked) stays told = tt
WasTold-answered leaf last packets bot (Unbind gone) stays told = tt
WasTold-answered leaf last packets bot Compact stays told = tt
WasTold-answered leaf last packets bot Restart stays told = tt

-- ---- after any happening

posted_still : (holding : Bool) (number : ℕ) (act : Act) (packets : List Sent) (bot : ℕ) (event : BotEvent) → WasTold packets bot event
    → WasTold (posted_by holding number act packets) bot event
posted_still false number act packets bot event told = told
posted_still true number (Opens x y) packets bot event told = told
posted_still true number (Creates x y last) packets bot event told = told
posted_still true number (Began one) packets bot event told = told
posted_still true number (Told one other) packets bot event told = told
posted_still true number (Made report one) packets bot event told = WasTold-more packets (posted number report.packets) bot event told
posted_still true number (Forgets one) packets bot event told = told
posted_still true number (Hears heard) packets bot event told = told
posted_still true number (Sends outgoing) packets bot event told = told
posted_still true number Waits packets bot event told = told

module _ (promised : Promised) (folders : ℕ → Folder) (leaves : ℕ) (first : Net) (world : List Happening) where
  renewed_still : (number : ℕ) (bot : Bot) → IsRenewed folders leaves number world bot → (other : ℕ) (was : Bot) (event : BotEvent)
      → call_of folders other world ≡ Telling was event → (packets : List Sent) → WasTold packets other event
      → WasTold (answered number (end_last_request bot.link.end) packets) other event
  renewed_still number bot renewed other was event calls packets told =
      WasTold-answered number (end_last_request bot.link.end) packets other event
      (λ packet is. renewed.quiet other was packet (subst (λ (e : BotEvent). call_of folders other world ≡ Telling was e) is calls)) told

  pub still_told : (folder : ℕ) (what : What) → Comes promised folders leaves first world folder what
      → (other : ℕ) (was : Bot) (event : BotEvent) → call_of folders other world ≡ Telling was event
      → WasTold (sent_in folders world) other event
      → WasTold (sent_after folder (holder_of folders (folders folder).number world) (folders folder).number what (sent_in folders world)) other event
  still_told folder (Does act) comes other was event calls told =
      posted_still (is_holder folder (holder_of folders (folders folder).number world)) (folders folder).number act (sent_in folders world) other event told
  still_told folder (Takes bot) next other was event calls told =
      by (holder_of folders (folders folder).number world) next
    where
      by : (holder : Holder) → IsNext promised folders leaves first holder (folders folder).number world bot
          → WasTold (kept_by holder (folders folder).number bot (sent_in folders world)) other event
      by NoneYet next = told
      by NoneNow next = renewed_still (folders folder).number bot next other was event calls (sent_in folders world) told
      by (Holds one) next = renewed_still (folders folder).number bot next other was event calls (sent_in folders world) told
  still_told folder (Ends x y) comes other was event calls told = told
