-- Each step from a sound moment of the network leads lawfully to a sound one.
use Rattle.std.proofs.Common.{◌≡◌, inl, inr, ℕ, zero, suc, Bool, true, false, ◌&&◌, if◌then◌else◌, List, [], ◌++◌}
use Rattle.std.proofs.Common.{length, slice_set, Option, None, Some, Result, Ok, Err, refl, ap, sym, subst, ◌∙◌}
use Rattle.std.proofs.lemmas.List.{length-set, append-nil}
use Rattle.protocol.specs.Numbers.{item_at}
use Rattle.protocol.specs.Packets.{Sent as LinkSent}
use Rattle.protocol.specs.Truth.{IsKeptAnswer, AllSent}
use Rattle.protocol.specs.Network.{posted as link_posted}
use Rattle.protocol.proofs.Growing.{Grows-refl}
use Rattle.protocol.proofs.Truth.{AllSent-posted}
use Rattle.sharelink.specs.Calls.{outgoings_of}
use Rattle.protocol.specs.Ends.{End as LinkEnd}
use Rattle.protocol.specs.Nets.{IsMoment}
use Rattle.procs.specs.Promises.{Promised}
use Rattle.botcore.specs.declared.event.BotEvent.{BotEvent}
use Rattle.botcore.specs.declared.event.BotEvent.TheVariants.{Connect, Line, Ask, Pump, Receive, Clock, Bind, Unbind, Compact, Restart}
use Rattle.botcore.specs.Bots.{Bot}
use Rattle.botworld.specs.declared.sent.Sent.{Sent}
use Rattle.botworld.specs.declared.step.Part.{Part}
use Rattle.botworld.specs.declared.step.Step.{Step}
use Rattle.botworld.specs.declared.step.Step.TheVariants.{At, Deliver}
use Rattle.botworld.specs.declared.outcome.Outcome.{Outcome}
use Rattle.botworld.specs.declared.outcome.Outcome.TheVariants.{Report as reported, NoSuchBot, NoSuchPacket}
use Rattle.botworld.specs.Net.{Net, is_bot, is_packet, part_at, told_at, delivered, part_of, packet_at, posted, TakesPart, Comes, NetStep}
use Rattle.botworld.specs.Network.{State, ends_of, sent_as, all_sent, IsPlacedAt, IsSound, Follows, IsFine, GrowsAsToldBy, LawfulStep}
use Rattle.botworld.proofs.Lists.{slice_get-set}
use Rattle.botworld.proofs.Shown.{ends_of-get, ends_of-set, all_sent-append, all_sent-posted, all_sent-get, never_back}
use Rattle.botworld.proofs.BotEnds.{IsAmong}
use Rattle.botworld.proofs.BotSteps.{WasSentTo, bot_goes}
use Rattle.botworld.proofs.Lawful.{applies_next, accepts_next}

-- a step from a moment leads lawfully to one whose net this is
pub record Goes (promised : Promised) (s : State) (step : Step) (o : Outcome) (w : Net) : Type 0 where
  pub after : State
  pub lawful : LawfulStep promised s step o after
  pub net : w ≡ after.net

pub Follows-refl : (s : State) → IsSound s → Follows s s
Follows-refl s sound = record {
  links = Grows-refl s.links;
  packets = ([], sym (append-nil s.net.packets));
  versions = never_back s s sound sound (Grows-refl s.links) refl;
  bots = refl;
  store = refl;
}

-- ---- where no bot takes part

abbrev IsMissing : Outcome → Type 0
IsMissing (reported report) = ⊥
IsMissing NoSuchBot = Unit {0}
IsMissing NoSuchPacket = Unit {0}

missing_grows : (s : State) (o : Outcome) → IsMissing o → GrowsAsToldBy s o s
missing_grows s (reported report) m = absurd m
missing_grows s NoSuchBot m = refl
missing_grows s NoSuchPacket m = refl

missing_is_fine : (o : Outcome) → IsMissing o → IsFine o
missing_is_fine (reported report) m = absurd m
missing_is_fine NoSuchBot m = tt
missing_is_fine NoSuchPacket m = tt

part_at-missing : (w : Net) (bot : ℕ) (event : BotEvent) (why : Outcome) → part_at w bot event ≡ Err why → IsMissing why
part_at-missing w bot event why e = by (is_bot w bot) e
  where
    by : (b : Bool) → (let r : Result Part Outcome = if b then Ok (record { bot = bot; event = event }) else Err NoSuchBot in r) ≡ Err why → IsMissing why
    by true e = cc
    by false e = let same : NoSuchBot ≡ why = cc in subst IsMissing same tt

told_at-missing : (w : Net) (bot : ℕ) (event : BotEvent) (why : Outcome) → told_at w bot event ≡ Err why → IsMissing why
told_at-missing w bot event why e = by (is_bot w bot && is_packet event) e
  where
    by : (b : Bool) → (if b then Err NoSuchPacket else part_at w bot event) ≡ Err why → IsMissing why
    by true e = let same : NoSuchPacket ≡ why = cc in subst IsMissing same tt
    by false e = part_at-missing w bot event why e

delivered-missing : (w : Net) (r : Option Sent) (why : Outcome) → delivered w r ≡ Err why → IsMissing why
delivered-missing w None why e = let same : NoSuchPacket ≡ why = cc in subst IsMissing same tt
delivered-missing w (Some sent) why e = part_at-missing w sent.to (Receive sent.packet) why e

part_of-missing : (w : Net) (step : Step) (why : Outcome) → part_of w step ≡ Err why → IsMissing why
part_of-missing w (At bot event) why e = told_at-missing w bot event why e
part_of-missing w (Deliver packet) why e = delivered-missing w (packet_at w.packets packet) why e

-- ---- where one does: a packet that it is told was sent to it

unsent : (sent : List LinkSent) (bot : ℕ) (event : BotEvent) → is_packet event ≡ false → WasSentTo sent bot event
unsent sent bot (Receive packet) e = cc
unsent sent bot Connect e = tt
unsent sent bot (Line line) e = tt
unsent sent bot (Ask change) e = tt
unsent sent bot Pump e = tt
unsent sent bot (Clock now) e = tt
unsent sent bot (Bind asked) e = tt
unsent sent bot (Unbind gone) e = tt
unsent sent bot Compact e = tt
unsent sent bot Restart e = tt

part_at-is : (w : Net) (bot : ℕ) (event : BotEvent) (part : Part) → part_at w bot event ≡ Ok part
    → (let p : Part = record { bot = bot; event = event } in p) ≡ part
part_at-is w bot event part e = by (is_bot w bot) e
  where
    by : (b : Bool) → (let r : Result Part Outcome = if b then Ok (record { bot = bot; event = event }) else Err NoSuchBot in r) ≡ Ok part
        → (let p : Part = record { bot = bot; event = event } in p) ≡ part
    by true e = cc
    by false e = cc

abbrev WasSent : List LinkSent → Part → Type 0
WasSent sent part = WasSentTo sent part.bot part.event

told_at-sent : (sent : List LinkSent) (w : Net) (bot : ℕ) (event : BotEvent) (part : Part) → told_at w bot event ≡ Ok part → WasSent sent part
told_at-sent sent w bot event part e = by (is_bot w bot) refl (is_packet event) refl e
  where
    by : (b : Bool) → is_bot w bot ≡ b → (p : Bool) → is_packet event ≡ p → (if b && p then Err NoSuchPacket else part_at w bot event) ≡ Ok part
        → WasSent sent part
    by b there false other e = subst (WasSent sent) (part_at-is w bot event part (plain b e)) (unsent sent bot event other)
      where
        plain : (b : Bool) → (if b && false then Err NoSuchPacket else part_at w bot event) ≡ Ok part → part_at w bot event ≡ Ok part
        plain true e = e
        plain false e = e
    by true there true sent e = cc
    by false there true sent e = let none : part_at w bot event ≡ Err NoSuchBot = rw there refl in let bad = sym none ∙ e in cc

packet_at-sent : (packets : List Sent) (k : ℕ) (sent : Sent) → packet_at packets k ≡ Some sent
    → item_at (all_sent packets) k ≡ Some (sent_as sent)
packet_at-sent packets zero sent e = cc
packet_at-sent packets (suc number) sent e = all_sent-get packets number sent e

part_of-sent : (w : Net) (step : Step) (part : Part) → part_of w step ≡ Ok part → WasSent (all_sent w.packets) part
part_of-sent w (At bot event) part e = told_at-sent (all_sent w.packets) w bot event part e
part_of-sent w (Deliver k) part e = by (packet_at w.packets k) refl e
  where
    by : (r : Option Sent) → packet_at w.packets k ≡ r → delivered w r ≡ Ok part → WasSent (all_sent w.packets) part
    by None at e = cc
    by (Some sent) at e =
        let found = packet_at-sent w.packets k sent at in
        subst (WasSent (all_sent w.packets)) (part_at-is w sent.to (Receive sent.packet) part e) (k, sent.from, found)

-- ---- what it leaves

taken_goes : (promised : Promised) (s : State) (step : Step) (o : Outcome) (w : Net) → IsSound s
    → (part : Part) → part_of s.net step ≡ Ok part → TakesPart promised s.net part o w → Goes promised s step o w
taken_goes promised s step o w sound part is t =
    let placed = sound.placed part.bot t.was t.there in
    let among : IsAmong s.links (ends_of s.net.bots) (all_sent s.net.packets) part.bot t.was.link = record {
      sound = sound.links;
      at = ends_of-get s.net.bots part.bot t.was t.there;
      number = placed.number;
      leaves = placed.leaves;
    } in
    let g = bot_goes promised s.net.store s.links (ends_of s.net.bots) (all_sent s.net.packets) part.bot t.was among part.event t.report t.after
    (part_of-sent s.net step part is) t.steps in
    let bots : List Bot = slice_set s.net.bots part.bot t.after in
    let sent = posted part.bot t.report.packets in
    let after : State = record { links = g.after; net = record { bots = bots; packets = s.net.packets ++ sent; store = s.net.store } } in
    let out : all_sent sent ≡ link_posted part.bot (outgoings_of t.report.packets) = all_sent-posted part.bot t.report.packets in
    let packets : all_sent s.net.packets ++ link_posted part.bot (outgoings_of t.report.packets) ≡ all_sent (s.net.packets ++ sent) =
    ap (λ (ps : List LinkSent). all_sent s.net.packets ++ ps) (sym out) ∙ sym (all_sent-append s.net.packets sent) in
    let links : IsMoment (ends_of bots) (all_sent (s.net.packets ++ sent)) g.after =
    subst (λ (ps : List LinkSent). IsMoment (ends_of bots) ps g.after) packets
    (subst (λ (es : List LinkEnd). IsMoment es (all_sent s.net.packets ++ link_posted part.bot (outgoings_of t.report.packets)) g.after)
    (sym (ends_of-set s.net.bots part.bot t.after)) g.sound) in
    let sound' : IsSound after = record {
      links = links;
      placed = λ i b e. elim (slice_get-set s.net.bots part.bot i t.after b e) [
        | inl h ↦ subst (λ (z : Bot). IsPlacedAt g.after.count i z) h.1
            (record { number = g.number ∙ placed.number ∙ sym h.0; leaves = g.leaves ∙ placed.leaves ∙ sym g.count })
        | inr h ↦ let other = sound.placed i b h.1 in record { number = other.number; leaves = other.leaves ∙ sym g.count }
      ];
    } in
    let count : length bots ≡ length s.net.bots = length-set s.net.bots part.bot t.after in
    let rule : NetStep promised s.net step o after.net =
    subst (λ (r : Result Part Outcome). Comes promised s.net r o after.net) (sym is) (subst (TakesPart promised s.net part o) t.leaves t) in
    let grown : GrowsAsToldBy s o after = subst (λ (x : Outcome). GrowsAsToldBy s x after) (sym t.told) g.accepted in
    record {
      after = after;
      lawful = record {
        by_rule = rule;
        sound = sound';
        follows = record {
          links = g.grows;
          packets = (sent, refl);
          versions = never_back s after sound sound' g.grows count;
          bots = count;
          store = refl;
        };
        answers = (
          sent,
          refl,
          subst (AllSent (IsKeptAnswer g.after.hub.kept)) (sym out)
              (AllSent-posted (IsKeptAnswer g.after.hub.kept) [] part.bot (outgoings_of t.report.packets) tt g.answers),
        );
        grows = grown;
        applies_next = applies_next promised s step o after sound rule;
        accepts_next = accepts_next promised s step o after sound sound' grown rule;
        fine = subst IsFine (sym t.told) g.fine;
      };
      net = t.leaves;
    }

pub goes : (promised : Promised) (s : State) (step : Step) (o : Outcome) (w : Net) → IsSound s
    → NetStep promised s.net step o w → Goes promised s step o w
goes promised s step o w sound c = by (part_of s.net step) refl c
  where
    by : (r : Result Part Outcome) → part_of s.net step ≡ r → Comes promised s.net r o w → Goes promised s step o w
    by (Ok part) is t = taken_goes promised s step o w sound part is t
    by (Err why) is t =
        let missing : IsMissing o = subst IsMissing (sym t.0) (part_of-missing s.net step why is) in
        let rule : NetStep promised s.net step o s.net = subst (NetStep promised s.net step o) t.1 c in
        let grown : GrowsAsToldBy s o s = missing_grows s o missing in
        record {
          after = s;
          lawful = record {
            by_rule = rule;
            sound = sound;
            follows = Follows-refl s sound;
            answers = ([], sym (append-nil s.net.packets), tt);
            grows = grown;
            applies_next = applies_next promised s step o s sound rule;
            accepts_next = accepts_next promised s step o s sound sound grown rule;
            fine = missing_is_fine o missing;
          };
          net = t.1;
        }
