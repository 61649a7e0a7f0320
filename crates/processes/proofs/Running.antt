-- Lists of deeds, and what two moments of one have in common.
use Rattle.std.proofs.Common.{◌≡◌, ◌<◌, ◌≤◌, ℕ, zero, suc, List, [], ◌∷◌, ◌++◌, length, slice_get, Option, None, Some, refl}
use Rattle.std.proofs.Common.{ap, sym, subst, ◌∙◌, arith}
use Rattle.userfile.specs.Records.{Records}
use Rattle.userfile.specs.declared.change.Change.{Change as UserChange}
use Rattle.sharewire.specs.declared.packet.Packet.{Packet}
use Rattle.sharewire.specs.declared.packet.Packet.TheVariants.{Hello, Change, Request, Accepted, Refused, BotText, Part}
use Rattle.procs.specs.Promises.{Promised}
use Rattle.protocol.specs.Numbers.{item_at}
use Rattle.protocol.specs.Packets.{AcceptedChange, Packet as LinkPacket, Sent as LinkSent, from_wire}
use Rattle.protocol.specs.Packets.Packet.{Accepted as accepted_packet, Refused as refused_packet}
use Rattle.protocol.specs.History.{History, start, asked_of, records_of}
use Rattle.protocol.specs.Truth.{IsTrue}
use Rattle.protocol.specs.Claims.{Holds, WasSent}
use Rattle.protocol.specs.Network.{no_replies}
use Rattle.protocol.proofs.Growing.{Grows-refl}
use Rattle.protocol.proofs.Holding.{holds}
use Rattle.protocol.proofs.Lists.{Extends-length, item_at-within, records_of-more}
use Rattle.protocol.proofs.NetGoes.{counts}
use Rattle.protocol.proofs.NetLists.{leaf_at}
use Rattle.protocol.proofs.Truth.{AllSent-at}
use Rattle.protocol.specs.Ends.{End as LinkEnd, AtHub, AtLeaf, new_end, end_version, end_records}
use Rattle.protocol.specs.Nets.{ends_of}
use Rattle.protocol.proofs.Moments.{begins, shows}
use Rattle.sharelink.specs.BotLinks.{BotEnd}
use Rattle.sharelink.specs.Telling.{end_last_request}
use Rattle.botcore.specs.Bots.{Bot}
use Rattle.botcore.specs.Links.{link_version}
use Rattle.botworld.specs.declared.sent.Sent.{Sent}
use Rattle.botworld.specs.Network.{sent_as}
use Rattle.processes.specs.Deeds.{Process, Runs, Ended, Net, Deed, Replaced, after_deed, net_after, Run, IsNew, IsFirst, Stays}
use Rattle.processes.specs.Deeds.{version_in, records_in, shown_version, shown_records, IsTold}
use Rattle.processes.specs.Standing.{HoldsAbove, HasEnd, AreAmong, Stands, Reaches, Leads}
use Rattle.processes.specs.Promises.{Once, IsReplyTo, Awaits, BeginsAnew}
use Rattle.processes.proofs.Lists.{AreAmong-at}
use Rattle.processes.proofs.Keeping.{out_above}
use Rattle.processes.proofs.Standing.{PlaceKeeps, grown, GrowsBy-trans}
use Rattle.processes.proofs.Renewing.{Replaces, replaced_goes}
use Rattle.processes.proofs.Deeds.{deed_goes}

-- ---- lists of deeds

-- where deeds lead, and that the ends of bots that they don't replace hold what they held
pub record Goes (w : Net) (h : History) (st : Stands w h) (deeds : List Deed) : Type 0 where
  pub reaches : Reaches deeds h (net_after w deeds)
  pub keeps : (place : ℕ) → Stays place deeds → PlaceKeeps st.ends reaches.stands.ends place

pub run_goes : (promised : Promised) (w : Net) (h : History) (deeds : List Deed) → (st : Stands w h) → Run promised w deeds
    → Goes w h st deeds
run_goes promised w h [] st run = record {
  reaches = record { after = h; stands = st; grows = grown [] h h (Grows-refl h) };
  keeps = λ place stays floor count a. a;
}
run_goes promised w h (deed ∷ deeds) st run =
    let one = deed_goes w h st promised deed run.0 in
    let rest = run_goes promised (after_deed w deed) one.leads.after deeds one.leads.stands run.1 in
    record {
      reaches = record {
        after = rest.reaches.after;
        stands = rest.reaches.stands;
        grows = GrowsBy-trans deed deeds h one.leads.after rest.reaches.after one.leads.grows rest.reaches.grows;
      };
      keeps = λ place stays floor count a. rest.keeps place stays.1 floor count (one.keeps place stays.0 floor count a);
    }

-- the first of these deeds, and then the others
record Parts (promised : Promised) (w : Net)
    (first more : List Deed) : Type 0 where
  front : Run promised w first
  back : Run promised (net_after w first) more
  leads : net_after w (first ++ more) ≡ net_after (net_after w first) more

parts : (promised : Promised) (w : Net) (first more : List Deed)
    → Run promised w (first ++ more) → Parts promised w first more
parts promised w [] more run = record { front = tt; back = run; leads = refl }
parts promised w (deed ∷ first) more run =
    let rest = parts promised (after_deed w deed) first more run.1 in
    record { front = (run.0, rest.front); back = rest.back; leads = rest.leads }

-- ---- the first moment

abbrev ends_in : List Process → List LinkEnd
ends_in [] = []
ends_in (Runs bot ∷ processes) = bot.link.end ∷ ends_in processes
ends_in (Ended first second ∷ processes) = new_end 0 0 ∷ ends_in processes

ends_in-length : (processes : List Process) → length (ends_in processes) ≡ length processes
ends_in-length [] = refl
ends_in-length (Runs bot ∷ processes) = ap suc (ends_in-length processes)
ends_in-length (Ended first second ∷ processes) = ap suc (ends_in-length processes)

-- a process stands where its end does
process_at : (processes : List Process) (place : ℕ) (e : LinkEnd) → slice_get (ends_in processes) place ≡ Some e
    → (p : Process) × (slice_get processes place ≡ Some p)
process_at [] place e at = cc
process_at (Runs bot ∷ processes) zero e at = (Runs bot, refl)
process_at (Ended first second ∷ processes) zero e at = (Ended first second, refl)
process_at (Runs bot ∷ processes) (suc place) e at = process_at processes place e at
process_at (Ended first second ∷ processes) (suc place) e at = process_at processes place e at

end_at : (processes : List Process) (place : ℕ) (bot : Bot) → slice_get processes place ≡ Some (Runs bot)
    → slice_get (ends_in processes) place ≡ Some bot.link.end
end_at [] place bot at = cc
end_at (Runs b ∷ processes) zero bot at = let same : b ≡ bot = cc in ap (λ (b : Bot). Some b.link.end) same
end_at (Ended first second ∷ processes) zero bot at = cc
end_at (Runs b ∷ processes) (suc place) bot at = end_at processes place bot at
end_at (Ended first second ∷ processes) (suc place) bot at = end_at processes place bot at

-- a new hub has a place for the replies to each leaf, and a new leaf has made no request
no_replies-length : (count : ℕ) → length (no_replies count) ≡ count
no_replies-length zero = refl
no_replies-length (suc count) = ap suc (no_replies-length count)

new_holds : (place count : ℕ) → HoldsAbove 0 count (new_end place count)
new_holds zero count = no_replies-length count
new_holds (suc place) count = record { last = omega arith; out = tt }

record IsNewEnd (count place : ℕ) (b : Bot) : Type 0 where
  number : b.link.number ≡ place
  leaves : b.link.leaves ≡ count
  end : b.link.end ≡ new_end place count

new_end_of : (count place : ℕ) (p : Process) (new : IsNew count place p) → IsNewEnd count place new.bot
new_end_of count place p new = record {
  number = ap (λ (b : Bot). b.link.number) new.made ∙ new.number;
  leaves = ap (λ (b : Bot). b.link.leaves) new.made ∙ new.leaves;
  end = ap (λ (b : Bot). b.link.end) new.made
      ∙ ap (λ n. new_end n new.bot.config.leaves) new.number ∙ ap (new_end place) new.leaves;
}

pub first_stands : (count : ℕ) (w : Net) → IsFirst count w → Stands w (start count)
first_stands count w is = record {
  ends = ends_in w.processes;
  packets = [];
  moment = begins count (ends_in w.processes) (ends_in-length w.processes ∙ is.many) (λ place e at.
      let found = process_at w.processes place e at in
      let new = is.all_new place found.0 found.1 in
      let here = end_at w.processes place new.bot (found.1 ∙ ap (λ (p : Process). Some p) new.runs) in
      let both : Some e ≡ Some new.bot.link.end = sym at ∙ here in
      let same : e ≡ new.bot.link.end = cc in
      same ∙ (new_end_of count place found.0 new).end);
  many = is.many;
  told = subst (λ (ps : List Sent). AreAmong ps []) (sym is.packets) tt;
  each = λ place p at.
      let new = is.all_new place p at in
      let e = new_end_of count place p new in
      record {
        link = new.bot.link;
        at = end_at w.processes place new.bot (at ∙ ap (λ (p : Process). Some p) new.runs);
        number = e.number;
        leaves = e.leaves;
        holds = subst (HoldsAbove 0 count) (sym e.end) (new_holds place count);
        has = subst (λ (q : Process). HasEnd new.bot.link q) (sym new.runs) refl;
      };
}

-- ---- what is shown

record Shown (w : Net) (h : History) (st : Stands w h) (bot version : ℕ) : Type 0 where
  end : LinkEnd
  at : slice_get st.ends bot ≡ Some end
  version_is : end_version end ≡ version
  records_are : shown_records w bot ≡ Some (end_records end)

shown : (w : Net) (h : History) (st : Stands w h) (bot version : ℕ) → shown_version w bot ≡ Some version
    → Shown w h st bot version
shown w h st bot version shows = by (slice_get w.processes bot) refl shows
  where
    by : (o : Option Process) → slice_get w.processes bot ≡ o → version_in o ≡ Some version → Shown w h st bot version
    by None at is = cc
    by (Some (Ended first second)) at is = cc
    by (Some (Runs b)) at is =
        let here = st.each bot (Runs b) at in
        record {
          end = b.link.end;
          at = here.at ∙ ap (λ (l : BotEnd). Some l.end) (sym here.has);
          version_is = let v : link_version b.link ≡ version = cc in v;
          records_are = ap records_in at;
        }

pub stands_at_version : (w : Net) (h : History) → Stands w h → (bot version : ℕ) → shown_version w bot ≡ Some version
    → shown_records w bot ≡ Some (records_of h.hub.kept.accepted version)
stands_at_version w h st bot version is =
    let a = shown w h st bot version is in
    a.records_are ∙ ap (λ (r : Records). Some r)
    ((shows st.ends st.packets h st.moment).records bot a.end a.at ∙ ap (records_of h.hub.kept.accepted) a.version_is)

-- the version that history gives a bot
abbrev past_version : History → ℕ → ℕ
past_version h zero = length h.hub.kept.accepted
past_version h (suc place) = (h.leaves (suc place)).kept.version

module _ (w : Net) (h : History) (st : Stands w h) (bot version : ℕ) (is : shown_version w bot ≡ Some version) where
  within_accepted : version ≤ length h.hub.kept.accepted
  within_accepted =
      let a = shown w h st bot version is in
      omega (arith, a.version_is, (shows st.ends st.packets h st.moment).within bot a.end a.at)

  version_past : version ≡ past_version h bot
  version_past = by bot a.end (ap (λ (es : List LinkEnd). slice_get es bot) (sym st.moment.ends_are) ∙ a.at) a.version_is
    where
      a : Shown w h st bot version
      a = shown w h st bot version is

      by : (bot : ℕ) (e : LinkEnd) → slice_get (ends_of st.moment.net) bot ≡ Some e → end_version e ≡ version
          → version ≡ past_version h bot
      by zero e at v =
          let same : AtHub st.moment.net.hub ≡ e = cc in
          sym v ∙ ap end_version (sym same) ∙ counts st.moment.net h st.moment.stands st.moment.sound
      by (suc place) e at v =
          let found = leaf_at st.moment.net.leaves place e at in
          sym v ∙ ap end_version found.is ∙ (st.moment.stands.leaves place found.leaf found.at).kept.version

module _ (promised : Promised) (count : ℕ) (w : Net)
    (first more : List Deed) (is : IsFirst count w) (run : Run promised w (first ++ more)) where
  abbrev apart : Parts promised w first more
  apart = parts promised w first more run

  abbrev one : Reaches first (start count) (net_after w first)
  one = (run_goes promised w (start count) first (first_stands count w is) apart.front).reaches

  abbrev two : Reaches more one.after (net_after (net_after w first) more)
  two = (run_goes promised (net_after w first) one.after more one.stands apart.back).reaches

  -- what is shown after all deeds
  shown_then : (j version : ℕ) → shown_version (net_after w (first ++ more)) j ≡ Some version
      → shown_version (net_after (net_after w first) more) j ≡ Some version
  shown_then j version now = ap (λ (n : Net). shown_version n j) (sym apart.leads) ∙ now

  pub run_same_records : (i j version : ℕ) → shown_version (net_after w first) i ≡ Some version
      → shown_version (net_after w (first ++ more)) j ≡ Some version
      → shown_records (net_after w first) i ≡ shown_records (net_after w (first ++ more)) j
  run_same_records i j version was now =
      stands_at_version (net_after w first) one.after one.stands i version was
      ∙ ap (λ (r : Records). Some r) (sym (records_of-more one.after.hub.kept.accepted two.after.hub.kept.accepted version
      two.grows.hub.accepted (within_accepted (net_after w first) one.after one.stands i version was)))
      ∙ sym (stands_at_version (net_after (net_after w first) more) two.after two.stands j version (shown_then j version now))
      ∙ ap (λ (n : Net). shown_records n j) (sym apart.leads)

  past_grows : (i : ℕ) → Stays i more → past_version one.after i ≤ past_version two.after i
  past_grows zero stays =
      Extends-length one.after.hub.kept.accepted two.after.hub.kept.accepted two.grows.hub.accepted
  past_grows (suc place) stays = (two.grows.leaves (suc place) stays).version

  pub run_never_back : (i before after : ℕ) → Stays i more → shown_version (net_after w first) i ≡ Some before
      → shown_version (net_after w (first ++ more)) i ≡ Some after → before ≤ after
  run_never_back i before after stays was now =
      omega (
        arith,
        version_past (net_after w first) one.after one.stands i before was,
        version_past (net_after (net_after w first) more) two.after two.stands i after (shown_then i after now),
        past_grows i stays,
      )

-- ---- a request is accepted at most once

module _ (w : Net) (h : History) (st : Stands w h) where
  abbrev all_hold : Holds st.moment.net h
  all_hold = holds st.moment.net h st.moment.stands st.moment.sound

  was_sent : (packet : Packet) → IsTold w packet → WasSent h (from_wire packet)
  was_sent packet told =
      let found = AreAmong-at w.packets st.packets told.0 told.1 st.told told.2 in (
        found.0,
        sent_as told.1,
        ap (λ (ps : List LinkSent). item_at ps found.0) (sym (st.moment.packets_are ∙ st.moment.stands.packets))
            ∙ found.1,
        ap from_wire told.3,
      )

  abbrev entry : ℕ → ℕ → UserChange → AcceptedChange
  entry origin request change = record { origin = origin; request = request; change = change }

  pub stands_once : Once w
  stands_once = record {
    change = λ n m place request a b x y.
        let one = all_hold.changes n (suc place) request a (was_sent _ x) in
        let other = all_hold.changes m (suc place) request b (was_sent _ y) in
        let same = all_hold.once n m place request a b one other in
        let both : Some (entry (suc place) request a) ≡ Some (entry (suc place) request b) =
        sym one ∙ ap (item_at h.hub.kept.accepted) same ∙ other in
        let entries : entry (suc place) request a ≡ entry (suc place) request b = cc in
        (same, ap (λ (e : AcceptedChange). e.change) entries);
    accepted = λ n m place request a x y.
        all_hold.told n m place request a (all_hold.changes n (suc place) request a (was_sent _ x)) (was_sent _ y);
    not_refused = λ n place request a fault x y.
        all_hold.not_refused n place request a fault (all_hold.changes n (suc place) request a (was_sent _ x))
        (was_sent _ y);
    same = λ n o p r s a b x y.
        let both : Some (entry o r a) ≡ Some (entry p s b) =
        sym (all_hold.changes n o r a (was_sent _ x)) ∙ all_hold.changes n p s b (was_sent _ y) in
        let entries : entry o r a ≡ entry p s b = cc in (
          ap (λ (e : AcceptedChange). e.origin) entries,
          ap (λ (e : AcceptedChange). e.request) entries,
          ap
              (λ (e : AcceptedChange). e.change) entries,
        );
  }

-- ---- a leaf that was replaced

-- a request that is awaited is above the number above which all are
awaits_above : (e : LinkEnd) (floor count request : ℕ) → HoldsAbove floor count e → Awaits e request → floor < request
awaits_above (AtHub hub) floor count request above awaits = absurd awaits
awaits_above (AtLeaf leaf) floor count request above awaits = out_above floor request leaf.kept.out above.out awaits

module _ (w : Net) (h : History) (st : Stands w h) where
  -- what was sent is true of history
  so : (packet : LinkPacket) → WasSent h packet → IsTrue h.hub.kept (asked_of h.leaves) packet
  so packet sent =
      let says = IsTrue h.hub.kept (asked_of h.leaves) in
      subst says sent.3 (AllSent-at says h.packets sent.0 sent.1 st.moment.sound.packets sent.2)

  -- a reply that was told is to a request that the hub has answered
  reply_within : (leaf request : ℕ) (packet : Packet) → IsReplyTo leaf request packet → IsTold w packet
      → request ≤ length (h.hub.kept.answers leaf)
  reply_within leaf request (Hello layout from version) is told = absurd is
  reply_within leaf request (Change number origin made change) is told = absurd is
  reply_within leaf request (Request from made change) is told = absurd is
  reply_within leaf request (Accepted to made number) is told =
      let within = item_at-within (h.hub.kept.answers to) made _ (so (accepted_packet to made number) (was_sent w h st _ told)) in
      omega (arith, within, ap (λ n. length (h.hub.kept.answers n)) is.0, is.1)
  reply_within leaf request (Refused to made fault) is told =
      let within = item_at-within (h.hub.kept.answers to) made _ (so (refused_packet to made fault) (was_sent w h st _ told)) in
      omega (arith, within, ap (λ n. length (h.hub.kept.answers n)) is.0, is.1)
  reply_within leaf request (BotText from to text) is told = absurd is
  reply_within leaf request (Part version part count items) is told = absurd is

module _ (promised : Promised) (count : ℕ) (w : Net) (first more : List Deed) (leaf : ℕ) (new : Bot) (is : IsFirst count w)
    (run : Run promised w (first ++ Replaced leaf new ∷ more)) (stays : Stays leaf more) where
  abbrev around : Parts promised w first (Replaced leaf new ∷ more)
  around = parts promised w first (Replaced leaf new ∷ more) run

  abbrev before : Reaches first (start count) (net_after w first)
  before = (run_goes promised w (start count) first (first_stands count w is) around.front).reaches

  abbrev replaces : Replaces (net_after w first) before.after before.stands leaf new
  replaces = replaced_goes (net_after w first) before.after before.stands leaf new around.back.0

  abbrev leads : Leads before.after (net_after w first) (Replaced leaf new)
  leads = replaces.follows.leads

  abbrev then_goes : Goes (after_deed (net_after w first) (Replaced leaf new)) leads.after leads.stands more
  then_goes = run_goes promised (after_deed (net_after w first) (Replaced leaf new)) leads.after more leads.stands around.back.1

  abbrev last : ℕ
  last = end_last_request new.link.end

  -- the hub had replied to no more
  up_to_last : length (before.after.hub.kept.answers leaf) ≤ last
  up_to_last = omega (arith, Extends-length _ _ (leads.grows.hub.answers leaf), replaces.last)

  awaited : (bot : Bot) (request : ℕ) → slice_get (net_after w (first ++ Replaced leaf new ∷ more)).processes leaf ≡ Some (Runs bot)
      → Awaits bot.link.end request → last < request
  awaited bot request at awaits =
      let here = then_goes.reaches.stands.each leaf (Runs bot)
      (ap (λ (n : Net). slice_get n.processes leaf) (sym around.leads) ∙ at) in
      let a = then_goes.keeps leaf stays last before.after.count replaces.new in
      let both : Some here.link.end ≡ Some a.end = sym here.at ∙ a.at in
      let same : here.link.end ≡ a.end = cc in
      let end : a.end ≡ bot.link.end = sym same ∙ ap (λ (b : BotEnd). b.end) (sym here.has) in
      awaits_above bot.link.end last before.after.count request (subst (HoldsAbove last before.after.count) end a.holds) awaits

  replied : (request : ℕ) (packet : Packet) → IsReplyTo leaf request packet → IsTold (net_after w first) packet → request ≤ last
  replied request packet is told =
      omega (arith, reply_within (net_after w first) before.after before.stands leaf request packet is told, up_to_last)

  pub run_begins_anew : BeginsAnew (net_after w first) (net_after w (first ++ Replaced leaf new ∷ more)) leaf last
  run_begins_anew = record {
    replies = replied;
    awaits = awaited;
    no_old_reply = λ bot request at awaits packet is told.
        absurd (omega (arith, awaited bot request at awaits, replied request packet is told));
  }
