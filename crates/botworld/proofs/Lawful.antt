-- What a done step has done, beside what follows from it: a leaf's next change is applied, and an ask that is taken is accepted.
use Rattle.std.proofs.Common.{◌≡◌, inl, inr, ℕ, zero, suc, ◌+◌, ◌≤◌, nat_lt, Bool, true, false, if◌then◌else◌, List, [], ◌∷◌, ◌++◌, drop}
use Rattle.std.proofs.Common.{length, slice_get, Option, None, Some, Result, Ok, Err, refl, ap, sym, subst, ◌∙◌, arith}
use Rattle.std.proofs.lemmas.Bool.{lt-ltb}
use Rattle.std.proofs.lemmas.Option.{slice_get_within}
use Rattle.std.specs.Option.{option_map}
use Rattle.bytetext.specs.declared.failure.Failure.{Failure}
use Rattle.bytetext.specs.declared.failure.Failure.TheVariants.{Refused as refused_by, NoMemory as no_memory}
use Rattle.userfile.specs.Records.{Records}
use Rattle.userfile.specs.Apply.{refusal}
use Rattle.userfile.specs.declared.change.Change.{Change}
use Rattle.userfile.specs.declared.error.ChangeFault.{ChangeFault}
use Rattle.sharewire.specs.declared.packet.Packet.TheVariants.{Change as change_packet}
use Rattle.protocol.specs.Numbers.{last_number, Place, Below, Same, Next, Above, place_of}
use Rattle.protocol.specs.Packets.{AcceptedChange, Outgoing as LinkOutgoing, own}
use Rattle.protocol.specs.Packets.Packet.{Change as link_change}
use Rattle.protocol.specs.Notes.{Note as Meaning, LinkFault as Meant}
use Rattle.protocol.specs.Bots.{How, Works, Row, refused, journals}
use Rattle.protocol.specs.HubRules.{Hub, HubState, Accept, version_of, hub_folded, hub_pumped_up, ask_served, hub_pumped}
use Rattle.protocol.specs.LeafRules.{Leaf, next_applied, change_placed, leaf_received_up, leaf_received}
use Rattle.protocol.specs.History.{PastHub, records_of}
use Rattle.protocol.specs.Standing.{HubStands}
use Rattle.protocol.specs.Network.Event.{Pump as pumps}
use Rattle.protocol.proofs.Moves.{next_is_applied, pump_accepts}
use Rattle.protocol.proofs.HubGoes.{version_stands}
use Rattle.sharelink.specs.declared.answer.Answer.{Answer}
use Rattle.sharelink.specs.declared.note.LinkNote.{LinkNote}
use Rattle.sharelink.specs.declared.note.LinkNote.TheVariants as note
use Rattle.sharelink.specs.declared.error.LinkFault.{LinkFault}
use Rattle.sharelink.specs.Calls.{note_of}
use Rattle.protocol.specs.Ends.{End as LinkEnd, AtHub, AtLeaf, end_asks, end_version}
use Rattle.protocol.specs.Nets.{leaf_ends, ends_of as ends_in, MovesAsTold}
use Rattle.sharelink.specs.BotLinks.{did, took, Calls}
use Rattle.procs.specs.Promises.{Promised}
use Rattle.botcore.specs.declared.event.BotEvent.{BotEvent}
use Rattle.botcore.specs.declared.event.BotEvent.TheVariants.{Pump, Receive}
use Rattle.botcore.specs.declared.report.End.TheVariants.{Done}
use Rattle.botcore.specs.declared.report.Note.{Note}
use Rattle.botcore.specs.declared.report.Note.TheVariants.{Link as link_note}
use Rattle.botcore.specs.declared.report.Report.{Report as BotReport}
use Rattle.botcore.specs.Bots.{Bot}
use Rattle.botcore.specs.Links.{link_version}
use Rattle.botcore.specs.Happenings.{Saying, saying_of}
use Rattle.botcore.specs.Reports.{answer_report}
use Rattle.botcore.specs.Steps.{GivesRow, TakesPacket}
use Rattle.botworld.specs.declared.sent.Sent.{Sent}
use Rattle.botworld.specs.declared.step.Part.{Part}
use Rattle.botworld.specs.declared.step.Step.{Step}
use Rattle.botworld.specs.declared.outcome.Outcome.{Outcome}
use Rattle.botworld.specs.Net.{Net, is_bot, part_at, told_at, delivered, part_of, packet_at, TakesPart, Comes, NetStep, shown_version}
use Rattle.botworld.specs.Network.{State, accepted_by, IsSound, waiting_at, IsDone, HasNote, AppliesNext, AcceptsNext, GrowsByNote, GrowsAsToldBy}
use Rattle.botworld.proofs.Lists.{slice_get-set-same, same_behind}
use Rattle.botworld.proofs.Shown.{ends_of-get}

-- ---- a done step of a bot

-- a bot of this number is there
pub is_bot-at : (w : Net) (bot : ℕ) (b : Bot) → slice_get w.bots bot ≡ Some b → is_bot w bot ≡ true
is_bot-at w bot b e = lt-ltb bot (length w.bots) (slice_get_within w.bots bot b e)

record DoneBy (promised : Promised)
    (old : Net) (bot : ℕ) (event : BotEvent) (was : Bot) (o : Outcome) (new : Net) : Type 0 where
  taken : TakesPart promised old (record { bot = bot; event = event }) o new
  same : taken.was ≡ was
  done : taken.report.end ≡ Done

done_by : (promised : Promised)
    (old : Net) (bot : ℕ) (event : BotEvent) (was : Bot) (o : Outcome) (new : Net)
    → slice_get old.bots bot ≡ Some was → Comes promised old (part_at old bot event) o new → IsDone o → DoneBy promised old bot event was o new
done_by promised old bot event was o new here c done =
    let part : Part = record { bot = bot; event = event } in
    let there : part_at old bot event ≡ Ok part = rw (is_bot-at old bot was here) refl in
    let taken : TakesPart promised old part o new = subst (λ (r : Result Part Outcome). Comes promised old r o new) there c in
    record {
      taken = taken;
      same = let both : Some taken.was ≡ Some was = sym taken.there ∙ here in cc;
      done = subst IsDone taken.told done;
    }

-- the bot that took part, in the net after it
after_at : (promised : Promised) (old : Net) (part : Part) (o : Outcome) (new : Net)
    → (t : TakesPart promised old part o new) → slice_get new.bots part.bot ≡ Some t.after
after_at promised old part o new t =
    ap (λ (w : Net). slice_get w.bots part.bot) t.leaves ∙ slice_get-set-same old.bots part.bot t.was t.after t.there

shown_at : (w : Net) (bot v : ℕ) → shown_version w bot ≡ Some v → (b : Bot) × (slice_get w.bots bot ≡ Some b) × (link_version b.link ≡ v)
shown_at w bot v e = by (slice_get w.bots bot) refl e
  where
    by : (r : Option Bot) → slice_get w.bots bot ≡ r → option_map (λ (b : Bot). link_version b.link) r ≡ Some v
        → (b : Bot) × (slice_get w.bots bot ≡ Some b) × (link_version b.link ≡ v)
    by None here e = cc
    by (Some b) here e = (b, here, cc)

-- ---- a done call of the link

-- it was answered as the row says where the device works
record WasAnswered (row : How → Row LinkEnd) (report : BotReport) (new : Bot) : Type 0 where
  answer : Answer
  note : report.note ≡ Some (link_note answer.note)
  told : (row Works).told ≡ Ok (note_of answer.note)
  after : new.link.end ≡ (row Works).after

was_answered : (old : Bot) (row : How → Row LinkEnd) (report : BotReport) (new : Bot) → report.end ≡ Done → GivesRow old row report new
    → WasAnswered row report new
was_answered old row report new done g = by g.answer (sym g.report) g.met
  where
    by : (answer : Result Answer (Failure LinkFault)) → answer_report answer ≡ report → Calls old.link row answer new.link → WasAnswered row report new
    by (Ok answer) is c = record {
      answer = answer;
      note = sym (ap (λ (r : BotReport). r.note) is);
      told = c.row.told;
      after = c.row.after;
    }
    by (Err (refused_by fault)) is c = let end = ap (λ (r : BotReport). r.end) is ∙ done in cc
    by (Err no_memory) is c = let end = ap (λ (r : BotReport). r.end) is ∙ done in cc

-- ---- a leaf's next change

-- the end of a leaf's bot is a leaf's
leaf_at : (leaves : List Leaf) (place : ℕ) (e : LinkEnd) → slice_get (leaf_ends leaves) place ≡ Some e → (leaf : Leaf) × (e ≡ AtLeaf leaf)
leaf_at [] place e at = cc
leaf_at (x ∷ leaves) zero e at = (x, cc)
leaf_at (x ∷ leaves) (suc place) e at = leaf_at leaves place e at

leaf_of : (s : State) → IsSound s → (place : ℕ) (b : Bot) → slice_get s.net.bots (suc place) ≡ Some b → (leaf : Leaf) × (b.link.end ≡ AtLeaf leaf)
leaf_of s sound place b at =
    let here : slice_get (ends_in sound.links.net) (suc place) ≡ Some b.link.end =
    subst (λ (es : List LinkEnd). slice_get es (suc place) ≡ Some b.link.end) sound.links.ends_are (ends_of-get s.net.bots (suc place) b at) in
    leaf_at sound.links.net.leaves place b.link.end here

hub_of : (s : State) → (sound : IsSound s) → (b : Bot) → slice_get s.net.bots 0 ≡ Some b → b.link.end ≡ AtHub sound.links.net.hub
hub_of s sound b at =
    let here : slice_get (ends_in sound.links.net) 0 ≡ Some b.link.end =
    subst (λ (es : List LinkEnd). slice_get es 0 ≡ Some b.link.end) sound.links.ends_are (ends_of-get s.net.bots 0 b at) in
    cc

-- a change is no text
change_is_silent : (leaves i : ℕ) (leaf : Leaf) (n o r : ℕ) (c : Change) → saying_of (leaf_received leaves i Works leaf (link_change n o r c)).told ≡ None
change_is_silent leaves i leaf n o r c = by leaf.down
  where
    Silent : Row Leaf → Type 0
    Silent row = saying_of row.told ≡ None

    taken : (f : Option ChangeFault) → Silent (next_applied leaves i Works leaf c f)
    taken (Some fault) = refl
    taken None = refl

    placed : (p : Place) → Silent (change_placed leaves i Works leaf c p)
    placed Below = refl
    placed Same = refl
    placed Next = taken (refusal leaf.kept.records c)
    placed Above = refl

    by : (down : Bool) → Silent (if down then refused Meant.Down leaf else leaf_received_up leaves i Works leaf (link_change n o r c))
    by true = refl
    by false = placed (place_of n leaf.kept.version)

-- the bot of a leaf that took its next change is one version on
next_version : (promised : Promised) (names : List (List ℕ)) (was : Bot) (leaf : Leaf)
    (v origin request : ℕ) (change : Change) (report : BotReport) (new : Bot) → was.link.end ≡ AtLeaf leaf → leaf.kept.version ≡ v → report.end ≡ Done
    → (let p = change_packet (v + 1) origin request change in
    TakesPacket (saying_of (took was.link p Works).told) promised names was p report new)
    → link_version new.link ≡ v + 1
next_version promised names was leaf v origin request change report new is at done t =
    let p = change_packet (v + 1) origin request change in
    let row : Row Leaf = leaf_received was.link.leaves was.link.number Works leaf (link_change (v + 1) origin request change) in
    let told : (took was.link p Works).told ≡ row.told = rw is refl in
    let left : (took was.link p Works).after ≡ AtLeaf row.after = rw is refl in
    let silent : saying_of (took was.link p Works).told ≡ None =
    ap saying_of told ∙ change_is_silent was.link.leaves was.link.number leaf (v + 1) origin request change in
    let gives : GivesRow was (took was.link p) report new =
    subst (λ (said : Option Saying). TakesPacket said promised names was p report new) silent t in
    let a = was_answered was (took was.link p) report new done gives in
    let says : (leaf_received was.link.leaves was.link.number Works leaf (link_change (leaf.kept.version + 1) origin request change)).told
    ≡ Ok (note_of a.answer.note) =
    ap (λ n. (leaf_received was.link.leaves was.link.number Works leaf (link_change (n + 1) origin request change)).told) at ∙ sym told ∙ a.told in
    let next = (next_is_applied was.link.leaves was.link.number Works leaf origin request change (note_of a.answer.note) says).1 in
    let version : row.after.kept.version ≡ v + 1 =
    sym (ap (λ n. (leaf_received was.link.leaves was.link.number Works leaf (link_change (n + 1) origin request change)).after.kept.version) at)
    ∙ next ∙ ap (λ n. n + 1) at in
    ap end_version (a.after ∙ left) ∙ version

-- the next change that is delivered and done is applied
pub applies_next : (promised : Promised) (old : State) (step : Step) (o : Outcome) (new : State)
    → IsSound old → NetStep promised old.net step o new.net → AppliesNext old step o new
applies_next promised old step o new sound rule packet leaf v origin request from change is at shown done =
    let p = change_packet (v + 1) origin request change in
    let found = shown_at old.net (suc leaf) v shown in
    let rule' : Comes promised old.net (delivered old.net (packet_at old.net.packets packet)) o new.net =
    subst (λ (e : Step). Comes promised old.net (part_of old.net e) o new.net) is rule in
    let rule'' : Comes promised old.net (part_at old.net (suc leaf) (Receive p)) o new.net =
    subst (λ (r : Option Sent). Comes promised old.net (delivered old.net r) o new.net) at rule' in
    let by = done_by promised old.net (suc leaf) (Receive p) found.0 o new.net found.1 rule'' done in
    let end = leaf_of old sound leaf found.0 found.1 in
    let was : by.taken.was.link.end ≡ AtLeaf end.0 = ap (λ (b : Bot). b.link.end) by.same ∙ end.1 in
    let version : end.0.kept.version ≡ v = ap end_version (sym end.1) ∙ found.2 in
    let next = next_version promised old.net.store by.taken.was end.0 v origin request change by.taken.report by.taken.after was version by.done
    by.taken.steps in
    ap (option_map (λ (b : Bot). link_version b.link)) (after_at promised old.net _ o new.net by.taken) ∙ ap Some next

-- ---- a pump of the hub

-- the note of an accepted change
accepted_note : (n : LinkNote) (number : ℕ) → note_of n ≡ Meaning.Accepted number → n ≡ note.Accepted number
accepted_note note.Queued number e = cc
accepted_note note.Idle number e = cc
accepted_note (note.Sent request) number e = cc
accepted_note (note.Accepted n) number e = cc
accepted_note (note.Refused fault) number e = cc
accepted_note (note.Served count) number e = cc
accepted_note note.Old number e = cc
accepted_note note.Repeat number e = cc
accepted_note note.Gap number e = cc
accepted_note note.Early number e = cc
accepted_note (note.Applied n) number e = cc
accepted_note (note.Kept part) number e = cc
accepted_note (note.Installed version) number e = cc
accepted_note note.Compacted number e = cc
accepted_note note.Relayed number e = cc
accepted_note (note.Text from text) number e = cc
accepted_note note.Stray number e = cc
accepted_note (note.Restarted version) number e = cc

-- what a pump that is done keeps
pump_keeps : (leaves : ℕ) (w : Hub) (c : Change) (rest : List Change) (told : Meaning) → w.loose ≡ c ∷ rest → refusal w.kept.records c ≡ None
    → (hub_pumped leaves Works w).told ≡ Ok told → (hub_pumped leaves Works w).after.kept ≡ hub_folded w.kept (Accept (own c))
pump_keeps leaves w c rest told waits takes = by w.down
  where
    Says : Row Hub → Type 0
    Says row = row.told ≡ Ok told → row.after.kept ≡ hub_folded w.kept (Accept (own c))

    room : (b : Bool) (sends : List LinkOutgoing) → Says (
        if b then journals hub_folded Works w (Accept (own c)) (Meaning.Accepted (version_of w.kept + 1)) sends rest
        else refused Meant.NumbersSpent w)
    room true sends h = refl
    room false sends h = cc

    by : (down : Bool) → Says (if down then refused Meant.Down w else hub_pumped_up leaves Works w w.loose)
    by true h = cc
    by false h =
        let row : hub_pumped_up leaves Works w w.loose ≡ ask_served leaves Works w c rest None = rw (waits, takes) refl in
        ap (λ (r : Row Hub). r.after.kept) row
        ∙ room (nat_lt (version_of w.kept) last_number) _ (ap (λ (r : Row Hub). r.told) (sym row) ∙ h)

drop-append : {X : Type 0} (n : ℕ) (xs ys : List X) → n ≤ length xs → drop n (xs ++ ys) ≡ drop n xs ++ ys
drop-append zero xs ys h = refl
drop-append (suc n) [] ys h = absurd (omega (arith, h))
drop-append (suc n) (x ∷ xs) ys h = drop-append n xs ys (omega (arith, h))

-- the change that the hub kept last is the one that was accepted last
last_is : (old new : HubState) (before now : PastHub) (last c : AcceptedChange) → HubStands old before → HubStands new now
    → before.floor ≤ length before.accepted → new ≡ hub_folded old (Accept c) → now.accepted ≡ before.accepted ++ last ∷ []
    → now.accepted ≡ before.accepted ++ c ∷ []
last_is old new before now last c was is floor kept grown =
    let floors : now.floor ≡ before.floor = sym is.floor ∙ ap (λ (h : HubState). h.floor) kept ∙ was.floor in
    let tail : new.tail ≡ drop before.floor before.accepted ++ c ∷ [] =
    ap (λ (h : HubState). h.tail) kept ∙ ap (λ (es : List AcceptedChange). es ++ c ∷ []) was.tail in
    let now_tail : new.tail ≡ drop before.floor before.accepted ++ last ∷ [] =
    is.tail ∙ ap (λ n. drop n now.accepted) floors ∙ ap (drop before.floor) grown
    ∙ drop-append before.floor before.accepted (last ∷ []) floor in
    let both : last ∷ [] ≡ c ∷ [] = same_behind (drop before.floor before.accepted) (last ∷ []) (c ∷ []) (sym now_tail ∙ tail) in
    grown ∙ ap (λ (es : List AcceptedChange). before.accepted ++ es) both

-- one more was accepted where the hub tells so
grown_one : (told : Option Note) (number : ℕ) (old new : List AcceptedChange) → told ≡ Some (link_note (note.Accepted number))
    → GrowsByNote 0 told old new → (last : AcceptedChange) × (new ≡ old ++ last ∷ [])
grown_one told number old new e grows =
    let moves : MovesAsTold old new 0 (Ok (Meaning.Accepted number)) = subst (λ (n : Option Note). GrowsByNote 0 n old new) e grows in
    let more = moves.accepted number refl refl in
    elim moves.stay_or_grow [
      | inl same ↦ absurd (omega (arith, more.0, more.1, ap (λ (l : List AcceptedChange). length l) same))
      | inr one ↦ (one.0, one.1)
    ]

-- the ask that a done pump takes, and the records take, is accepted
pub accepts_next : (promised : Promised) (old : State) (step : Step) (o : Outcome) (new : State)
    → IsSound old → IsSound new → GrowsAsToldBy old o new → NetStep promised old.net step o new.net → AcceptsNext old step o new
accepts_next promised old step o new sound sound' grown rule change rest is waits takes done =
    let rule' : Comes promised old.net (told_at old.net 0 Pump) o new.net =
    subst (λ (e : Step). Comes promised old.net (part_of old.net e) o new.net) is rule in
    by (slice_get old.net.bots 0) refl waits rule'
  where
    Accepted : Type 0
    Accepted = HasNote o (link_note (note.Accepted (length (accepted_by old) + 1))) × (accepted_by new ≡ accepted_by old ++ own change ∷ [])

    served : (b : Bot) → slice_get old.net.bots 0 ≡ Some b → (t : TakesPart promised old.net (record { bot = 0; event = Pump }) o new.net)
        → t.was ≡ b → t.report.end ≡ Done → end_asks b.link.end ≡ change ∷ rest → Accepted
    served b here t same end waits =
        let links = sound.links.net in
        let hub = links.hub in
        let leaves = t.was.link.leaves in
        let at : t.was.link.end ≡ AtHub hub = ap (λ (b : Bot). b.link.end) same ∙ hub_of old sound b here in
        let asks : hub.loose ≡ change ∷ rest = ap end_asks (sym (hub_of old sound b here)) ∙ waits in
        let version : version_of hub.kept ≡ length (accepted_by old) =
        version_stands _ hub.kept old.links.hub.kept sound.links.stands.hub.kept sound.links.sound.hub.kept in
        let records : hub.kept.records ≡ records_of (accepted_by old) (length (accepted_by old)) = sound.links.stands.hub.kept.records in
        let takes' : refusal hub.kept.records change ≡ None = ap (λ (r : Records). refusal r change) records ∙ takes in
        let a = was_answered t.was (did t.was.link pumps) t.report t.after end t.steps in
        let told : (did t.was.link pumps Works).told ≡ (hub_pumped leaves Works hub).told = rw at refl in
        let left : (did t.was.link pumps Works).after ≡ AtHub (hub_pumped leaves Works hub).after = rw at refl in
        let says : (hub_pumped leaves Works hub).told ≡ Ok (note_of a.answer.note) = sym told ∙ a.told in
        let number : note_of a.answer.note ≡ Meaning.Accepted (length (accepted_by old) + 1) =
        pump_accepts leaves Works hub change rest (note_of a.answer.note) asks takes' says ∙ ap (λ n. Meaning.Accepted (n + 1)) version in
        let tells : t.report.note ≡ Some (link_note (note.Accepted (length (accepted_by old) + 1))) =
        a.note ∙ ap (λ (n : LinkNote). Some (link_note n)) (accepted_note a.answer.note (length (accepted_by old) + 1) number) in
        let has : HasNote o (link_note (note.Accepted (length (accepted_by old) + 1))) =
        subst (λ (x : Outcome). HasNote x (link_note (note.Accepted (length (accepted_by old) + 1)))) (sym t.told) tells in
        let by_note : GrowsAsToldBy old o new = grown in
        let told_so = subst (λ (x : Outcome). GrowsAsToldBy old x new) t.told by_note in
        let one = grown_one t.report.note (length (accepted_by old) + 1) (accepted_by old) (accepted_by new) tells told_so in
        let now : AtHub sound'.links.net.hub ≡ AtHub (hub_pumped leaves Works hub).after =
        sym (hub_of new sound' t.after (after_at promised old.net _ o new.net t)) ∙ a.after ∙ left in
        let hub' : sound'.links.net.hub ≡ (hub_pumped leaves Works hub).after = cc in
        let kept : sound'.links.net.hub.kept ≡ hub_folded hub.kept (Accept (own change)) =
        ap (λ (h : Hub). h.kept) hub' ∙ pump_keeps leaves hub change rest (note_of a.answer.note) asks takes' says in (
          has,
          last_is hub.kept sound'.links.net.hub.kept old.links.hub.kept new.links.hub.kept one.0 (own change) sound.links.stands.hub.kept
              sound'.links.stands.hub.kept sound.links.sound.hub.kept.floor kept one.1,
        )

    by : (r : Option Bot) → slice_get old.net.bots 0 ≡ r → waiting_at r ≡ change ∷ rest → Comes promised old.net (told_at old.net 0 Pump) o new.net
        → Accepted
    by None here waits c = cc
    by (Some b) here waits c =
        let there = is_bot-at old.net 0 b here in
        let told : told_at old.net 0 Pump ≡ part_at old.net 0 Pump = rw there refl in
        let done_so = done_by promised old.net 0 Pump b o new.net here
        (subst (λ (r : Result Part Outcome). Comes promised old.net r o new.net) told c) done in
        served b here done_so.taken done_so.same done_so.done waits
