-- Entries folded in, and an end on a base alone.
use Rattle.std.proofs.Common.{◌≡◌, ◌==◌, ℕ, ◌+◌, Bool, true, false, if◌then◌else◌, List, [], ◌∷◌, ◌++◌, length, Option, None, Some, Err, refl, ap, sym, subst, ◌∙◌, eq-eqb}
use Rattle.std.specs.List.{list_all}
use Rattle.std.specs.Option.{option_map}
use Rattle.bytetext.specs.declared.failure.Failure.{Failure}
use Rattle.bytetext.specs.declared.failure.Failure.TheVariants.{Refused, NoMemory}
use Rattle.userfile.specs.Records.{Records, no_records}
use Rattle.userfile.specs.Apply.{changed}
use Rattle.userfile.specs.declared.error.ChangeFault.{ChangeFault}
use Rattle.usercodec.specs.declared.records.Record.{Record as UserfileRecord}
use Rattle.botjournal.specs.declared.base.Base.{Base}
use Rattle.botjournal.specs.declared.entry.Entry.{Entry}
use Rattle.botjournal.specs.declared.reply.Reply.{Reply}
use Rattle.protocol.specs.Snapshots.{records_from}
use Rattle.botjournal.specs.declared.reply.Verdict.TheVariants.{Taken, Refused as refused_request}
use Rattle.protocol.specs.Packets.{AcceptedChange}
use Rattle.protocol.specs.HubRules.{HubState, Accept, Settle, version_of, with_reply, hub_folded}
use Rattle.protocol.specs.Journals.{read_next, reads, stand_together, record_if, replies_of, hub_of, is_to_leaf, is_hub_base, hub_record, hub_meaning, leaf_of, is_leaf_base, leaf_record, leaf_meaning}
use Rattle.protocol.specs.LeafRules.{LeafState, leaf_folded}
use Rattle.botjournal.specs.declared.request.Request.{Request}
use Rattle.userfile.proofs.RepeatLemmas.{and_true}
use Rattle.protocol.specs.Network.{new_hub}
use Rattle.sharelink.specs.States.{Takes, TakesAll, Reads, sound_records, hub_on, is_hubs, leaf_on}
use Rattle.sharelink.specs.declared.state_fault.StateFault.{StateFault}
use Rattle.sharelink.proofs.Lists.{replies_of-none}

-- a record that may be folded in
pub folds : {Kept Record : Type 0} (folded : Kept → Record → Kept) (old new : Kept) (may : Bool) (rec : Record) → may ≡ true
    → new ≡ folded old rec → option_map (folded old) (record_if may rec) ≡ Some new
folds folded old new may rec is same = rw is (ap (λ kept. Some kept) (sym same))

-- records that stand together, and what they are
pub sound-is : (items : List UserfileRecord) (held : Records) → sound_records items ≡ Some held
    → (stand_together (records_from items) ≡ true) × (records_from items ≡ held)
sound-is items held e = by (stand_together (records_from items)) refl e
  where
    by : (b : Bool) → stand_together (records_from items) ≡ b → record_if b (records_from items) ≡ Some held
        → (stand_together (records_from items) ≡ true) × (records_from items ≡ held)
    by true is e = (is, cc)
    by false is e = absurd (cc)

-- a hub on a base
pub hub_on-is : (leaves generation : ℕ) (base : Base) (tail : List AcceptedChange) (held : Records) (replies : List (List Reply))
    → is_hubs leaves base ≡ true → tail ≡ [] → sound_records base.records ≡ Some held
    → replies ≡ replies_of 1 leaves base.replies
    → hub_on leaves generation base ≡ Some (record { floor = base.version; tail = tail; records = held; replies = replies; generation = generation })
hub_on-is leaves generation base tail held replies hubs empty sound placed =
    let stands = sound-is base.records held sound in
    let both : ((base.bot == 0) ≡ true) × (list_all (is_to_leaf leaves) base.replies ≡ true) = and_true hubs in
    rw (empty, both.0, both.1, stands.0)
    (ap (λ records. Some (record { floor = base.version; tail = []; records = records; replies = replies_of 1 leaves base.replies; generation = generation }))
    stands.1 ∙ ap (λ l. Some (record { floor = base.version; tail = []; records = held; replies = l; generation = generation })) (sym placed))

-- an accepted change more
pub accepted-is : (hub : HubState) (floor generation : ℕ) (tail tail_now : List AcceptedChange) (held held_now : Records)
    (replies replies_now : List (List Reply)) (given entry : AcceptedChange) (number : ℕ)
    → record { floor = floor; tail = tail; records = held; replies = replies; generation = generation } ≡ hub
    → given ≡ entry → tail_now ≡ tail ++ given ∷ [] → held_now ≡ changed held given.change
    → replies_now ≡ with_reply replies entry.origin (Taken (number + 1)) → number ≡ version_of hub
    → record { floor = floor; tail = tail_now; records = held_now; replies = replies_now; generation = generation } ≡ hub_folded hub (Accept entry)
accepted-is hub floor generation tail tail_now held held_now replies replies_now given entry number is same pushed made replied at =
    subst (λ (h : HubState). number ≡ version_of h
    → record { floor = floor; tail = tail_now; records = held_now; replies = replies_now; generation = generation } ≡ hub_folded h (Accept entry))
    is (by pushed made replied) at
  where
    by : tail_now ≡ tail ++ given ∷ [] → held_now ≡ changed held given.change → replies_now ≡ with_reply replies entry.origin (Taken (number + 1))
        → number ≡ floor + length tail
        → record { floor = floor; tail = tail_now; records = held_now; replies = replies_now; generation = generation }
        ≡ hub_folded (record { floor = floor; tail = tail; records = held; replies = replies; generation = generation }) (Accept entry)
    by pushed made replied at = rw (pushed, made, replied, at, same) refl

-- a leaf's next request refused
pub settled-is : (hub : HubState) (floor generation : ℕ) (tail : List AcceptedChange) (held : Records)
    (replies replies_now : List (List Reply)) (leaf : ℕ) (fault : ChangeFault)
    → record { floor = floor; tail = tail; records = held; replies = replies; generation = generation } ≡ hub
    → replies_now ≡ with_reply replies leaf (refused_request fault)
    → record { floor = floor; tail = tail; records = held; replies = replies_now; generation = generation } ≡ hub_folded hub (Settle leaf fault)
settled-is hub floor generation tail held replies replies_now leaf fault is replied =
    subst (λ (h : HubState). record { floor = floor; tail = tail; records = held; replies = replies_now; generation = generation }
    ≡ hub_folded h (Settle leaf fault)) is
    (ap (λ l. record { floor = floor; tail = tail; records = held; replies = l; generation = generation }) replied)

-- ---- entries one after another

module _ {Kept Record : Type 0} (record_of : Kept → Entry → Option Record) (folded : Kept → Record → Kept) where
  reads-none : (entries : List Entry) → reads record_of folded None entries ≡ None
  reads-none [] = refl
  reads-none (entry ∷ entries) = reads-none entries

  -- one entry more
  pub reads-more : (old new : Kept) (left rest : List Entry) (entry : Entry) (all : Option Kept) → left ≡ entry ∷ rest
      → read_next record_of folded (Some old) entry ≡ Some new
      → reads record_of folded (Some old) left ≡ all → reads record_of folded (Some new) rest ≡ all
  reads-more old new left rest entry all first took so_far =
      ap (λ k. reads record_of folded k rest) (sym took) ∙ ap (λ l. reads record_of folded (Some old) l) (sym first) ∙ so_far

  -- an entry that is no record
  pub reads-refused : (old : Kept) (left rest : List Entry) (entry : Entry) (all : Option Kept) → left ≡ entry ∷ rest
      → record_of old entry ≡ None → reads record_of folded (Some old) left ≡ all → all ≡ None
  reads-refused old left rest entry all first refused so_far =
      sym so_far ∙ ap (λ l. reads record_of folded (Some old) l) first
      ∙ ap (λ k. reads record_of folded (option_map (folded old) k) rest) refused ∙ reads-none rest

  -- where one is no record, or memory runs out
  pub reads-failed : (start old new last : Kept) (entries left rest : List Entry) (entry : Entry) (error : Failure StateFault)
      → left ≡ entry ∷ rest → Takes record_of folded old entry (Err error) new
      → reads record_of folded (Some old) left ≡ reads record_of folded (Some start) entries
      → TakesAll record_of folded start entries (Err error) last
  reads-failed start old new last entries left rest entry NoMemory first took so_far = tt
  reads-failed start old new last entries left rest entry (Refused fault) first took so_far =
      reads-refused old left rest entry (reads record_of folded (Some start) entries) first took.0 so_far

-- what is made of a start that there is
pub started : {Kept : Type 0} (may : Bool) (start kept : Kept) (rest : Option Kept → Option Kept) → record_if may start ≡ Some kept
    → (if may then rest (Some start) else None) ≡ rest (Some kept)
started true start kept rest is = ap rest is
started false start kept rest is = absurd (cc)

-- a journal that means nothing to the hub that its base makes
pub hub-failed : (leaves layout generation : ℕ) (base : Base) (entries : List Entry) (hub last : HubState) (error : Failure StateFault)
    → hub_on leaves generation base ≡ Some hub → TakesAll hub_record hub_folded hub entries (Err error) last
    → Reads (hub_meaning leaves (record { layout = layout; generation = generation; base = base; entries = entries })) (Err error)
hub-failed leaves layout generation base entries hub last NoMemory on took = tt
hub-failed leaves layout generation base entries hub last (Refused fault) on took =
    started (is_hub_base leaves base) (hub_of leaves generation base) hub (λ start. reads hub_record hub_folded start entries) on ∙ took

pub hub-read : (leaves layout generation : ℕ) (base : Base) (entries : List Entry) (hub last : HubState) → hub_on leaves generation base ≡ Some hub
    → reads hub_record hub_folded (Some hub) entries ≡ Some last
    → hub_meaning leaves (record { layout = layout; generation = generation; base = base; entries = entries }) ≡ Some last
hub-read leaves layout generation base entries hub last on took =
    started (is_hub_base leaves base) (hub_of leaves generation base) hub (λ start. reads hub_record hub_folded start entries) on ∙ took

-- a new hub
pub new_hub-is : (leaves : ℕ) (tail : List AcceptedChange) (held : Records) (replies : List (List Reply)) → tail ≡ [] → held ≡ no_records
    → replies ≡ replies_of 1 leaves []
    → record { floor = 0; tail = tail; records = held; replies = replies; generation = 1 } ≡ (new_hub leaves).kept
new_hub-is leaves tail held replies empty none placed = rw (empty, none, placed, replies_of-none 1 leaves) refl

-- ---- a leaf

pub leaf_on-is : (number generation : ℕ) (base : Base) (held : Records) (out : List Request) → base.bot ≡ number
    → sound_records base.records ≡ Some held → out ≡ base.out
    → leaf_on number generation base
    ≡ Some (record { version = base.version; records = held; last = base.last_request; out = out; generation = generation })
leaf_on-is number generation base held out bot sound same =
    let stands = sound-is base.records held sound in
    rw (bot, eq-eqb number number refl, stands.0)
    (ap (λ records. Some (record { version = base.version; records = records; last = base.last_request; out = base.out; generation = generation })) stands.1
    ∙ ap (λ o. Some (record { version = base.version; records = held; last = base.last_request; out = o; generation = generation })) (sym same))

-- a journal that means nothing to the leaf that its base makes
pub leaf-failed : (number layout generation : ℕ) (base : Base) (entries : List Entry) (leaf last : LeafState) (error : Failure StateFault)
    → leaf_on number generation base ≡ Some leaf → TakesAll leaf_record leaf_folded leaf entries (Err error) last
    → Reads (leaf_meaning number (record { layout = layout; generation = generation; base = base; entries = entries })) (Err error)
leaf-failed number layout generation base entries leaf last NoMemory on took = tt
leaf-failed number layout generation base entries leaf last (Refused fault) on took =
    started (is_leaf_base number base) (leaf_of generation base) leaf (λ start. reads leaf_record leaf_folded start entries) on ∙ took

pub leaf-read : (number layout generation : ℕ) (base : Base) (entries : List Entry) (leaf last : LeafState) → leaf_on number generation base ≡ Some leaf
    → reads leaf_record leaf_folded (Some leaf) entries ≡ Some last
    → leaf_meaning number (record { layout = layout; generation = generation; base = base; entries = entries }) ≡ Some last
leaf-read number layout generation base entries leaf last on took =
    started (is_leaf_base number base) (leaf_of generation base) leaf (λ start. reads leaf_record leaf_folded start entries) on ∙ took
