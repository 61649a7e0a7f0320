-- What a link writes into its journal reads as the state that the link then has.
use Rattle.std.proofs.Common.{◌≡◌, ◌<◌, ◌≤◌, ℕ, zero, suc, ◌+◌, ◌==◌, nat_le, nat_lt, Bool, true, false, if◌then◌else◌, List, [], ◌∷◌, ◌++◌, length, slice_get, length-set, Option, None, Some, is_none, is_some, refl, ap, sym, subst, ◌∙◌, arith, eq-eqb}
use Rattle.std.proofs.lemmas.Bool.{ne_eqb, lt-ltb, le-leb}
use Rattle.std.proofs.lemmas.List.{append-nil}
use Rattle.std.specs.List.{list_all}
use Rattle.std.specs.Option.{option_map}
use Rattle.userfile.specs.Records.{Records}
use Rattle.userfile.specs.Together.{AreSound}
use Rattle.userfile.specs.declared.error.ChangeFault.{ChangeFault}
use Rattle.userfile.proofs.SoundLemmas.{changed-sound}
use Rattle.userfile.proofs.RepeatLemmas.{and_both}
use Rattle.botjournal.specs.declared.reply.Verdict.{Verdict}
use Rattle.botjournal.specs.declared.entry.Entry.{Entry}
use Rattle.botjournal.specs.declared.entry.Entry.TheVariants.{Settled, ReqDone}
use Rattle.botjournal.specs.declared.reply.Reply.{Reply}
use Rattle.botjournal.specs.Contents.{Contents, rebased}
use Rattle.protocol.specs.Numbers.{item_at}
use Rattle.protocol.specs.Snapshots.{items_of, records_from}
use Rattle.protocol.specs.HubRules.{HubState, HubRecord, Accept, Settle, Rebase, AreInTurn, last_request, kept_in, next_number, with_next, with_reply, hub_folded}
use Rattle.protocol.specs.LeafRules.{LeafState, LeafRecord, Apply, Out, Done, Install, Compact, leaf_folded}
use Rattle.protocol.specs.Journals.{read_next, reads, stand_together, replies_among, replies_of, replies_in, hub_of, hub_base, is_to_leaf, is_hub_base, is_next_of, hub_record, hub_meaning, hub_written, HubMay, AreTo, IsHubState, leaf_of, leaf_base, is_leaf_base, leaf_record, leaf_meaning, leaf_written, LeafMay, IsLeafState}
use Rattle.protocol.proofs.Lists.{set-elim}
use Rattle.protocol.proofs.Replies.{with_next-all, with_next-in_turn}
use Rattle.protocol.proofs.Requests.{out-next, out-without}
use Rattle.protocol.proofs.Snapshots.{records_from-items}

-- ---- one entry more

reads-last : {Kept Record : Type 0} (record_of : Kept → Entry → Option Record) (folded : Kept → Record → Kept) (start : Option Kept)
    (entries : List Entry) (entry : Entry)
    → reads record_of folded start (entries ++ entry ∷ []) ≡ read_next record_of folded (reads record_of folded start entries) entry
reads-last record_of folded start [] entry = refl
reads-last record_of folded start (first ∷ entries) entry =
    reads-last record_of folded (read_next record_of folded start first) entries entry

-- an entry that is a record of what was read
reads-added : {Kept Record : Type 0} (record_of : Kept → Entry → Option Record) (folded : Kept → Record → Kept) (start : Option Kept)
    (entries : List Entry) (entry : Entry) (kept : Kept) (rec : Record)
    → reads record_of folded start entries ≡ Some kept → record_of kept entry ≡ Some rec
    → reads record_of folded start (entries ++ entry ∷ []) ≡ Some (folded kept rec)
reads-added record_of folded start entries entry kept rec read is =
    reads-last record_of folded start entries entry ∙ ap (λ k. read_next record_of folded k entry) read ∙ ap (option_map (folded kept)) is

-- the records of a userfile that are written one by one stand together
together_back : (held : Records) → AreSound held → stand_together (records_from (items_of held)) ≡ true
together_back held sound = ap stand_together (records_from-items held) ∙ ap (λ (o : Option ChangeFault). is_none o) sound.together

-- ---- places of replies

-- those to a leaf, of replies before others
among-append : (leaf : ℕ) (kept others : List Reply)
    → replies_among leaf (kept ++ others) ≡ replies_among leaf kept ++ replies_among leaf others
among-append leaf [] others = refl
among-append leaf (reply ∷ kept) others = by (reply.leaf == leaf) (among-append leaf kept others)
  where
    by : (b : Bool) → replies_among leaf (kept ++ others) ≡ replies_among leaf kept ++ replies_among leaf others
        → (if b then reply ∷ replies_among leaf (kept ++ others) else replies_among leaf (kept ++ others))
        ≡ (if b then reply ∷ replies_among leaf kept else replies_among leaf kept) ++ replies_among leaf others
    by true rest = ap (λ l. reply ∷ l) rest
    by false rest = rest

-- all of them, where all are to it
among-all : (leaf : ℕ) (kept : List Reply) → AreTo leaf kept → replies_among leaf kept ≡ kept
among-all leaf [] to = refl
among-all leaf (reply ∷ kept) to = rw (eq-eqb reply.leaf leaf to.0) (ap (λ l. reply ∷ l) (among-all leaf kept to.1))

-- none of them, where all are to another
among-none : (leaf other : ℕ) (kept : List Reply) → (other ≡ leaf → ⊥) → AreTo other kept → replies_among leaf kept ≡ []
among-none leaf other [] apart to = refl
among-none leaf other (reply ∷ kept) apart to =
    rw (ne_eqb reply.leaf leaf (λ same. apart (sym to.0 ∙ same))) (among-none leaf other kept apart to.1)

abbrev ArePlaced : ℕ → List (List Reply) → Type 0
ArePlaced first held = (place : ℕ) (kept : List Reply) → slice_get held place ≡ Some kept → AreTo (first + place) kept

placed-first : (first : ℕ) (kept : List Reply) (held : List (List Reply)) → ArePlaced first (kept ∷ held) → AreTo first kept
placed-first first kept held placed =
    let same : first + 0 ≡ first = omega arith in subst (λ leaf. AreTo leaf kept) same (placed 0 kept refl)

placed-rest : (first : ℕ) (one : List Reply) (held : List (List Reply)) → ArePlaced first (one ∷ held)
    → ArePlaced (first + 1) held
placed-rest first one held placed place kept at =
    let same : first + suc place ≡ first + 1 + place = omega arith in
    subst (λ leaf. AreTo leaf kept) same (placed (suc place) kept at)

-- none to a leaf before the first
none_among : (leaf first : ℕ) (held : List (List Reply)) → leaf < first → ArePlaced first held
    → replies_among leaf (replies_in held) ≡ []
none_among leaf first [] before placed = refl
none_among leaf first (kept ∷ held) before placed =
    among-append leaf kept (replies_in held)
    ∙ ap (λ l. l ++ replies_among leaf (replies_in held))
    (among-none leaf first kept (λ same. absurd (omega (arith, same, before))) (placed-first first kept held placed))
    ∙ none_among leaf (first + 1) held (omega (arith, before)) (placed-rest first kept held placed)

-- replies to a leaf before the first make no difference
replies_of-before : (first count leaf : ℕ) (kept others : List Reply) → leaf < first → AreTo leaf kept
    → replies_of first count (kept ++ others) ≡ replies_of first count others
replies_of-before first zero leaf kept others before to = refl
replies_of-before first (suc count) leaf kept others before to =
    ap (λ l. l ∷ replies_of (first + 1) count (kept ++ others))
    (among-append first kept others
    ∙ ap (λ l. l ++ replies_among first others) (among-none first leaf kept (λ same. absurd (omega (arith, same, before))) to))
    ∙ ap (λ l. replies_among first others ∷ l) (replies_of-before (first + 1) count leaf kept others (omega (arith, before)) to)

-- each at its leaf's place: they are read back so
replies_back : (first : ℕ) (held : List (List Reply)) → ArePlaced first held
    → replies_of first (length held) (replies_in held) ≡ held
replies_back first [] placed = refl
replies_back first (kept ∷ held) placed =
    let here = placed-first first kept held placed in
    let rest = placed-rest first kept held placed in
    let mine : replies_among first (kept ++ replies_in held) ≡ kept =
    among-append first kept (replies_in held)
    ∙ ap (λ l. l ++ replies_among first (replies_in held)) (among-all first kept here)
    ∙ ap (λ l. kept ++ l) (none_among first (first + 1) held (omega arith) rest)
    ∙ append-nil kept in
    ap (λ l. l ∷ replies_of (first + 1) (length held) (kept ++ replies_in held)) mine
    ∙ ap (λ l. kept ∷ l)
    (replies_of-before (first + 1) (length held) first kept (replies_in held) (omega arith) here ∙ replies_back (first + 1) held rest)

-- ---- the hub

-- replies to a leaf that has a place, before others to such leaves
within-append : (leaf leaves : ℕ) (kept others : List Reply) → 0 < leaf → leaf ≤ leaves → AreTo leaf kept
    → list_all (is_to_leaf leaves) others ≡ true → list_all (is_to_leaf leaves) (kept ++ others) ≡ true
within-append leaf leaves [] others above below to rest = rest
within-append leaf leaves (reply ∷ kept) others above below to rest =
    let one : nat_lt 0 reply.leaf ≡ true = lt-ltb 0 reply.leaf (omega (arith, to.0, above)) in
    let within : nat_le reply.leaf leaves ≡ true = le-leb reply.leaf leaves (omega (arith, to.0, below)) in
    and_both (and_both one within) (within-append leaf leaves kept others above below to.1 rest)

-- each reply is to a leaf that has a place
all_within : (first : ℕ) (held : List (List Reply)) (leaves : ℕ) → 0 < first → ArePlaced first held
    → first + length held ≤ leaves + 1 → list_all (is_to_leaf leaves) (replies_in held) ≡ true
all_within first [] leaves from placed few = refl
all_within first (kept ∷ held) leaves from placed few =
    within-append first leaves kept (replies_in held) from (omega (arith, few)) (placed-first first kept held placed)
    (all_within (first + 1) held leaves (omega arith) (placed-rest first kept held placed) (omega (arith, few)))

pub hub_reads_back : (leaves : ℕ) (contents : Contents) (hub : HubState) (rec : HubRecord)
    → hub_meaning leaves contents ≡ Some hub → hub.generation ≡ contents.generation
    → IsHubState leaves hub → HubMay hub rec → hub_meaning leaves (hub_written contents hub rec) ≡ Some (hub_folded hub rec)
hub_reads_back leaves contents hub rec means generation is may = by (is_hub_base leaves contents.base) refl means rec may
  where
    start : Option HubState
    start = Some (hub_of leaves contents.generation contents.base)

    by : (b : Bool) → is_hub_base leaves contents.base ≡ b
        → (if b then reads hub_record hub_folded start contents.entries else None) ≡ Some hub
        → (rec : HubRecord) → HubMay hub rec → hub_meaning leaves (hub_written contents hub rec) ≡ Some (hub_folded hub rec)
    by false e means rec may = cc
    by true e means (Accept entry) may =
        rw e
        (reads-added hub_record hub_folded start contents.entries _ hub (Accept entry) means (rw (may.0, may.1.0, may.1.1) refl))
    by true e means (Settle leaf fault) may =
        rw e (reads-added hub_record hub_folded start contents.entries _ hub (Settle leaf fault) means (settles leaf fault may))
      where
        settled : (o : Option (List Reply)) → is_some o ≡ true → is_next_of o (next_number o) ≡ true
        settled None some = cc
        settled (Some kept) some = eq-eqb (last_request kept + 1) (last_request kept + 1) refl

        settles : (leaf : ℕ) (fault : _) → is_some (item_at hub.replies leaf) ≡ true
            → hub_record hub (Settled leaf (next_number (item_at hub.replies leaf)) fault) ≡ Some (Settle leaf fault)
        settles leaf fault some = rw (settled (item_at hub.replies leaf) some) refl
    by true e means Rebase may = rebases
      where
        placed : ArePlaced 1 hub.replies
        placed place kept at =
            let same : suc place ≡ 1 + place = omega arith in subst (λ leaf. AreTo leaf kept) same (is.placed place kept at)

        good : is_hub_base leaves (hub_base hub) ≡ true
        good = rw (all_within 1 hub.replies leaves (omega arith) placed (omega (arith, is.places))) (together_back hub.records is.records)

        back : replies_of 1 leaves (replies_in hub.replies) ≡ hub.replies
        back = ap (λ n. replies_of 1 n (replies_in hub.replies)) (sym is.places) ∙ replies_back 1 hub.replies placed

        rebases : hub_meaning leaves (rebased (hub_base hub) contents) ≡ Some (hub_folded hub Rebase)
        rebases = rw (good, back, records_from-items hub.records, ← generation) refl

-- ---- one more reply

with_reply-places : (replies : List (List Reply)) (origin : ℕ) (answer : Verdict)
    → length (with_reply replies origin answer) ≡ length replies
with_reply-places replies zero answer = refl
with_reply-places replies (suc place) answer = length-set replies place _

-- what holds of the replies at each place, and with the next one
with_reply-each : (P : ℕ → List Reply → Type 0) (replies : List (List Reply)) (origin : ℕ) (answer : Verdict)
    → ((leaf : ℕ) (kept : List Reply) → P leaf kept → P leaf (with_next leaf answer kept))
    → ((place : ℕ) (kept : List Reply) → slice_get replies place ≡ Some kept → P (suc place) kept)
    → (place : ℕ) (kept : List Reply) → slice_get (with_reply replies origin answer) place ≡ Some kept → P (suc place) kept
with_reply-each P replies zero answer next each = each
with_reply-each P replies (suc k) answer next each = λ place kept at.
    set-elim (λ leaf (held : List Reply) (none : ℕ). P leaf held) replies (λ leaf. 0) k _ 0
    (λ was e.
    subst (λ (o : Option (List Reply)). P (suc k) (with_next (suc k) answer (kept_in o))) (sym e) (next (suc k) was (each k was e)))
    each place kept at

with_next-to : (answer : Verdict) (leaf : ℕ) (kept : List Reply) → AreTo leaf kept → AreTo leaf (with_next leaf answer kept)
with_next-to answer leaf kept to = with_next-all (λ (reply : Reply). reply.leaf ≡ leaf) leaf answer kept to refl

-- a hub's state stays one
pub hub_state_kept : (leaves : ℕ) (hub : HubState) (rec : HubRecord) → IsHubState leaves hub → HubMay hub rec
    → IsHubState leaves (hub_folded hub rec)
hub_state_kept leaves hub (Accept entry) is may = record {
  places = with_reply-places hub.replies entry.origin _ ∙ is.places;
  placed = with_reply-each AreTo hub.replies entry.origin _ (with_next-to _) is.placed;
  in_turn =
      with_reply-each (λ leaf kept. AreInTurn kept) hub.replies entry.origin _ (λ leaf kept turn. with_next-in_turn leaf _ kept turn) is.in_turn;
  records = changed-sound hub.records entry.change is.records may.0;
}
hub_state_kept leaves hub (Settle leaf fault) is may = record {
  places = with_reply-places hub.replies leaf _ ∙ is.places;
  placed = with_reply-each AreTo hub.replies leaf _ (with_next-to _) is.placed;
  in_turn = with_reply-each (λ leaf kept. AreInTurn kept) hub.replies leaf _ (λ leaf kept turn. with_next-in_turn leaf _ kept turn) is.in_turn;
  records = is.records;
}
hub_state_kept leaves hub Rebase is may =
    record { places = is.places; placed = is.placed; in_turn = is.in_turn; records = is.records }

-- ---- a leaf

pub leaf_reads_back : (number : ℕ) (contents : Contents) (leaf : LeafState) (rec : LeafRecord)
    → leaf_meaning number contents ≡ Some leaf → leaf.generation ≡ contents.generation
    → AreSound leaf.records → LeafMay leaf rec → leaf_meaning number (leaf_written number contents leaf rec) ≡ Some (leaf_folded leaf rec)
leaf_reads_back number contents leaf rec means generation sound may = by (is_leaf_base number contents.base) refl means rec may
  where
    start : Option LeafState
    start = Some (leaf_of contents.generation contents.base)

    same : (n : ℕ) → (n == n) ≡ true
    same n = eq-eqb n n refl

    -- the state alone is this leaf's base
    good : (state : LeafState) → AreSound state.records → is_leaf_base number (leaf_base number state) ≡ true
    good state whole = rw (same number) (together_back state.records whole)

    by : (b : Bool) → is_leaf_base number contents.base ≡ b
        → (if b then reads leaf_record leaf_folded start contents.entries else None) ≡ Some leaf
        → (rec : LeafRecord) → LeafMay leaf rec → leaf_meaning number (leaf_written number contents leaf rec) ≡ Some (leaf_folded leaf rec)
    by false e means rec may = cc
    by true e means (Apply change) may =
        rw e
        (reads-added leaf_record leaf_folded start contents.entries _ leaf (Apply change) means (rw (may, same (leaf.version + 1)) refl))
    by true e means (Out change) may =
        rw e
        (reads-added leaf_record leaf_folded start contents.entries _ leaf (Out change) means (rw (may, same (leaf.last + 1)) refl))
    by true e means (Done request) may =
        rw e
        (reads-added leaf_record leaf_folded start contents.entries (ReqDone request) leaf (Done request) means (rw may refl))
    by true e means (Install version records) may =
        rw (good (record leaf { version = version; records = records }) may, records_from-items records, ← generation) refl
    by true e means Compact may = rw (good leaf sound, records_from-items leaf.records, ← generation) refl

-- a leaf's state stays one
pub leaf_state_kept : (leaf : LeafState) (rec : LeafRecord) → IsLeafState leaf → LeafMay leaf rec → IsLeafState (leaf_folded leaf rec)
leaf_state_kept leaf (Apply change) is may = record { records = changed-sound leaf.records change is.records may; out = is.out }
leaf_state_kept leaf (Out change) is may = record { records = is.records; out = out-next leaf.last leaf.out change may is.out }
leaf_state_kept leaf (Done request) is may = record { records = is.records; out = out-without leaf.last request leaf.out is.out }
leaf_state_kept leaf (Install version records) is may = record { records = may; out = is.out }
leaf_state_kept leaf Compact is may = record { records = is.records; out = is.out }
