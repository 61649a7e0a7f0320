-- The laws of an end's state hold for both ends: a journal with one more record means the state with the record folded
-- in, and the result is again a state.
use Rattle.std.proofs.Common.{◌≡◌, ◌==◌, ◌+◌, ◌≤◌, ◌<◌, ℕ, Bool, true, false, nat_lt, if◌then◌else◌, List, [], ◌∷◌, Some, refl, arith, ltb-true}
use Rattle.std.proofs.lemmas.Bool.{and_parts}
use Rattle.std.specs.List.{AllByRecursion}
use Rattle.userfile.specs.declared.change.Change.{Change}
use Rattle.usercodec.specs.Changes.{IsGoodChange}
use Rattle.botjournal.specs.declared.request.Request.{Request}
use Rattle.botjournal.specs.Bases.{IsGoodRequest, AreOut}
use Rattle.botjournal.specs.declared.entry.Entry.{Entry}
use Rattle.botjournal.specs.declared.entry.Entry.TheVariants.{Accepted, Settled, Applied, ReqOut, ReqDone}
use Rattle.botjournal.specs.Contents.{Contents}
use Rattle.botjournal.specs.Ledger.{written}
use Rattle.protocol.specs.HubRules.{HubState, HubRecord, Accept, Settle, Rebase, hub_folded}
use Rattle.protocol.specs.Numbers.{last_number}
use Rattle.protocol.specs.LeafRules.{LeafState, LeafRecord, Apply, Out, Done, Install, Compact, without, has_room, may_go_out, with_request, leaf_folded}
use Rattle.protocol.specs.Journals.{hub_of, is_hub_base, hub_record, hub_meaning, IsHubState, leaf_of, is_leaf_base, leaf_record, leaf_meaning, IsLeafState as IsLeaf}
use Rattle.protocol.proofs.Lists.{all-append}
use Rattle.protocol.proofs.Requests.{out-next, out-without}
use Rattle.protocol.proofs.Journals.{hub_reads_back, hub_state_kept, leaf_reads_back, leaf_state_kept}
use Rattle.sharelink.specs.declared.TheConstants.{MAX_LEAVES}
use Rattle.sharelink.specs.Records.{hub_pending, HubMayWrite, IsLeafState, leaf_pending, LeafMayWrite}
use Rattle.sharelink.specs.Reading.{if-some, all-any, read-well}

-- ---- the hub

-- no entry moves the generation
hub-entry : (generation : ℕ) (hub : HubState) (entry : Entry) (found : HubRecord) → Unit {0} → hub_record hub entry ≡ Some found
    → hub.generation ≡ generation → (hub_folded hub found).generation ≡ generation
hub-entry generation hub (Accepted origin request change) found any is at = rw (← (if-some _ _ found is).1) at
hub-entry generation hub (Settled leaf request fault) found any is at = rw (← (if-some _ _ found is).1) at
hub-entry generation hub (Applied number change) found any is at = absurd (cc)
hub-entry generation hub (ReqOut request change) found any is at = absurd (cc)
hub-entry generation hub (ReqDone request) found any is at = absurd (cc)

-- the state has the journal's generation
pub hub-generation : (leaves : ℕ) (contents : Contents) (hub : HubState) → hub_meaning leaves contents ≡ Some hub
    → hub.generation ≡ contents.generation
hub-generation leaves contents hub means =
    read-well hub_record hub_folded (λ (entry : Entry). Unit {0}) (λ (h : HubState). h.generation ≡ contents.generation)
    (hub-entry contents.generation) (is_hub_base leaves contents.base) (hub_of leaves contents.generation contents.base) hub contents.entries
    (all-any contents.entries) (λ may. refl) means

pub hub_writes : (leaves : ℕ) (contents : Contents) (hub : HubState) (entry : HubRecord) → leaves ≤ MAX_LEAVES → IsHubState leaves hub
    → HubMayWrite hub entry → hub_meaning leaves contents ≡ Some hub
    → hub_meaning leaves (written (hub_pending hub entry) contents) ≡ Some (hub_folded hub entry)
hub_writes leaves contents hub (Accept entry) few is may means =
    hub_reads_back leaves contents hub (Accept entry) means (hub-generation leaves contents hub means) is may
hub_writes leaves contents hub (Settle leaf fault) few is may means =
    hub_reads_back leaves contents hub (Settle leaf fault) means (hub-generation leaves contents hub means) is may.0
hub_writes leaves contents hub Rebase few is may means =
    hub_reads_back leaves contents hub Rebase means (hub-generation leaves contents hub means) is tt

pub hub_stays : (leaves : ℕ) (hub : HubState) (entry : HubRecord) → IsHubState leaves hub → HubMayWrite hub entry
    → IsHubState leaves (hub_folded hub entry)
hub_stays leaves hub (Accept entry) is may = hub_state_kept leaves hub (Accept entry) is may
hub_stays leaves hub (Settle leaf fault) is may = hub_state_kept leaves hub (Settle leaf fault) is may.0
hub_stays leaves hub Rebase is may = hub_state_kept leaves hub Rebase is tt

-- ---- a leaf

leaf-entry : (generation : ℕ) (leaf : LeafState) (entry : Entry) (found : LeafRecord) → Unit {0} → leaf_record leaf entry ≡ Some found
    → leaf.generation ≡ generation → (leaf_folded leaf found).generation ≡ generation
leaf-entry generation leaf (Applied number change) found any is at = rw (← (if-some _ _ found is).1) at
leaf-entry generation leaf (ReqOut request change) found any is at = rw (← (if-some _ _ found is).1) at
leaf-entry generation leaf (ReqDone request) found any is at = rw (← (if-some _ _ found is).1) at
leaf-entry generation leaf (Accepted origin request change) found any is at = absurd (cc)
leaf-entry generation leaf (Settled of request fault) found any is at = absurd (cc)

pub leaf-generation : (number : ℕ) (contents : Contents) (leaf : LeafState) → leaf_meaning number contents ≡ Some leaf
    → leaf.generation ≡ contents.generation
leaf-generation number contents leaf means =
    read-well leaf_record leaf_folded (λ (entry : Entry). Unit {0}) (λ (l : LeafState). l.generation ≡ contents.generation)
    (leaf-entry contents.generation) (is_leaf_base number contents.base) (leaf_of contents.generation contents.base) leaf contents.entries
    (all-any contents.entries) (λ may. refl) means

pub leaf_writes : (number : ℕ) (contents : Contents) (leaf : LeafState) (entry : LeafRecord) → 0 < number → IsLeafState leaf
    → LeafMayWrite leaf entry → leaf_meaning number contents ≡ Some leaf
    → leaf_meaning number (written (leaf_pending number leaf entry) contents) ≡ Some (leaf_folded leaf entry)
leaf_writes number contents leaf (Apply change) above is may means =
    leaf_reads_back number contents leaf (Apply change) means (leaf-generation number contents leaf means) is.records may.0
leaf_writes number contents leaf (Out change) above is may means =
    leaf_reads_back number contents leaf (Out change) means (leaf-generation number contents leaf means) is.records may.0
leaf_writes number contents leaf (Done request) above is may means =
    leaf_reads_back number contents leaf (Done request) means (leaf-generation number contents leaf means) is.records may
leaf_writes number contents leaf (Install version records) above is may means =
    leaf_reads_back number contents leaf (Install version records) means (leaf-generation number contents leaf means) is.records may.0
leaf_writes number contents leaf Compact above is may means =
    leaf_reads_back number contents leaf Compact means (leaf-generation number contents leaf means) is.records tt

-- the outstanding requests, with the next one, and without one
good-without : (number : ℕ) (out : List Request) → AllByRecursion IsGoodRequest out → AllByRecursion IsGoodRequest (without number out)
good-without number [] good = tt
good-without number (request ∷ out) good = by (request.number == number) (good-without number out good.1)
  where
    by : (b : Bool) → AllByRecursion IsGoodRequest (without number out)
        → AllByRecursion IsGoodRequest (if b then out else request ∷ without number out)
    by true rest = good.1
    by false rest = (good.0, rest)

pub AreOut-next : (last : ℕ) (out : List Request) (change : Change) → IsGoodChange change → may_go_out last out ≡ true → AreOut last out
    → AreOut (last + 1) (with_request (last + 1) change out)
AreOut-next last out change good may is =
    let below : last < last_number = ltb-true last last_number (and_parts (nat_lt last last_number) (has_room last out) may).0 in (
      all-append IsGoodRequest out (record { number = last + 1; change = change } ∷ []) is.0 ((omega (arith, below), good), tt),
      out-next last out change may is.1,
    )

pub AreOut-without : (last number : ℕ) (out : List Request) → AreOut last out → AreOut last (without number out)
AreOut-without last number out is = (good-without number out is.0, out-without last number out is.1)

pub leaf_stays : (number : ℕ) (leaf : LeafState) (entry : LeafRecord) → IsLeafState leaf → LeafMayWrite leaf entry
    → IsLeafState (leaf_folded leaf entry)
leaf_stays number leaf (Apply change) is may =
    let was : IsLeaf leaf = record { records = is.records; out = is.out.1 } in
    record { records = (leaf_state_kept leaf (Apply change) was may.0).records; out = is.out }
leaf_stays number leaf (Out change) is may =
    record { records = is.records; out = AreOut-next leaf.last leaf.out change may.1 may.0 is.out }
leaf_stays number leaf (Done request) is may =
    record { records = is.records; out = AreOut-without leaf.last request leaf.out is.out }
leaf_stays number leaf (Install version records) is may = record { records = may.0; out = is.out }
leaf_stays number leaf Compact is may = record { records = is.records; out = is.out }
