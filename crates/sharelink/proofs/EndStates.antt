-- What the journal of an end says of its state.
use Rattle.std.proofs.Common.{◌≡◌, ◌≢◌, ◌==◌, ◌<◌, ◌+◌, ◌-◌, ◌^◌, ℕ, Bool, true, false, nat_lt, Some, refl, arith, ltb, ltb-true, ltb-false, lt-ltb}
use Rattle.std.proofs.lemmas.Bool.{and_parts}
use Rattle.std.specs.List.{AllByRecursion}
use Rattle.botjournal.specs.Bases.{IsGoodBase, AreOut}
use Rattle.botjournal.specs.Entries.{IsGoodEntry}
use Rattle.botjournal.specs.declared.entry.Entry.{Entry}
use Rattle.botjournal.specs.declared.entry.Entry.TheVariants.{Accepted, Settled, Applied, ReqOut, ReqDone}
use Rattle.botjournal.specs.Contents.{Contents}
use Rattle.protocol.specs.Numbers.{last_number}
use Rattle.protocol.specs.LeafRules.{LeafState, LeafRecord, may_go_out, leaf_folded}
use Rattle.protocol.specs.Journals.{leaf_of, is_leaf_base, leaf_record, leaf_meaning}
use Rattle.sharelink.specs.Reading.{if-some, read-well}
use Rattle.sharelink.specs.EndLaws.{AreOut-next, AreOut-without}

-- the journal has generations left where the state has
pub never-spent : (kept generation : ℕ) → kept ≡ generation → nat_lt kept last_number ≡ true → generation ≢ 2 ^ 32 - 1
never-spent kept generation same left = λ spent. omega (arith, ltb-true kept last_number left, same, spent)

-- and the other way
pub has-next : (kept generation seen : ℕ) → kept ≡ generation → seen ≡ kept → seen < 2 ^ 32 → generation ≢ 2 ^ 32 - 1
    → nat_lt kept last_number ≡ true
has-next kept generation seen same is fits left = lt-ltb kept last_number (by (ltb kept last_number) refl)
  where
    by : (b : Bool) → ltb kept last_number ≡ b → kept < last_number
    by true below = ltb-true kept last_number below
    by false above = absurd (left (omega (arith, ltb-false kept last_number above, same, is, fits)))

-- a base may have the requests that are out where the journal's base and entries have spellings
abbrev MayBeOut : LeafState → Type 0
MayBeOut leaf = AreOut leaf.last leaf.out

leaf-out : (leaf : LeafState) (entry : Entry) (found : LeafRecord) → IsGoodEntry entry → leaf_record leaf entry ≡ Some found
    → MayBeOut leaf → MayBeOut (leaf_folded leaf found)
leaf-out leaf (Applied number change) found good is out = rw (← (if-some _ _ found is).1) out
leaf-out leaf (ReqOut request change) found good is out =
    let parts = if-some _ _ found is in
    let may = (and_parts (may_go_out leaf.last leaf.out) (request == (leaf.last + 1)) parts.0).0 in
    rw (← parts.1) (AreOut-next leaf.last leaf.out change good.1 may out)
leaf-out leaf (ReqDone request) found good is out =
    rw (← (if-some _ _ found is).1) (AreOut-without leaf.last request leaf.out out)
leaf-out leaf (Accepted origin request change) found good is out = absurd (cc)
leaf-out leaf (Settled of request fault) found good is out = absurd (cc)

pub leaf_out-good : (number : ℕ) (contents : Contents) (leaf : LeafState) → IsGoodBase contents.base → AllByRecursion IsGoodEntry contents.entries
    → leaf_meaning number contents ≡ Some leaf → AreOut leaf.last leaf.out
leaf_out-good number contents leaf good each means =
    read-well leaf_record leaf_folded IsGoodEntry MayBeOut leaf-out (is_leaf_base number contents.base)
    (leaf_of contents.generation contents.base) leaf contents.entries each (λ may. good.out) means
