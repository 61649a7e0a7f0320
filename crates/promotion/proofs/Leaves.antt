-- How a stopped leaf's journal is read: the leaf writes its state alone, which keeps the same.
use Rattle.std.proofs.Common.{◌≡◌, ◌<◌, ◌∙◌, inl, inr, ◌⊎◌, ℕ, zero, suc, Bool, true, false, nat_lt, List, [], Option, None, Some, option_map, if◌then◌else◌, refl, sym, ap, subst, arith}
use Rattle.std.proofs.lemmas.Bool.{and_parts, eqb-true}
use Rattle.botjournal.specs.declared.base.Base.{Base}
use Rattle.botjournal.specs.declared.entry.Entry.{Entry}
use Rattle.botjournal.specs.declared.TheConstants.{LAYOUT}
use Rattle.botjournal.specs.Contents.{Contents, meaning}
use Rattle.protocol.specs.Numbers.{last_number}
use Rattle.protocol.specs.Snapshots.{records_from}
use Rattle.protocol.specs.Bots.{Works, Counts, journals, refused}
use Rattle.protocol.specs.Notes.Note.{Compacted}
use Rattle.protocol.specs.Notes.LinkFault.{NumbersSpent}
use Rattle.protocol.specs.LeafRules.{Leaf, LeafState, Compact, leaf_folded, no_loose}
use Rattle.protocol.specs.Network.{Restart}
use Rattle.protocol.specs.Journals.{reads, leaf_of, is_leaf_base, leaf_record, leaf_meaning, stand_together}
use Rattle.protocol.specs.Ends.{End, AtLeaf, end_did}
use Rattle.sharelink.specs.declared.TheConstants.{MAX_LEAVES}
use Rattle.sharelink.specs.Reading.{if-some}
use Rattle.sharelink.specs.Kept.{IsCurrent}
use Rattle.sharelink.specs.StateOpening.{Keeps}
use Rattle.sharelink.specs.BotLinks.{BotEnd, MeanEnd, leaf_at_rest, end_meaning, compacted, RenewsEnd}
use Rattle.sharelink.specs.BotOpening.{IsKeptOf}
use Rattle.promotion.specs.Leaves.{HasKept, IsLeafOf, IsAlike, MeanAlike, IsAlone}

-- ---- a base alone

-- a base on which a leaf stands, without entries
record IsOn (number : ℕ) (base : Base) (leaf : LeafState) : Type 0 where
  numbered : base.bot ≡ number
  together : stand_together (records_from base.records) ≡ true
  kept : HasKept leaf base

on-base : (number generation : ℕ) (base : Base) (leaf : LeafState)
    → (if is_leaf_base number base then Some (leaf_of generation base) else None) ≡ Some leaf → IsOn number base leaf
on-base number generation base leaf means =
    let parts = if-some (is_leaf_base number base) (leaf_of generation base) leaf means in
    let both = and_parts _ (stand_together (records_from base.records)) parts.0 in
    record {
      numbered = eqb-true base.bot number both.0;
      together = both.1;
      kept = record {
        version = ap (λ (l : LeafState). l.version) parts.1;
        records = ap (λ (l : LeafState). l.records) parts.1;
        out = ap (λ (l : LeafState). l.out) parts.1;
      };
    }

on-alone : (number : ℕ) (contents : Contents) (base : Base) (leaf : LeafState) → contents.base ≡ base → contents.entries ≡ []
    → leaf_meaning number contents ≡ Some leaf → IsOn number base leaf
on-alone number contents base leaf has none means =
    let based = subst (λ (b : Base). (if is_leaf_base number b
    then reads leaf_record leaf_folded (Some (leaf_of contents.generation b)) contents.entries else None) ≡ Some leaf) has means in
    on-base number contents.generation base leaf (subst (λ (es : List Entry). (if is_leaf_base number base
    then reads leaf_record leaf_folded (Some (leaf_of contents.generation base)) es else None) ≡ Some leaf) none based)

pub leaf_of_alone : (number : ℕ) (x y x' y' : List ℕ) (base : Base) → 0 < number → MeanAlike number x y x' y' → IsAlone x' y' base
    → IsLeafOf x y base
leaf_of_alone number x y x' y' base above m alone =
    let same : m.after ≡ alone.contents = cc in
    let on = on-alone number alone.contents base m.other alone.has alone.no_entries
    (subst (λ (c : Contents). leaf_meaning number c ≡ Some m.other) same m.means) in
    record {
      contents = m.before;
      found = m.found_before;
      current = m.current;
      leaf = m.one;
      means = subst (λ n. leaf_meaning n m.before ≡ Some m.one) (sym on.numbered) m.means_before;
      numbered = subst (λ n. 0 < n) (sym on.numbered) above;
      kept = record {
        version = on.kept.version ∙ m.alike.version;
        records = on.kept.records ∙ m.alike.records;
        out = on.kept.out ∙ m.alike.out;
      };
      together = on.together;
    }

-- ---- the state alone is written

-- a leaf's end whose journal was opened
record IsAt (found : Option LeafState) (end : End) : Type 0 where
  leaf : LeafState
  is : found ≡ Some leaf
  at : end ≡ leaf_at_rest leaf

leaf-at : (found : Option LeafState) (end : End) → option_map leaf_at_rest found ≡ Some end → IsAt found end
leaf-at None end same = absurd (cc)
leaf-at (Some leaf) end same = record { leaf = leaf; is = refl; at = cc }

kept-in : LeafState → End → LeafState
kept-in other (AtLeaf leaf) = leaf.kept
kept-in other end = other

abbrev resting : LeafState → Leaf
resting kept = record { kept = kept; loose = no_loose; down = false; doubt = None }

-- a leaf's end at rest, which keeps the same as this one
record RestsAs (one : LeafState) (end : End) : Type 0 where
  other : LeafState
  at : end ≡ leaf_at_rest other
  alike : IsAlike one other

rests : (one : LeafState) (room : Bool)
    → RestsAs one (AtLeaf (if room then journals leaf_folded Works (resting one) Compact Compacted [] no_loose
    else refused NumbersSpent (resting one)).after)
rests one true = record { other = leaf_folded one Compact; at = refl; alike = record { version = refl; records = refl; out = refl } }
rests one false = record { other = one; at = refl; alike = record { version = refl; records = refl; out = refl } }

compacts : (leaves number : ℕ) (one : LeafState) → RestsAs one (compacted number leaves (leaf_at_rest one))
compacts leaves number one = rests one (nat_lt one.generation last_number)

-- what a restart finds of a leaf's end at rest
restarts : (leaves number : ℕ) (other : LeafState) (found : Option End)
    → (found ≡ Some (end_did leaves number Works (leaf_at_rest other) Restart).after)
    ⊎ (found ≡ Some (end_did leaves number Counts (leaf_at_rest other) Restart).after) → found ≡ Some (leaf_at_rest other)
restarts leaves number other found (inl is) = is
restarts leaves number other found (inr is) = is

current-of : (given : Option Contents) (contents : Contents) → given ≡ Some contents → IsCurrent given → contents.layout ≡ LAYOUT
current-of None contents same current = absurd (cc)
current-of (Some is) contents same current =
    let one : is ≡ contents = cc in
    subst (λ (c : Contents). c.layout ≡ LAYOUT) one current

kept-end : (contents : Contents) (leaves number : ℕ) (before end : End) → contents.layout ≡ LAYOUT
    → Keeps (end_meaning number leaves) (RenewsEnd number leaves) contents before end → end ≡ before
kept-end contents leaves number before end current (inl same) = same.1
kept-end contents leaves number before end current (inr anew) = absurd (anew.0 current)

alike-from : (place leaves : ℕ) (x y x' y' : List ℕ) (old new : End) → IsCurrent (meaning x y)
    → IsKeptOf (suc place) leaves (meaning x y) old → new ≡ compacted (suc place) leaves old
    → (contents : Contents) → meaning x' y' ≡ Some contents
    → (end_meaning (suc place) leaves contents ≡ Some (end_did leaves (suc place) Works new Restart).after)
    ⊎ (end_meaning (suc place) leaves contents ≡ Some (end_did leaves (suc place) Counts new Restart).after)
    → MeanAlike (suc place) x y x' y'
unfolding compacts kept-in leaf-at
alike-from place leaves x y x' y' old new current kept becomes contents found means =
    let layout = current-of (meaning x y) kept.contents kept.found current in
    let same = kept-end kept.contents leaves (suc place) kept.before old layout kept.keeps in
    let before = leaf-at (leaf_meaning (suc place) kept.contents) old
    (subst (λ (e : End). end_meaning (suc place) leaves kept.contents ≡ Some e) (sym same) kept.means) in
    let rest = compacts leaves (suc place) before.leaf in
    let at : new ≡ leaf_at_rest rest.other = becomes ∙ ap (compacted (suc place) leaves) before.at ∙ rest.at in
    let is = restarts leaves (suc place) rest.other (end_meaning (suc place) leaves contents)
    (subst (λ (e : End). (end_meaning (suc place) leaves contents ≡ Some (end_did leaves (suc place) Works e Restart).after)
    ⊎ (end_meaning (suc place) leaves contents ≡ Some (end_did leaves (suc place) Counts e Restart).after)) at means) in
    let after = leaf-at (leaf_meaning (suc place) contents) (leaf_at_rest rest.other) is in
    let one : rest.other ≡ after.leaf = ap (kept-in rest.other) after.at in
    record {
      before = kept.contents;
      found_before = kept.found;
      current = layout;
      one = before.leaf;
      means_before = before.is;
      after = contents;
      found = found;
      other = rest.other;
      means = after.is ∙ ap (λ (l : LeafState). Some l) (sym one);
      alike = rest.alike;
    }

pub mean_alike : (number : ℕ) (x y x' y' : List ℕ) (old new : BotEnd) → 0 < number → IsCurrent (meaning x y)
    → IsKeptOf number MAX_LEAVES (meaning x y) old.end → old.number ≡ number → old.leaves ≡ MAX_LEAVES
    → new.end ≡ compacted old.number old.leaves old.end → new.number ≡ old.number → new.leaves ≡ old.leaves
    → MeanEnd new x' y' → MeanAlike number x y x' y'
mean_alike zero x y x' y' old new above current kept numbered leaves becomes same many mean = absurd (omega (arith, above))
mean_alike (suc place) x y x' y' old new above current kept numbered leaves becomes same many mean =
    let number : new.number ≡ suc place = same ∙ numbered in
    let count : new.leaves ≡ MAX_LEAVES = many ∙ leaves in
    let compacts : new.end ≡ compacted (suc place) MAX_LEAVES old.end =
    subst (λ n. new.end ≡ compacted n MAX_LEAVES old.end) numbered
    (subst (λ l. new.end ≡ compacted old.number l old.end) leaves becomes) in
    let means = subst (λ n. (end_meaning n MAX_LEAVES mean.contents ≡ Some (end_did MAX_LEAVES n Works new.end Restart).after)
    ⊎ (end_meaning n MAX_LEAVES mean.contents ≡ Some (end_did MAX_LEAVES n Counts new.end Restart).after)) number
    (subst (λ l. (end_meaning new.number l mean.contents ≡ Some (end_did l new.number Works new.end Restart).after)
    ⊎ (end_meaning new.number l mean.contents ≡ Some (end_did l new.number Counts new.end Restart).after)) count mean.means) in
    alike-from place MAX_LEAVES x y x' y' old.end new.end current kept compacts mean.contents mean.found means
