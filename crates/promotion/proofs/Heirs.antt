-- What the journal of an heir's hub means.
use Rattle.std.proofs.Common.{◌≡◌, ◌<◌, ◌∙◌, inl, inr, ◌⊎◌, ℕ, zero, suc, true, List, [], None, Some, option_map, if◌then◌else◌, refl, ap, arith}
use Rattle.userfile.specs.Records.{Records}
use Rattle.disks.specs.State.{State}
use Rattle.botjournal.specs.declared.base.Base.{Base}
use Rattle.botjournal.specs.declared.reply.Reply.{Reply}
use Rattle.botjournal.specs.Contents.{Contents, meaning, new_contents}
use Rattle.botjournal.specs.Journal.{IsEither}
use Rattle.botjournal.specs.Ledger.{Leaves, settled}
use Rattle.protocol.specs.Snapshots.{records_from}
use Rattle.protocol.specs.HubRules.{HubState}
use Rattle.protocol.specs.LeafRules.{LeafState}
use Rattle.protocol.specs.Network.{no_replies}
use Rattle.protocol.specs.Journals.{hub_of, hub_meaning, leaf_meaning, stand_together}
use Rattle.protocol.specs.Ends.{AtHub}
use Rattle.sharelink.specs.BotLinks.{hub_at_rest, leaf_at_rest, end_meaning}
use Rattle.sharelink.proofs.Lists.{replies_of-none}
use Rattle.heirs.specs.Beginnings.{heir_hub}
use Rattle.promotion.specs.Leaves.{LeafFound, IsLeafOf}
use Rattle.promotion.specs.Promotions.{Promotes, heir_base}

at-leaf : (number leaves : ℕ) (contents : Contents) (leaf : LeafState) → 0 < number → leaf_meaning number contents ≡ Some leaf
    → end_meaning number leaves contents ≡ Some (leaf_at_rest leaf)
at-leaf zero leaves contents leaf above means = absurd (omega (arith, above))
at-leaf (suc place) leaves contents leaf above means = ap (option_map leaf_at_rest) means

-- a hub at this version with these records and these replies, which has accepted nothing itself
abbrev hub-at : ℕ → Records → List (List Reply) → HubState
hub-at version records replies = record { floor = version; tail = []; records = records; replies = replies; generation = 1 }

hub-means : (count : ℕ) (base : Base) → stand_together (records_from base.records) ≡ true
    → hub_meaning count (new_contents (heir_base base)) ≡ Some (hub-at base.version (records_from base.records) (no_replies count))
hub-means count base together =
    ap (λ b. if b then Some (hub_of count 1 (heir_base base)) else None) together
    ∙ ap (λ (replies : List (List Reply)). Some (hub-at base.version (records_from base.records) replies)) (replies_of-none 1 count)

heir-means : (count version : ℕ) (records : Records) (base : Base) → stand_together (records_from base.records) ≡ true
    → base.version ≡ version → records_from base.records ≡ records
    → end_meaning 0 count (new_contents (heir_base base)) ≡ Some (AtHub (heir_hub count version 1 records))
heir-means count version records base together at are =
    ap (option_map hub_at_rest) (hub-means count base together
    ∙ ap (λ v. Some (hub-at v (records_from base.records) (no_replies count))) at
    ∙ ap (λ (r : Records). Some (hub-at version r (no_replies count))) are)

found-in : (contents : Contents) (x y : List ℕ) → IsEither (Some contents) (Some contents) x y → meaning x y ≡ Some contents
found-in contents x y either = by either.means
  where
    by : (meaning x y ≡ Some contents) ⊎ (meaning x y ≡ Some contents) → meaning x y ≡ Some contents
    by (inl is) = is
    by (inr is) = is

pub promotes : (leaf : LeafFound) (first second : State) → IsLeafOf leaf.first leaf.second leaf.base
    → Leaves first second (settled (new_contents (heir_base leaf.base))) → Promotes leaf first second
promotes leaf first second is left = record {
  end = leaf_at_rest is.leaf;
  shows = λ leaves. record {
    contents = is.contents;
    found = is.found;
    before = leaf_at_rest is.leaf;
    means = at-leaf leaf.base.bot leaves is.contents is.leaf is.numbered is.means;
    keeps = inl (is.current, refl);
  };
  heir = λ count x y a b. record {
    contents = new_contents (heir_base leaf.base);
    generation = 1;
    found = found-in (new_contents (heir_base leaf.base)) x y (left x y a b);
    means = heir-means count is.leaf.version is.leaf.records leaf.base is.together is.kept.version is.kept.records;
  };
}
