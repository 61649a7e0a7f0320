-- The link of an heir stands for its history, which is sound.
use Rattle.std.proofs.Common.{◌≡◌, inl, inr, ℕ, zero, suc, ◌≤◌, List, [], ◌∷◌, length, drop, slice_get, Some, None, refl, ap, sym, subst, ◌∙◌, arith}
use Rattle.std.proofs.lemmas.Option.{slice_get_within}
use Rattle.userfile.specs.Records.{Records}
use Rattle.userfile.specs.Apply.{refusal}
use Rattle.userfile.specs.Together.{AreSound}
use Rattle.userfile.specs.Versions.{records_at}
use Rattle.protocol.specs.Numbers.{item_at}
use Rattle.protocol.specs.Packets.{AcceptedChange, own}
use Rattle.protocol.specs.LeafRules.{Leaf}
use Rattle.protocol.specs.History.{History, changes_of, records_of, Extends}
use Rattle.protocol.specs.Soundness.{IsSound, IsOwned}
use Rattle.protocol.specs.Network.{Net, no_replies, new_leaf, new_leaves}
use Rattle.protocol.specs.Standing.{Stands, LeafStands, BotStands}
use Rattle.protocol.specs.Ends.{AtHub, AtLeaf}
use Rattle.protocol.specs.Nets.{leaf_ends, IsMoment}
use Rattle.protocol.proofs.Runs.{start_stands}
use Rattle.protocol.proofs.Lists.{records_of-more, Extends-length, item_at-more}
use Rattle.heirs.specs.Beginnings.{heir_hub, inherited, heir_start}

-- ---- changes that are inherited

pub changes_of-inherited : (xs : List AcceptedChange) → changes_of (inherited xs) ≡ changes_of xs
changes_of-inherited [] = refl
changes_of-inherited (x ∷ xs) = ap (λ cs. x.change ∷ cs) (changes_of-inherited xs)

pub length-inherited : (xs : List AcceptedChange) → length (inherited xs) ≡ length xs
length-inherited [] = refl
length-inherited (x ∷ xs) = ap suc (length-inherited xs)

pub records_of-inherited : (xs : List AcceptedChange) (version : ℕ) → records_of (inherited xs) version ≡ records_of xs version
records_of-inherited xs version = ap (λ cs. records_at cs version) (changes_of-inherited xs)

-- which change was inherited
inherited-at : (xs : List AcceptedChange) (place : ℕ) (e : AcceptedChange) → slice_get (inherited xs) place ≡ Some e
    → (o : AcceptedChange) × (slice_get xs place ≡ Some o) × (e ≡ own o.change)
inherited-at [] place e at = cc
inherited-at (x ∷ xs) zero e at = (x, refl, cc)
inherited-at (x ∷ xs) (suc place) e at = inherited-at xs place e at

-- ---- its first moment is sound

module _ (h : History) (sound : IsSound h) (front : List AcceptedChange) (more : Extends front h.hub.kept.accepted) where
  abbrev all : List AcceptedChange
  all = h.hub.kept.accepted

  pub same_records : (version : ℕ) → version ≤ length front → records_of (inherited front) version ≡ records_of all version
  same_records version within = records_of-inherited front version ∙ sym (records_of-more front all version more within)

  taken : (place : ℕ) (entry : AcceptedChange) → item_at (inherited front) (suc place) ≡ Some entry
      → refusal (records_of (inherited front) place) entry.change ≡ None
  taken place entry at =
      let from = inherited-at front place entry at in
      let was = sound.hub.kept.taken place from.0 (item_at-more front all (suc place) from.0 more from.1) in
      let within = slice_get_within front place from.0 from.1 in
      ap (λ (e : AcceptedChange). refusal (records_of (inherited front) place) e.change) from.2
      ∙ ap (λ r. refusal r from.0.change) (same_records place (omega (arith, within))) ∙ was

  whole : (version : ℕ) → version ≤ length (inherited front) → AreSound (records_of (inherited front) version)
  whole version within =
      let inside : version ≤ length front = omega (arith, within, length-inherited front) in
      subst AreSound (sym (same_records version inside))
      (sound.hub.kept.whole version (omega (arith, inside, Extends-length front all more)))

  owned : (number : ℕ) (entry : AcceptedChange) → item_at (inherited front) number ≡ Some entry
      → IsOwned (λ leaf. []) (λ leaf. []) number entry
  owned zero entry at = cc
  owned (suc place) entry at = inl (ap (λ (e : AcceptedChange). e.origin) (inherited-at front place entry at).2)

  pub heir_sound : (count : ℕ) → IsSound (heir_start count front)
  heir_sound count = record {
    hub = record {
      kept = record { taken = taken; whole = whole; owned = owned; floor = omega (arith, length-inherited front) };
      loose = tt;
      doubt = λ entry e. cc;
    };
    leaves = λ number. record {
      kept = record { version = omega arith; asked = tt; answered = λ request within. inr within };
      loose = λ set e. cc;
      doubt = λ entry e. cc;
    };
    packets = tt;
  }

-- ---- its ends stand for it

-- a new leaf stands whatever was accepted, since it is at version 0
new_leaves_stand : (changes : List AcceptedChange) (count place : ℕ) (leaf : Leaf) → slice_get (new_leaves count) place ≡ Some leaf
    → BotStands (LeafStands (inherited changes)) leaf ((heir_start count changes).leaves (suc place))
new_leaves_stand changes count place leaf at =
    let new = (start_stands count).leaves place leaf at in
    record {
      kept = record { version = new.kept.version; records = new.kept.records; last = new.kept.last; out = new.kept.out };
      loose = new.loose;
      down = new.down;
      doubt = new.doubt;
    }

drop-all : {X : Type 0} (xs : List X) (many : ℕ) → many ≡ length xs → [] ≡ drop many xs
drop-all [] zero same = refl
drop-all [] (suc many) same = refl
drop-all (x ∷ xs) zero same = absurd (omega (arith, same))
drop-all (x ∷ xs) (suc many) same = drop-all xs many (omega (arith, same))

module _ (count version generation : ℕ) (records : Records) (changes : List AcceptedChange)
    (many : length changes ≡ version) (are : records ≡ records_of changes version) where
  abbrev heir_net : Net
  heir_net = record {
    count = count;
    hub = heir_hub count version generation records;
    leaves = new_leaves count;
    packets = [];
  }

  heir_records : records ≡ records_of (inherited changes) (length (inherited changes))
  heir_records = are ∙ sym (records_of-inherited changes version)
      ∙ ap (records_of (inherited changes)) (sym (length-inherited changes ∙ many))

  heir_stands : Stands heir_net (heir_start count changes)
  heir_stands = record {
    count = refl;
    hub = record {
      kept = record {
        floor = sym many;
        tail = drop-all (inherited changes) (length changes) (sym (length-inherited changes));
        records = heir_records;
        replies = (start_stands count).hub.kept.replies;
      };
      loose = refl;
      down = refl;
      doubt = refl;
    };
    length = (start_stands count).length;
    leaves = new_leaves_stand changes count;
    packets = refl;
  }

  pub heir_moment : IsSound (heir_start count changes)
      → IsMoment (AtHub (heir_hub count version generation records) ∷ leaf_ends (new_leaves count)) [] (heir_start count changes)
  heir_moment sound =
      record { net = heir_net; ends_are = refl; packets_are = refl; stands = heir_stands; sound = sound }

-- the end of a new leaf, at its place
pub new_leaf-at : (count place : ℕ) → suc place ≤ count → slice_get (leaf_ends (new_leaves count)) place ≡ Some (AtLeaf new_leaf)
new_leaf-at zero place within = absurd (omega (arith, within))
new_leaf-at (suc count) zero within = refl
new_leaf-at (suc count) (suc place) within = new_leaf-at count place (omega (arith, within))

pub no_replies-length : (count : ℕ) → length (no_replies count) ≡ count
no_replies-length zero = refl
no_replies-length (suc count) = ap suc (no_replies-length count)
