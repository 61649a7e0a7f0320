-- What a journal that is found or handed back means, whichever end's it is.
use Rattle.std.proofs.Common.{◌≡◌, ◌⊎◌, ℕ, Bool, true, false, List, Option, None, Some, refl, sym, ap, subst, ◌∙◌, inl, inr, arith}
use Rattle.disks.specs.Laws.{only_now}
use Rattle.bytejournal.specs.Meaning.{IsWhole}
use Rattle.botjournal.specs.declared.TheConstants.{LAYOUT}
use Rattle.botjournal.specs.Contents.{Contents, meaning}
use Rattle.botjournal.specs.Journal.{IsEither}
use Rattle.botjournal.specs.declared.found.Found.{Found}
use Rattle.botjournal.specs.Ledger.{Account, Device, Ledger, Pending, IsFound, Adding, Rebasing, AtEachMoment, Leaves, settled, written, written_if, counted as contents_counted}
use Rattle.sharelink.specs.States.{contents_in}
use Rattle.sharelink.specs.Kept.{IsCurrent, MeansEither, IsUp, Stands, AreOf, LeavesOwn, LeavesWritten}
use Rattle.sharelink.proofs.FoundLaws.{certain-counted, found-is}

-- ---- the layout

-- what is in doubt changes no layout, save to the present one
pub counted-current : (account : Account) → account.contents.layout ≡ LAYOUT → (contents_counted account).layout ≡ LAYOUT
counted-current account current = by account.doubt
  where
    by : (doubt : Option Pending) → (written_if doubt account.contents).layout ≡ LAYOUT
    by None = current
    by (Some (Adding entry)) = current
    by (Some (Rebasing base)) = refl

pub current-left : (account : Account) (x y : List ℕ) → account.contents.layout ≡ LAYOUT
    → IsEither (Some account.contents) (Some (contents_counted account)) x y → IsCurrent (meaning x y)
current-left account x y current either = by either.means
  where
    by : (meaning x y ≡ Some account.contents) ⊎ (meaning x y ≡ Some (contents_counted account)) → IsCurrent (meaning x y)
    by (inl e) = subst (λ (o : Option Contents). IsCurrent o) (sym e) current
    by (inr e) = subst (λ (o : Option Contents). IsCurrent o) (sym e) (counted-current account current)

module _ {S R : Type 0} (state_of : Contents → Option S) (folded : S → R → S) where
  -- ---- what is found

  either-of : (kept : S) (down : Bool) (doubt : Option R) (account : Account) (contents : Contents)
      → Stands state_of folded kept down doubt account → (contents ≡ account.contents) ⊎ (contents ≡ contents_counted account)
      → MeansEither state_of folded kept doubt contents
  either-of kept false doubt account contents is (inl same) =
      subst (λ (c : Contents). MeansEither state_of folded kept doubt c) (sym same) (inl is.means)
  either-of kept false doubt account contents is (inr same) =
      subst (λ (c : Contents). MeansEither state_of folded kept doubt c) (sym (same ∙ certain-counted account is.certain)) (inl is.means)
  either-of kept true doubt account contents is (inl same) =
      subst (λ (c : Contents). MeansEither state_of folded kept doubt c) (sym same) is.held
  either-of kept true doubt account contents is (inr same) =
      subst (λ (c : Contents). MeansEither state_of folded kept doubt c) (sym same) is.after

  -- what was read is what the contents mean
  pub found-meaning : (generation : ℕ) (found : Found) (account : Account) (means : Option S) → account ≡ settled account.contents
      → (account.down ≡ false → generation ≡ account.contents.generation) → IsFound found account.contents
      → ((layout : ℕ) → state_of (contents_in layout generation found) ≡ means) → state_of account.contents ≡ means
  found-meaning generation found account means rests at is read =
      ap state_of (sym (found-is account.contents generation found (at (ap (λ (a : Account). a.down) rests)) is))
      ∙ read account.contents.layout

  -- ---- what is handed back

  pub leaves-own : (kept : S) (down : Bool) (doubt : Option R) (account : Account) (x y : List ℕ)
      → Stands state_of folded kept down doubt account → IsEither (Some account.contents) (Some (contents_counted account)) x y
      → AreOf state_of folded kept doubt x y
  leaves-own kept down doubt account x y is either = by either.means
    where
      by : (meaning x y ≡ Some account.contents) ⊎ (meaning x y ≡ Some (contents_counted account)) → AreOf state_of folded kept doubt x y
      by (inl e) = record {
        contents = account.contents;
        found = e;
        means = either-of kept down doubt account account.contents is (inl refl);
        first_whole = either.first_whole;
        second_whole = either.second_whole;
      }
      by (inr e) = record {
        contents = contents_counted account;
        found = e;
        means = either-of kept down doubt account (contents_counted account) is (inr refl);
        first_whole = either.first_whole;
        second_whole = either.second_whole;
      }

  -- ---- at each moment of a call

  up-is : (kept : S) (down : Bool) (doubt : Option R) (account : Account) → Stands state_of folded kept down doubt account → down ≡ false
      → IsUp state_of folded kept doubt account
  up-is kept false doubt account is up = is
  up-is kept true doubt account is up = absurd cc

  pub up-certain : (kept : S) (down : Bool) (doubt : Option R) (account : Account) → Stands state_of folded kept down doubt account
      → down ≡ false → doubt ≡ None
  up-certain kept down doubt account is up = (up-is kept down doubt account is up).none

  -- while a record is written, or memory is asked for before that
  pub journal-moments : (kept : S) (down : Bool) (doubt : Option R) (entry : R) (pending : Pending) (old new : Ledger)
      → Stands state_of folded kept down doubt old.account → down ≡ false
      → (state_of old.account.contents ≡ Some kept → state_of (written pending old.account.contents) ≡ Some (folded kept entry))
      → Leaves old.device.first old.device.second old.account → LeavesWritten pending old new
      → LeavesOwn state_of folded kept (Some entry) old.device new.device
  journal-moments kept down doubt entry pending old new is up writes leaves m = by m
    where
      here : IsUp state_of folded kept doubt old.account
      here = up-is kept down doubt old.account is up

      before : (x y : List ℕ) → IsWhole x → IsWhole y → meaning x y ≡ Some old.account.contents
          → AreOf state_of folded kept (Some entry) x y
      before x y first second e = record {
        contents = old.account.contents;
        found = e;
        means = inl here.means;
        first_whole = first;
        second_whole = second;
      }

      still : (x y : List ℕ) → IsWhole x → IsWhole y
          → (meaning x y ≡ Some old.account.contents) ⊎ (meaning x y ≡ Some (contents_counted old.account))
          → AreOf state_of folded kept (Some entry) x y
      still x y first second (inl e) = before x y first second e
      still x y first second (inr e) =
          before x y first second (e ∙ ap (λ c. Some c) (certain-counted old.account here.certain))

      while : (x y : List ℕ) → IsWhole x → IsWhole y
          → (meaning x y ≡ Some old.account.contents) ⊎ (meaning x y ≡ Some (written pending old.account.contents))
          → AreOf state_of folded kept (Some entry) x y
      while x y first second (inl e) = before x y first second e
      while x y first second (inr e) = record {
        contents = written pending old.account.contents;
        found = e;
        means = inr (writes here.means);
        first_whole = first;
        second_whole = second;
      }

      by : LeavesWritten pending old new → LeavesOwn state_of folded kept (Some entry) old.device new.device
      by (inl same) = subst (λ (l : Ledger). LeavesOwn state_of folded kept (Some entry) old.device l.device) (sym same) (record {
        first_later = omega arith;
        second_later = omega arith;
        each = λ x y left right.
            let there = leaves x y (only_now old.device.first x left) (only_now old.device.second y right) in
            still x y there.first_whole there.second_whole there.means;
      })
      by (inr moments) = record {
        first_later = moments.first_later;
        second_later = moments.second_later;
        each = λ x y left right.
            let there = moments.each x y left right in
            while x y there.first_whole there.second_whole there.means;
      }

  -- while the journal is opened again
  pub restart-moments : (kept : S) (down : Bool) (doubt : Option R) (account : Account) (before now : Device)
      → Stands state_of folded kept down doubt account
      → AtEachMoment before now (IsEither (Some account.contents) (Some (contents_counted account)))
      → LeavesOwn state_of folded kept doubt before now
  restart-moments kept down doubt account before now is m = record {
    first_later = m.first_later;
    second_later = m.second_later;
    each = λ x y left right. leaves-own kept down doubt account x y is (m.each x y left right);
  }
