-- What two disks mean whose texts are all spellings.
use Rattle.std.proofs.Common.{◌≡◌, ◌⊎◌, inl, inr, ⊎_elim, ℕ, Bool, true, false, Option, Some, None, List, ◌∷◌, refl, sym, ap, subst, ◌∙◌}
use Rattle.std.specs.Prelude.{IsSome, if◌then◌else◌}
use Rattle.std.specs.Option.{is_some}
use Rattle.disks.specs.State.{State, moment}
use Rattle.disks.specs.Laws.{seen_is_left, counts_now}
use Rattle.bytejournal.specs.declared.journal.Journal.{Journal}
use Rattle.bytejournal.specs.declared.opening.Older.{Older}
use Rattle.bytejournal.specs.Meaning.{Contents as Texts, Held, held, chosen, meaning as meaning_in_texts}
use Rattle.bytejournal.specs.Meaning.Held.{Shut, Broken, Open}
use Rattle.bytejournal.specs.Journal.{Holds, HoldsOne, AnyMoment, IsEither as IsEitherText, first_disk, second_disk, contents_of as texts_of}
use Rattle.bytejournal.specs.Opening.{held_older}
use Rattle.bytejournal.proofs.Pairs.{chosen_comm}
use Rattle.bytejournal.proofs.Recovering.{some_is}
use Rattle.botjournal.specs.declared.layouts.Layout.TheVariants.{Fourth}
use Rattle.botjournal.specs.declared.sums.Seal.{Seal}
use Rattle.botjournal.specs.declared.TheConstants.{LAYOUT}
use Rattle.botjournal.specs.Layouts.{layout_of}
use Rattle.botjournal.specs.Bases.{base_in}
use Rattle.botjournal.specs.Sums.{start, AreCarried}
use Rattle.botjournal.specs.Contents.{Contents, body_in, entries_in, seal_by, if_sealed, with_base, spelled, spelled_by, where_spelled, checked, typed, meaning}
use Rattle.botjournal.specs.Journal.{IsEither, contents_of, is_spelled}
use Rattle.botjournal.proofs.SumLaws.{carried}

no_contents : (contents : Option Contents) → (let o : Option Contents = None in o) ≡ contents → IsSome contents → ⊥
no_contents contents none some = cc

-- ---- one disk

-- each journal that this disk holds is spelled
abbrev pub IsAllSpelled : List ℕ → Type 0
IsAllSpelled bytes = (texts : Texts) → held bytes ≡ Open texts → IsSome (spelled texts)

open_stays : (texts : Texts) (read : Option Contents) → IsSome read → where_spelled texts read ≡ Open texts
open_stays texts None some = absurd cc
open_stays texts (Some contents) some = refl

checked_is : (h : Held) → ((texts : Texts) → h ≡ Open texts → IsSome (spelled texts)) → checked h ≡ h
checked_is Shut all = refl
checked_is Broken all = refl
checked_is (Open texts) all = open_stays texts (spelled texts) (all texts refl)

read_there : (texts : Texts) (read : Option Contents) (other : Held) → IsSome (typed (chosen (where_spelled texts read) other)) → IsSome read
read_there texts None other some = absurd cc
read_there texts (Some contents) other some = refl

spelled_there : (h other : Held) (texts : Texts) → h ≡ Open texts → IsSome (typed (chosen (checked h) other)) → IsSome (spelled texts)
spelled_there h other texts is some =
    read_there texts (spelled texts) other (subst (λ (k : Held). IsSome (typed (chosen (checked k) other))) is some)

-- ---- two disks

pub meaning_comm : (x y : List ℕ) → meaning x y ≡ meaning y x
meaning_comm x y = ap typed (chosen_comm (checked (held x)) (checked (held y)))

-- where the disks mean something, all that they hold is spelled
pub first_spelled : (x y : List ℕ) → IsSome (meaning x y) → IsAllSpelled x
first_spelled x y some texts is = spelled_there (held x) (checked (held y)) texts is some

pub second_spelled : (x y : List ℕ) → IsSome (meaning x y) → IsAllSpelled y
second_spelled x y some = first_spelled y x (subst IsSome (meaning_comm x y) some)

-- so the texts of the layout that is written carry their sums
sums_carried : (texts : Texts) (contents : Option Contents) → layout_of texts.layout ≡ Some Fourth → spelled texts ≡ contents → IsSome contents
    → AreCarried (start texts.layout texts.generation) (texts.base ∷ texts.entries)
sums_carried texts contents known read some = by (seal_by Fourth texts) refl (ap (λ o. spelled_by o texts) (sym known) ∙ read)
  where
    rest : Option Contents
    rest = with_base texts.layout texts.generation (base_in Fourth (body_in Fourth texts.base)) (entries_in Fourth texts.entries)

    by : (seal : Option Seal) → seal_by Fourth texts ≡ seal → if_sealed seal rest ≡ contents
        → AreCarried (start texts.layout texts.generation) (texts.base ∷ texts.entries)
    by None is none = absurd (no_contents contents none some)
    by (Some seal) is same = carried (start texts.layout texts.generation) (texts.base ∷ texts.entries) seal is

pub all_carried : (x y : List ℕ) (contents : Contents) (texts : Texts) → meaning x y ≡ Some contents → Holds x y texts
    → texts.layout ≡ LAYOUT → AreCarried (start LAYOUT texts.generation) (texts.base ∷ texts.entries)
all_carried x y contents texts means one current =
    let some : IsSome (meaning x y) = some_is (meaning x y) (Some contents) means refl in
    let here : IsSome (spelled texts) = ⊎_elim (λ h. first_spelled x y some texts h) (λ h. second_spelled x y some texts h) one in
    subst (λ n. AreCarried (start n texts.generation) (texts.base ∷ texts.entries)) current
    (sums_carried texts (spelled texts) (ap layout_of current) refl here)

-- and where all is spelled, the disks mean what their texts mean
pub means_texts : (x y : List ℕ) → IsAllSpelled x → IsAllSpelled y → meaning x y ≡ typed (meaning_in_texts x y)
means_texts x y a b =
    ap (λ (h : Held). typed (chosen h (checked (held y)))) (checked_is (held x) a)
    ∙ ap (λ (h : Held). typed (chosen (held x) h)) (checked_is (held y) b)

-- ---- texts that mean nothing

none_with : (texts : Texts) (read : Option Contents) → chosen (where_spelled texts read) Broken ≡ None
none_with texts None = refl
none_with texts (Some contents) = refl

none_of_two : (a b : Texts) (read read' : Option Contents) → chosen (Open a) (Open b) ≡ None → chosen (where_spelled a read) (where_spelled b read') ≡ None
none_of_two a b None read' none = refl
none_of_two a b (Some contents) None none = refl
none_of_two a b (Some contents) (Some contents') none = none

none_checked : (a b : Held) → chosen a b ≡ None → chosen (checked a) (checked b) ≡ None
none_checked Shut Shut none = refl
none_checked Shut Broken none = refl
none_checked Shut (Open b) none = absurd cc
none_checked Broken b none = refl
none_checked (Open a) Shut none = absurd cc
none_checked (Open a) Broken none = none_with a (spelled a)
none_checked (Open a) (Open b) none = none_of_two a b (spelled a) (spelled b) none

pub means_none : (x y : List ℕ) → meaning_in_texts x y ≡ None → meaning x y ≡ None
means_none x y none = ap typed (none_checked (held x) (held y) none)

-- ---- texts that were found

-- beside a disk that holds nothing
pub alone_means : (h : Held) (texts : Texts) → chosen h Shut ≡ Some texts → typed (chosen (checked h) Shut) ≡ spelled texts
alone_means Shut texts is = absurd cc
alone_means Broken texts is = absurd cc
alone_means (Open found) texts is = by (spelled found) refl ∙ ap (λ (o : Option Texts). typed o) is
  where
    by : (read : Option Contents) → spelled found ≡ read → typed (chosen (where_spelled found read) Shut) ≡ spelled found
    by None e = sym e
    by (Some contents) e = refl

-- beside what an older generation left
beside_older : (texts older : Texts) (read read' : Option Contents) → spelled texts ≡ read → chosen (Open texts) (Open older) ≡ Some texts
    → typed (chosen (where_spelled texts read) (where_spelled older read')) ≡ (if is_some read' then read else None)
beside_older texts older None None e counts = refl
beside_older texts older None (Some contents') e counts = refl
beside_older texts older (Some contents) None e counts = refl
beside_older texts older (Some contents) (Some contents') e counts = ap typed counts ∙ e

pub found_means : (texts : Texts) (older : Option Older) → chosen (Open texts) (held_older older) ≡ Some texts
    → typed (chosen (checked (Open texts)) (checked (held_older older))) ≡ (if is_spelled older then spelled texts else None)
found_means texts None counts = alone_means (Open texts) texts counts
found_means texts (Some older) counts =
    let other : Texts = record { layout = older.layout; generation = older.generation; base = older.base; entries = older.entries } in
    beside_older texts other (spelled texts) (spelled other) refl counts

-- ---- a journal's disks

-- two images that a crash may leave
typed_either : (Known : Texts → Type 0) (before after : Option Texts) (old wanted : Option Contents) (x y : List ℕ)
    → ((texts : Texts) → Known texts → IsSome (spelled texts)) → IsSome wanted → typed before ≡ old → typed after ≡ wanted
    → IsEitherText Known before after x y → IsEither old wanted x y
typed_either Known before after old wanted x y known some was same e =
    let either : (texts : Texts) → (held x ≡ Open texts) ⊎ (held y ≡ Open texts) → IsSome (spelled texts) =
    λ texts one. ⊎_elim (λ k. known texts k)
    (λ a. subst (λ (o : Option Texts). IsSome (typed o)) a (some_is (typed after) wanted same some)) (e.nothing_else texts one) in
    let means : meaning x y ≡ typed (meaning_in_texts x y) = means_texts x y (λ texts h. either texts (inl h)) (λ texts h. either texts (inr h)) in
    record {
      means = ⊎_elim (λ m. inl (means ∙ ap typed m ∙ was)) (λ m. inr (means ∙ ap typed m ∙ same)) e.means;
      first_whole = e.first_whole;
      second_whole = e.second_whole;
    }

module _ {D : Type 0} (state : D → State) where
  pub contents_in_order : (journal : Journal D)
      → contents_of state journal ≡ meaning (state (first_disk journal)).seen (state (second_disk journal)).seen
  contents_in_order journal = by journal.swapped journal.active journal.idle
    where
      by : (swapped : Bool) (active idle : D) → meaning (state active).seen (state idle).seen
          ≡ meaning (state (if swapped then idle else active)).seen (state (if swapped then active else idle)).seen
      by false active idle = refl
      by true active idle = meaning_comm (state active).seen (state idle).seen

  -- a journal whose disks mean something means what its texts mean
  pub texts_are : (journal : Journal D) → IsSome (contents_of state journal) → contents_of state journal ≡ typed (texts_of state journal)
  texts_are journal some =
      let x = (state journal.active).seen in
      let y = (state journal.idle).seen in
      means_texts x y (first_spelled x y some) (second_spelled x y some)

  one_spelled : (journal : Journal D) → IsSome (contents_of state journal) → (texts : Texts) → HoldsOne state journal texts → IsSome (spelled texts)
  one_spelled journal some texts one =
      let x = (state journal.active).seen in
      let y = (state journal.idle).seen in
      ⊎_elim (λ h. first_spelled x y some texts h) (λ h. second_spelled x y some texts h) one

  pub typed_moments : (old new : Journal D) (after : Option Texts) (wanted : Option Contents) → IsSome (contents_of state old) → IsSome wanted
      → typed after ≡ wanted → AnyMoment state old new (IsEitherText (HoldsOne state old) (texts_of state old) after)
      → AnyMoment state old new (IsEither (contents_of state old) wanted)
  typed_moments old new after wanted some some' same m = record {
    first_later = m.first_later;
    second_later = m.second_later;
    each = λ x y a b. typed_either (HoldsOne state old) (texts_of state old) after (contents_of state old) wanted x y (one_spelled old some) some'
        (sym (texts_are old some)) same (m.each x y a b);
  }

  -- after a call the disks mean something again
  pub still_some : (old new : Journal D) (wanted : Option Contents) → IsSome (contents_of state old) → IsSome wanted
      → AnyMoment state old new (IsEither (contents_of state old) wanted) → IsSome (contents_of state new)
  still_some old new wanted some some' m =
      let first = first_disk new in
      let second = second_disk new in
      let here = m.each (state first).seen (state second).seen
      (counts_now (state first) (moment (state (first_disk old))) (state first).seen m.first_later (seen_is_left (state first)))
      (counts_now (state second) (moment (state (second_disk old))) (state second).seen m.second_later (seen_is_left (state second))) in
      let one : IsSome (meaning (state first).seen (state second).seen) =
      ⊎_elim (λ b. some_is (meaning (state first).seen (state second).seen) (contents_of state old) b some)
      (λ a. some_is (meaning (state first).seen (state second).seen) wanted a some') here.means in
      some_is (contents_of state new) (meaning (state first).seen (state second).seen) (contents_in_order new) one
