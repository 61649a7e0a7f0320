-- The contents of texts, read.
use Rattle.std.proofs.Common.{◌≡◌, ℕ, ◌+◌, ◌-◌, ◌^◌, ◌<◌, arith, Bool, true, false, Result, Ok, Err, Option, Some, None, List, [], ◌∷◌, ◌++◌, refl}
use Rattle.std.proofs.Common.{sym, ap, subst, ◌∙◌}
use Rattle.std.specs.Prelude.{IsSome, option_map}
use Rattle.bytetext.specs.declared.failure.Failure.{Failure}
use Rattle.bytetext.specs.declared.failure.Failure.TheVariants.{Refused, NoMemory}
use Rattle.disks.specs.State.{State}
use Rattle.bytejournal.specs.declared.fault.JournalFault.{JournalFault}
use Rattle.bytejournal.specs.declared.fault.JournalFault.TheVariants.{DiskFault, NotAJournal, Spent, GenerationsSpent}
use Rattle.bytejournal.specs.declared.journal.Journal.{Journal}
use Rattle.bytejournal.specs.Meaning.{Contents as Texts, added as added_text, rebased as rebased_text}
use Rattle.bytejournal.specs.Journal.{HoldsOne, IsAtRest as AreTextsAtRest, IsEither as IsEitherText, AnyMoment, IsSound as AreTextsSound, Appends as AppendsText, Rebases as RebasesText}
use Rattle.bytejournal.specs.Journal.{contents_of as texts_of}
use Rattle.bytejournal.proofs.Appending.{contents_are}
use Rattle.bytejournal.proofs.Recovering.{some_is, some_map}
use Rattle.botjournal.specs.declared.base.Base.{Base}
use Rattle.botjournal.specs.declared.entry.Entry.{Entry}
use Rattle.botjournal.specs.declared.layouts.Layout.{Layout}
use Rattle.botjournal.specs.declared.layouts.Layout.TheVariants.{Fourth}
use Rattle.botjournal.specs.declared.TheConstants.{LAYOUT}
use Rattle.botjournal.specs.Layouts.{layout_of}
use Rattle.botjournal.specs.Bases.{base_bytes, base_in, IsGoodBase}
use Rattle.botjournal.specs.Entries.{entry_bytes, entry_in, IsGoodEntry}
use Rattle.botjournal.specs.declared.sums.Seal.{Seal}
use Rattle.botjournal.specs.Sums.{start, sealed, after, body_of, through}
use Rattle.botjournal.specs.Contents.{Contents, added, rebased, before_others, body_in, entries_in, seal_by, if_sealed, with_base, spelled, spelled_by, typed}
use Rattle.botjournal.specs.Journal.{IsEither, IsAtRest, IsSound, AreSealed, IsSealed, Appends, Rebases, contents_of}
use Rattle.botjournal.proofs.EntryLaws.{entry_again}
use Rattle.botjournal.proofs.BaseLaws.{base_again}
use Rattle.botjournal.proofs.SumLaws.{body_sealed, step_sealed, through_one, through_more}
use Rattle.botjournal.proofs.MeaningLaws.{texts_are, typed_moments, still_some}

-- these entries before others
abbrev pub all_before : List Entry → Option (List Entry) → Option (List Entry)
all_before entries others = option_map (λ more. entries ++ more) others

-- ---- one entry more

abbrev one_after : Entry → List Entry → List Entry
one_after entry entries = entries ++ (entry ∷ [])

snoc_before : (first : Option Entry) (entry : Entry) (others : Option (List Entry))
    → before_others first (option_map (one_after entry) others) ≡ option_map (one_after entry) (before_others first others)
snoc_before None entry others = refl
snoc_before (Some first) entry None = refl
snoc_before (Some first) entry (Some others) = refl

entries_added : (layout : Layout) (texts : List (List ℕ)) (text : List ℕ) (entry : Entry) → entry_in layout (body_in layout text) ≡ Some entry
    → entries_in layout (texts ++ (text ∷ [])) ≡ option_map (one_after entry) (entries_in layout texts)
entries_added layout [] text entry is = ap (λ e. before_others e (Some [])) is
entries_added layout (first ∷ texts) text entry is =
    ap (before_others (entry_in layout (body_in layout first))) (entries_added layout texts text entry is)
    ∙ snoc_before (entry_in layout (body_in layout first)) entry (entries_in layout texts)

with_added : (number generation : ℕ) (base : Option Base) (entry : Entry) (entries : Option (List Entry))
    → with_base number generation base (option_map (one_after entry) entries) ≡ option_map (added entry) (with_base number generation base entries)
with_added number generation None entry entries = refl
with_added number generation (Some base) entry None = refl
with_added number generation (Some base) entry (Some entries) = refl

-- texts in the layout that is written
abbrev pub AreCurrent : Option Texts → Type 0
AreCurrent None = Unit {0}
AreCurrent (Some texts) = texts.layout ≡ LAYOUT

-- the seal after one more text
sealed_more : (texts : Texts) (seal : Seal) (bytes : List ℕ) → seal_by Fourth texts ≡ Some seal
    → seal_by Fourth (added_text (sealed seal bytes) texts) ≡ Some (after seal bytes)
sealed_more texts seal bytes is =
    through_more (start texts.layout texts.generation) (texts.base ∷ texts.entries) seal (sealed seal bytes) (after seal bytes) is
    (step_sealed seal bytes)

pub sealed_added : (seal : Seal) (bytes : List ℕ) (texts : Option Texts) → AreSealed texts seal
    → AreSealed (option_map (added_text (sealed seal bytes)) texts) (after seal bytes)
sealed_added seal bytes None is = tt
sealed_added seal bytes (Some texts) is = λ current. sealed_more texts seal bytes (is current)

pub typed_added : (seal : Seal) (entry : Entry) → IsGoodEntry entry → (texts : Option Texts) → AreCurrent texts → AreSealed texts seal
    → typed (option_map (added_text (sealed seal (entry_bytes entry))) texts) ≡ option_map (added entry) (typed texts)
typed_added seal entry good None current is = refl
typed_added seal entry good (Some texts) current is =
    let bytes = entry_bytes entry in
    let text = sealed seal bytes in
    let known : layout_of texts.layout ≡ Some Fourth = ap layout_of current in
    let base = base_in Fourth (body_of texts.base) in
    let again : entry_in Fourth (body_of text) ≡ Some entry = ap (entry_in Fourth) (body_sealed seal bytes) ∙ entry_again Fourth entry good in
    ap (λ o. spelled_by o (added_text text texts)) known
    ∙ ap (λ s. if_sealed s (with_base texts.layout texts.generation base (entries_in Fourth (texts.entries ++ (text ∷ [])))))
    (sealed_more texts seal bytes (is current))
    ∙ ap (with_base texts.layout texts.generation base) (entries_added Fourth texts.entries text entry again)
    ∙ with_added texts.layout texts.generation base entry (entries_in Fourth texts.entries)
    ∙ sym (ap (λ s. option_map (added entry) (if_sealed s (with_base texts.layout texts.generation base (entries_in Fourth texts.entries)))) (is current))
    ∙ sym (ap (λ o. option_map (added entry) (spelled_by o texts)) known)

-- ---- another base

with_rebased : (number generation : ℕ) (old : Option Base) (entries : Option (List Entry)) (base : Base)
    → IsSome (with_base number generation old entries)
    → with_base LAYOUT (generation + 1) (Some base) (Some []) ≡ option_map (rebased base) (with_base number generation old entries)
with_rebased number generation None entries base some = absurd cc
with_rebased number generation (Some old) None base some = absurd cc
with_rebased number generation (Some old) (Some entries) base some = refl

-- whichever layout the texts have
spelled_rebased : (layout : Option Layout) (texts : Texts) (base : Base) → IsSome (spelled_by layout texts)
    → with_base LAYOUT (texts.generation + 1) (Some base) (Some []) ≡ option_map (rebased base) (spelled_by layout texts)
spelled_rebased None texts base some = absurd cc
spelled_rebased (Some layout) texts base some = by (seal_by layout texts) some
  where
    read : Option Contents
    read = with_base texts.layout texts.generation (base_in layout (body_in layout texts.base)) (entries_in layout texts.entries)

    by : (seal : Option Seal) → IsSome (if_sealed seal read)
        → with_base LAYOUT (texts.generation + 1) (Some base) (Some []) ≡ option_map (rebased base) (if_sealed seal read)
    by None some = absurd cc
    by (Some seal) some =
        with_rebased texts.layout texts.generation (base_in layout (body_in layout texts.base)) (entries_in layout texts.entries) base some

-- a base alone, with its sum
pub spelled_alone : (generation : ℕ) (base : Base) → IsGoodBase base → spelled (record {
  layout = LAYOUT;
  generation = generation;
  base = sealed (start LAYOUT generation) (base_bytes base);
  entries = [];
}) ≡ with_base LAYOUT generation (Some base) (Some [])
spelled_alone generation base good =
    let before = start LAYOUT generation in
    let text = sealed before (base_bytes base) in
    ap (λ s. if_sealed s (with_base LAYOUT generation (base_in Fourth (body_of text)) (Some [])))
    (through_one before text (after before (base_bytes base)) (step_sealed before (base_bytes base)))
    ∙ ap (λ b. with_base LAYOUT generation (base_in Fourth b) (Some [])) (body_sealed before (base_bytes base))
    ∙ ap (λ b. with_base LAYOUT generation b (Some [])) (base_again base good)

-- the generation of the texts, if there are any
abbrev pub AreOf : ℕ → Option Texts → Type 0
AreOf generation None = Unit {0}
AreOf generation (Some texts) = texts.generation ≡ generation

pub sealed_rebased : (generation : ℕ) (text : List ℕ) (seal : Seal) (texts : Option Texts) → AreOf generation texts
    → through (start LAYOUT (generation + 1)) (text ∷ []) ≡ Some seal → AreSealed (option_map (rebased_text LAYOUT text) texts) seal
sealed_rebased generation text seal None of is = tt
sealed_rebased generation text seal (Some texts) of is = λ current. ap (λ n. through (start LAYOUT (n + 1)) (text ∷ [])) of ∙ is

pub typed_rebased : (generation : ℕ) (base : Base) → IsGoodBase base → (texts : Option Texts) → AreOf generation texts → IsSome (typed texts)
    → typed (option_map (rebased_text LAYOUT (sealed (start LAYOUT (generation + 1)) (base_bytes base))) texts) ≡ option_map (rebased base) (typed texts)
typed_rebased generation base good None of some = absurd cc
typed_rebased generation base good (Some texts) of some =
    ap (λ n. spelled (rebased_text LAYOUT (sealed (start LAYOUT (n + 1)) (base_bytes base)) texts)) (sym of)
    ∙ spelled_alone (texts.generation + 1) base good
    ∙ spelled_rebased (layout_of texts.layout) texts base some

-- ---- calls

pub not_both : (b : Bool) → b ≡ false → b ≡ true → ⊥
not_both b f t = cc

some_layout : (a b : Layout) → (let o : Option Layout = Some a in o) ≡ Some b → a ≡ b
some_layout a b is = cc

not_last : (n : ℕ) → n < 2 ^ 32 - 1 → n ≡ 2 ^ 32 - 1 → ⊥
not_last n lt e = absurd (omega arith)

module _ {D : Type 0} (state : D → State) where
  -- ---- an entry more

  -- a journal at rest in the layout that is written
  pub texts_current : (old : Journal D) → IsAtRest state old → old.layout ≡ LAYOUT → AreCurrent (texts_of state old)
  texts_current old rest current =
      subst AreCurrent (sym (contents_are state old rest.texts)) (sym rest.texts.layout ∙ current)

  module _ (old : Journal D) (seal : Seal) (entry : Entry) (text : List ℕ) (good : IsGoodEntry entry) (is : text ≡ sealed seal (entry_bytes entry))
      (some : IsSome (contents_of state old)) (current : AreCurrent (texts_of state old)) (so_far : AreSealed (texts_of state old) seal) where
    pub entry_after : typed (option_map (added_text text) (texts_of state old)) ≡ option_map (added entry) (contents_of state old)
    entry_after =
        ap (λ t. typed (option_map (added_text t) (texts_of state old))) is ∙ typed_added seal entry good (texts_of state old) current so_far
        ∙ ap (option_map (added entry)) (sym (texts_are state old some))

    pub append_moments : (new : Journal D)
        → AnyMoment state old new (IsEitherText (HoldsOne state old) (texts_of state old) (option_map (added_text text) (texts_of state old)))
        → AnyMoment state old new (IsEither (contents_of state old) (option_map (added entry) (contents_of state old)))
    append_moments new m = typed_moments state old new (option_map (added_text text) (texts_of state old))
        (option_map (added entry) (contents_of state old)) some (some_map (added entry) (contents_of state old) some) entry_after m

    append_some : (new : Journal D)
        → AnyMoment state old new (IsEitherText (HoldsOne state old) (texts_of state old) (option_map (added_text text) (texts_of state old)))
        → IsSome (contents_of state new)
    append_some new m = still_some state old new (option_map (added entry) (contents_of state old)) some
        (some_map (added entry) (contents_of state old) some) (append_moments new m)

  module _ (old new : Journal D) (seal : Seal) (entry : Entry) (text : List ℕ) (good : IsGoodEntry entry) (is : text ≡ sealed seal (entry_bytes entry))
      (sound : IsSound state old) (current : old.layout ≡ LAYOUT) (so_far : IsSealed state old seal)
      (moments : old.spent ≡ false
      → AnyMoment state old new (IsEitherText (HoldsOne state old) (texts_of state old) (option_map (added_text text) (texts_of state old)))) where
    texts_now : old.spent ≡ false → AreCurrent (texts_of state old)
    texts_now going = texts_current old (sound going) current

    appended_texts : old.spent ≡ false → contents_of state new ≡ typed (texts_of state new)
    appended_texts going = texts_are state new (append_some old seal entry text good is (sound going).some (texts_now going) (so_far going) new (moments going))

    pub append_row : (result : Result (Unit {0}) (Failure JournalFault)) → AppendsText state old text result new → Appends state old entry result new
    append_row (Ok u) r = (r.0, r.1, appended_texts r.0 ∙ ap typed r.2 ∙ entry_after old seal entry text good is (sound r.0).some (texts_now r.0) (so_far r.0))
    append_row (Err (Refused DiskFault)) r = r
    append_row (Err (Refused NotAJournal)) r = r
    append_row (Err (Refused Spent)) r = r
    append_row (Err (Refused GenerationsSpent)) r = r
    append_row (Err NoMemory) r = (r.0, r.1, r.2, appended_texts r.0 ∙ ap typed r.3 ∙ sym (texts_are state old (sound r.0).some))

    pub append_sound : AreTextsSound state new → (result : Result (Unit {0}) (Failure JournalFault)) → AppendsText state old text result new
        → IsSound state new
    append_sound texts (Ok u) r going = record { texts = texts going; some = append_some old seal entry text good is (sound r.0).some (texts_now r.0) (so_far r.0) new (moments r.0) }
    append_sound texts (Err (Refused DiskFault)) r going = absurd (not_both new.spent going r.1)
    append_sound texts (Err (Refused NotAJournal)) r going = absurd r
    append_sound texts (Err (Refused Spent)) r going = subst (IsSound state) (sym r.1) sound going
    append_sound texts (Err (Refused GenerationsSpent)) r going = absurd r
    append_sound texts (Err NoMemory) r going =
        record { texts = texts going; some = append_some old seal entry text good is (sound r.0).some (texts_now r.0) (so_far r.0) new (moments r.0) }

  -- ---- seals

  -- a spent journal keeps any seal
  pub spent_sealed : (journal : Journal D) (seal : Seal) → journal.spent ≡ true → IsSealed state journal seal
  spent_sealed journal seal spent = λ going. absurd (not_both journal.spent going spent)

  -- the texts are as they were
  pub same_sealed : (old new : Journal D) (seal : Seal) → old.spent ≡ false → texts_of state new ≡ texts_of state old → IsSealed state old seal
      → IsSealed state new seal
  same_sealed old new seal was same is = λ going. subst (λ (o : Option Texts). AreSealed o seal) (sym same) (is was)

  -- one more text
  pub append_sealed : (old new : Journal D) (seal next : Seal) (bytes text : List ℕ) → text ≡ sealed seal bytes → next ≡ after seal bytes
      → old.spent ≡ false → texts_of state new ≡ option_map (added_text text) (texts_of state old) → IsSealed state old seal → IsSealed state new next
  append_sealed old new seal next bytes text is leads was more so_far = λ going.
      subst (λ (o : Option Texts). AreSealed o next) (sym (more ∙ ap (λ t. option_map (added_text t) (texts_of state old)) is))
      (subst (λ s. AreSealed (option_map (added_text (sealed seal bytes)) (texts_of state old)) s) (sym leads)
      (sealed_added seal bytes (texts_of state old) (so_far was)))

  -- the texts that were found, read in their layout
  pub found_sealed : (journal : Journal D) (texts : Texts) (layout : Layout) (seal : Seal) → texts_of state journal ≡ Some texts
      → layout_of texts.layout ≡ Some layout → seal_by layout texts ≡ Some seal → IsSealed state journal seal
  found_sealed journal texts layout seal found known is = λ going.
      subst (λ (o : Option Texts). AreSealed o seal) (sym found)
      (λ current. let fourth : layout ≡ Fourth = some_layout layout Fourth (sym known ∙ ap layout_of current) in
      subst (λ l. seal_by l texts ≡ Some seal) fourth is)

  -- ---- another base

  -- a journal at rest is of its generation
  pub texts_at_rest : (old : Journal D) → AreTextsAtRest state old → AreOf old.generation (texts_of state old)
  texts_at_rest old rest = subst (AreOf old.generation) (sym (contents_are state old rest)) (sym rest.generation)

  pub texts_of_now : (old : Journal D) → IsAtRest state old → AreOf old.generation (texts_of state old)
  texts_of_now old rest = texts_at_rest old rest.texts

  module _ (old : Journal D) (base : Base) (text : List ℕ) (good : IsGoodBase base)
      (is : text ≡ sealed (start LAYOUT (old.generation + 1)) (base_bytes base)) (some : IsSome (contents_of state old))
      (now : AreOf old.generation (texts_of state old)) where
    pub base_after : typed (option_map (rebased_text LAYOUT text) (texts_of state old)) ≡ option_map (rebased base) (contents_of state old)
    base_after =
        let are = texts_are state old some in
        ap (λ t. typed (option_map (rebased_text LAYOUT t) (texts_of state old))) is
        ∙ typed_rebased old.generation base good (texts_of state old) now (some_is (typed (texts_of state old)) (contents_of state old) (sym are) some)
        ∙ ap (option_map (rebased base)) (sym are)

    pub rebase_moments : (new : Journal D)
        → AnyMoment state old new (IsEitherText (HoldsOne state old) (texts_of state old) (option_map (rebased_text LAYOUT text) (texts_of state old)))
        → AnyMoment state old new (IsEither (contents_of state old) (option_map (rebased base) (contents_of state old)))
    rebase_moments new m = typed_moments state old new (option_map (rebased_text LAYOUT text) (texts_of state old))
        (option_map (rebased base) (contents_of state old)) some (some_map (rebased base) (contents_of state old) some) base_after m

    rebase_some : (new : Journal D)
        → AnyMoment state old new (IsEitherText (HoldsOne state old) (texts_of state old) (option_map (rebased_text LAYOUT text) (texts_of state old)))
        → IsSome (contents_of state new)
    rebase_some new m = still_some state old new (option_map (rebased base) (contents_of state old)) some
        (some_map (rebased base) (contents_of state old) some) (rebase_moments new m)

  -- another text alone
  pub rebase_sealed : (old new : Journal D) (seal : Seal) (text : List ℕ) → AreOf old.generation (texts_of state old)
      → texts_of state new ≡ option_map (rebased_text LAYOUT text) (texts_of state old)
      → through (start LAYOUT (old.generation + 1)) (text ∷ []) ≡ Some seal → IsSealed state new seal
  rebase_sealed old new seal text now other is = λ going.
      subst (λ (o : Option Texts). AreSealed o seal) (sym other) (sealed_rebased old.generation text seal (texts_of state old) now is)

  module _ (old new : Journal D) (base : Base) (text : List ℕ) (good : IsGoodBase base)
      (is : text ≡ sealed (start LAYOUT (old.generation + 1)) (base_bytes base)) (sound : IsSound state old)
      (moments : old.spent ≡ false
      → AnyMoment state old new (IsEitherText (HoldsOne state old) (texts_of state old) (option_map (rebased_text LAYOUT text) (texts_of state old)))) where
    rebased_texts : old.spent ≡ false → contents_of state new ≡ typed (texts_of state new)
    rebased_texts going = texts_are state new (rebase_some old base text good is (sound going).some (texts_of_now old (sound going)) new (moments going))

    pub rebase_row : (result : Result (Unit {0}) (Failure JournalFault)) → RebasesText state old LAYOUT text result new → Rebases state old base result new
    rebase_row (Ok u) r = (r.0, r.1, r.2, r.3, rebased_texts r.0 ∙ ap typed r.4 ∙ base_after old base text good is (sound r.0).some (texts_of_now old (sound r.0)))
    rebase_row (Err (Refused DiskFault)) r = r
    rebase_row (Err (Refused NotAJournal)) r = r
    rebase_row (Err (Refused Spent)) r = r
    rebase_row (Err (Refused GenerationsSpent)) r = r
    rebase_row (Err NoMemory) r =
        (r.0, not_last old.generation r.1, r.2, r.3, rebased_texts r.0 ∙ ap typed r.4 ∙ sym (texts_are state old (sound r.0).some))

    pub rebase_sound : AreTextsSound state new → (result : Result (Unit {0}) (Failure JournalFault)) → RebasesText state old LAYOUT text result new
        → IsSound state new
    rebase_sound texts (Ok u) r going = record { texts = texts going; some = rebase_some old base text good is (sound r.0).some (texts_of_now old (sound r.0)) new (moments r.0) }
    rebase_sound texts (Err (Refused DiskFault)) r going = absurd (not_both new.spent going r.1)
    rebase_sound texts (Err (Refused NotAJournal)) r going = absurd r
    rebase_sound texts (Err (Refused Spent)) r going = subst (IsSound state) (sym r.1) sound going
    rebase_sound texts (Err (Refused GenerationsSpent)) r going = subst (IsSound state) (sym r.2) sound going
    rebase_sound texts (Err NoMemory) r going =
        record { texts = texts going; some = rebase_some old base text good is (sound r.0).some (texts_of_now old (sound r.0)) new (moments r.0) }
