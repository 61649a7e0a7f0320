-- Journals that are made and opened, their contents read.
use Rattle.std.proofs.Common.{◌≡◌, ℕ, Bool, true, false, Option, None, Some, Result, Ok, Err, List, refl, sym, ap, subst, ◌∙◌}
use Rattle.std.specs.Prelude.{if◌then◌else◌}
use Rattle.bytetext.specs.declared.failure.Failure.{Failure}
use Rattle.bytetext.specs.declared.failure.Failure.TheVariants.{Refused, NoMemory}
use Rattle.disks.specs.State.{State}
use Rattle.bytejournal.specs.declared.fault.JournalFault.{JournalFault}
use Rattle.bytejournal.specs.declared.fault.JournalFault.TheVariants.{DiskFault, NotAJournal, Spent, GenerationsSpent}
use Rattle.bytejournal.specs.declared.journal.Journal.{Journal}
use Rattle.bytejournal.specs.declared.opening.Opened.{Opened as OpenedTexts}
use Rattle.bytejournal.specs.declared.opening.Returned.{Returned}
use Rattle.bytejournal.specs.declared.opening.Older.{Older}
use Rattle.bytejournal.specs.Meaning.{Contents as Texts, Held, held, chosen, meaning as meaning_in_texts}
use Rattle.bytejournal.specs.Meaning.Held.{Open}
use Rattle.bytejournal.specs.Journal.{IsAtRest as AreTextsAtRest, first_disk, second_disk, contents_of as texts_of}
use Rattle.bytejournal.specs.Opening.{new_contents as new_texts, Untouched, held_older, Creates as CreatesTexts, Refuses as RefusesTexts, Opens as OpensTexts, Restarts as RestartsTexts}
use Rattle.bytejournal.proofs.Pairs.{means_byte, meaning_comm as texts_comm}
use Rattle.bytejournal.proofs.Recovering.{some_is}
use Rattle.botjournal.specs.declared.base.Base.{Base}
use Rattle.botjournal.specs.declared.opening.OpenedJournal.{OpenedJournal}
use Rattle.botjournal.specs.declared.TheConstants.{LAYOUT}
use Rattle.botjournal.specs.Bases.{base_bytes, IsGoodBase}
use Rattle.botjournal.specs.declared.layouts.Layout.TheVariants.{Fourth}
use Rattle.botjournal.specs.declared.sums.Seal.{Seal}
use Rattle.botjournal.specs.Sums.{start, sealed, after}
use Rattle.botjournal.specs.Contents.{Contents, new_contents, seal_by, spelled, checked, typed, meaning}
use Rattle.botjournal.specs.Journal.{IsAtRest, contents_of, Creates, Refuses, Opens, Restarts, IsNotRefused, CannotRead, AreSealed, IsSealed, is_spelled, texts_found, contents_read, ReadsTexts}
use Rattle.botjournal.proofs.SumLaws.{step_sealed, through_one}
use Rattle.botjournal.proofs.JournalLaws.{spelled_alone}
use Rattle.botjournal.proofs.MeaningLaws.{meaning_comm, alone_means, found_means, means_none, contents_in_order}

some_not_none : (read : Option Contents) (contents : Contents) → read ≡ Some contents → read ≡ None → ⊥
some_not_none read contents is none = cc

module _ {D : Type 0} (state : D → State) where
  -- ---- made

  pub creates : (first second : D) (base : Base) (text : List ℕ) → IsGoodBase base → text ≡ sealed (start LAYOUT 1) (base_bytes base)
      → (journal : Journal D)
      → CreatesTexts state first second LAYOUT text (Ok journal) → Creates state first second base (Ok journal)
  creates first second base text good is journal r =
      let x = (state journal.active).seen in
      let contents : contents_of state journal ≡ Some (new_contents base) =
      ap (λ (h : Held). typed (chosen (checked (held x)) (checked h))) r.3
      ∙ alone_means (held x) (new_texts LAYOUT text) (ap (λ (h : Held). chosen (held x) h) (sym r.3) ∙ r.2) ∙ ap (λ t. spelled (new_texts LAYOUT t)) is
      ∙ spelled_alone 1 base good in
      (r.0, record { texts = r.1; some = some_is (contents_of state journal) (Some (new_contents base)) contents refl }, contents)

  -- the seal of a new journal is the one after its base
  pub new_is_sealed : (first second : D) (base : Base) (text : List ℕ) (seal : Seal) → text ≡ sealed (start LAYOUT 1) (base_bytes base)
      → seal ≡ after (start LAYOUT 1) (base_bytes base) → (journal : Journal D)
      → CreatesTexts state first second LAYOUT text (Ok journal) → IsSealed state journal seal
  new_is_sealed first second base text seal is next journal r = λ going.
      subst (λ (o : Option Texts). AreSealed o seal) (sym r.2)
      (λ current. ap (λ t. seal_by Fourth (new_texts LAYOUT t)) is
      ∙ through_one (start LAYOUT 1) (sealed (start LAYOUT 1) (base_bytes base)) (after (start LAYOUT 1) (base_bytes base)) (step_sealed (start LAYOUT 1) (base_bytes base))
      ∙ ap Some (sym next))

  -- ---- opened

  untouched_means : (first second first' second' : D) → Untouched (state first) (state first') → Untouched (state second) (state second')
      → meaning (state first').seen (state second').seen ≡ meaning (state first).seen (state second).seen
  untouched_means first second first' second' a b =
      ap (λ x. meaning x (state second').seen) a.seen ∙ ap (λ y. meaning (state first).seen y) b.seen

  -- the journal that was opened holds the texts that were found
  texts_in_order : (journal : Journal D)
      → texts_of state journal ≡ meaning_in_texts (state (first_disk journal)).seen (state (second_disk journal)).seen
  texts_in_order journal = by journal.swapped journal.active journal.idle
    where
      by : (swapped : Bool) (active idle : D) → meaning_in_texts (state active).seen (state idle).seen
          ≡ meaning_in_texts (state (if swapped then idle else active)).seen (state (if swapped then active else idle)).seen
      by false active idle = refl
      by true active idle = texts_comm (state active).seen (state idle).seen

  pub opened_texts : (first second : D) (texts : OpenedTexts D) → OpensTexts state first second (Ok texts)
      → texts_of state texts.journal ≡ Some (texts_found texts)
  opened_texts first second texts o =
      texts_in_order texts.journal
      ∙ ap (λ x. meaning_in_texts x (state (second_disk texts.journal)).seen) o.1.seen
      ∙ ap (λ y. meaning_in_texts (state first).seen y) o.2.seen
      ∙ o.0.found

  pub restarted_texts : (journal : Journal D) (texts : OpenedTexts D) → RestartsTexts state journal (Ok texts)
      → texts_of state texts.journal ≡ Some (texts_found texts)
  restarted_texts journal texts h = opened_texts h.0 h.1 texts h.4

  -- the texts that were found on the first disk
  found_first : (x y : List ℕ) (texts : Texts) (older : Option Older) → meaning_in_texts x y ≡ Some texts → held x ≡ Open texts
      → held y ≡ held_older older → meaning x y ≡ (if is_spelled older then spelled texts else None)
  found_first x y texts older counts active idle =
      ap (λ (h : Held). typed (chosen (checked h) (checked (held y)))) active
      ∙ ap (λ (h : Held). typed (chosen (checked (Open texts)) (checked h))) idle
      ∙ found_means texts older
      (ap (chosen (Open texts)) (sym idle) ∙ ap (λ (h : Held). chosen h (held y)) (sym active) ∙ counts)

  -- and whichever disk is active
  found_in_order : (swapped : Bool) (x y : List ℕ) (texts : Texts) (older : Option Older) → meaning_in_texts x y ≡ Some texts
      → held (if swapped then y else x) ≡ Open texts → held (if swapped then x else y) ≡ held_older older
      → meaning x y ≡ (if is_spelled older then spelled texts else None)
  found_in_order false x y texts older counts active idle = found_first x y texts older counts active idle
  found_in_order true x y texts older counts active idle =
      meaning_comm x y ∙ found_first y x texts older (texts_comm y x ∙ counts) active idle

  pub found_are_read : (first second : D) (texts : OpenedTexts D) → OpensTexts state first second (Ok texts)
      → meaning (state first).seen (state second).seen ≡ contents_read texts
  found_are_read first second texts o = found_in_order texts.journal.swapped (state first).seen (state second).seen (texts_found texts) texts.older
      o.0.found o.0.active o.0.idle

  opened_as_read : (first second : D) (texts : OpenedTexts D) → OpensTexts state first second (Ok texts) → (opened : OpenedJournal D)
      → ReadsTexts texts (Ok opened) → Opens state first second (Ok opened)
  opened_as_read first second texts o opened r =
      let journal : opened.journal ≡ texts.journal = r.0 in
      let found : meaning (state first).seen (state second).seen ≡ contents_read texts = found_are_read first second texts o in
      let read : meaning (state first).seen (state second).seen
      ≡ Some (record { layout = texts.journal.layout; generation = texts.journal.generation; base = opened.base; entries = opened.entries }) = found ∙ r.2 in
      let here : contents_of state texts.journal ≡ meaning (state first).seen (state second).seen =
      contents_in_order state texts.journal ∙ untouched_means first second (first_disk texts.journal) (second_disk texts.journal) o.1 o.2 in
      let rests : AreTextsAtRest state texts.journal → IsAtRest state texts.journal =
      λ rest. record { texts = rest; some = some_is (contents_of state texts.journal) _ (here ∙ read) refl } in (
        record {
          found = subst (λ j. meaning (state first).seen (state second).seen
              ≡ Some (record { layout = j.layout; generation = j.generation; base = opened.base; entries = opened.entries })) (sym journal) read;
          going = subst (λ j. j.spent ≡ false) (sym journal) o.0.going;
          whole = λ a b. r.1 ∙ o.0.whole a b;
          at_rest = λ whole. subst (λ j. IsAtRest state j) (sym journal) (rests (o.0.at_rest (sym r.1 ∙ whole)));
        },
        subst (λ j. Untouched (state first) (state (first_disk j))) (sym journal) o.1,
        subst (λ j. Untouched (state second) (state (second_disk j))) (sym journal) o.2,
      )

  why_not : (first second : D) (texts : OpenedTexts D) → OpensTexts state first second (Ok texts) → (error : Failure JournalFault)
      → CannotRead (contents_read texts) error → (first' second' : D) → Refuses state first second error first' second'
  why_not first second texts o (Refused DiskFault) r first' second' = absurd r
  why_not first second texts o (Refused NotAJournal) r first' second' = found_are_read first second texts o ∙ r
  why_not first second texts o (Refused Spent) r first' second' = r
  why_not first second texts o (Refused GenerationsSpent) r first' second' = r
  why_not first second texts o NoMemory r first' second' = means_byte (state first) (state second) (texts_found texts) o.0.found

  pub opens : (first second : D) (texts : OpenedTexts D) → OpensTexts state first second (Ok texts) → (result : Result (OpenedJournal D) (Returned D))
      → ReadsTexts texts result → Opens state first second result
  opens first second texts o (Ok opened) r = opened_as_read first second texts o opened r
  opens first second texts o (Err returned) r = (
    why_not first second texts o returned.error r.0 returned.disks.first returned.disks.second,
    subst (λ d. Untouched (state first) (state d)) (sym r.1) o.1,
    subst (λ d. Untouched (state second) (state d)) (sym r.2) o.2,
  )

  -- the journal of texts was not opened
  cannot_open : (first second first' second' : D) (error : Failure JournalFault) → RefusesTexts state first second error first' second'
      → Refuses state first second error first' second'
  cannot_open first second first' second' (Refused DiskFault) r = r
  cannot_open first second first' second' (Refused NotAJournal) r = means_none (state first).seen (state second).seen r
  cannot_open first second first' second' (Refused Spent) r = r
  cannot_open first second first' second' (Refused GenerationsSpent) r = r
  cannot_open first second first' second' NoMemory r = r

  pub opens_nothing : (first second : D) (returned : Returned D) → OpensTexts state first second (Err returned) → Opens state first second (Err returned)
  opens_nothing first second returned o =
      (cannot_open first second returned.disks.first returned.disks.second returned.error o.0, o.1, o.2)

  -- disks that mean a journal are never told to hold none
  pub not_refused : (first second : D) (result : Result (OpenedJournal D) (Returned D)) → Opens state first second result → (contents : Contents)
      → meaning (state first).seen (state second).seen ≡ Some contents → IsNotRefused result
  not_refused first second (Ok opened) o contents is = tt
  not_refused first second (Err returned) o contents is = λ refused.
      some_not_none (meaning (state first).seen (state second).seen) contents is
      (subst (λ error. Refuses state first second error returned.disks.first returned.disks.second) refused o.0)

  -- ---- opened again

  pub restarts_nothing : (journal : Journal D) (returned : Returned D) → RestartsTexts state journal (Err returned)
      → Restarts state journal (Err returned)
  restarts_nothing journal returned h = (h.0, h.1, h.2, h.3, opens_nothing h.0 h.1 returned h.4)

  pub restarts : (journal : Journal D) (texts : OpenedTexts D) → RestartsTexts state journal (Ok texts) → (result : Result (OpenedJournal D) (Returned D))
      → ReadsTexts texts result → Restarts state journal result
  restarts journal texts h result r = (h.0, h.1, h.2, h.3, opens h.0 h.1 texts h.4 result r)
