-- Another base, whatever crash comes.
use Rattle.std.proofs.Common.{◌≡◌, ◌⊎◌, inl, inr, ⊎_elim, ◌<◌, ◌+◌, ◌^◌, ℕ, Bool, true, Some, List, [], ◌∷◌, ◌++◌, length, get_or, take, drop, refl, sym, ◌∙◌, ap, subst, arith, append_assoc, length-append, take-append-drop}
use Rattle.std.specs.Prelude.{option_map}
use Rattle.std.specs.Int.{w32, to_be_bytes}
use Rattle.std.proofs.lemmas.List.{take_at}
use Rattle.std.proofs.lemmas.Bool.{cases_eq}
use Rattle.std.proofs.lemmas.Nat.{from_be_bytes-to_be_bytes_4}
use Rattle.std.proofs.Math.Seq.{get_or-append_seam}
use Rattle.disks.specs.State.{State, IsSettled, LeavesOnly}
use Rattle.bytejournal.specs.declared.journal.Journal.{Journal}
use Rattle.bytejournal.specs.Gates.{with_gate, closed_first, IsHalfWritten, IsHalfReplaced}
use Rattle.bytejournal.specs.Meaning.{Contents, Held, rebased, held, chosen, meaning, IsFront, IsWhole}
use Rattle.bytejournal.specs.Meaning.Held.{Shut, Open}
use Rattle.bytejournal.specs.Journal.{IdleIs, IsEither, HoldsOne, EachMoment, contents_of, IsAtRest}
use Rattle.bytejournal.proofs.Fronts.{front_start}
use Rattle.bytejournal.proofs.Images.{Means, means_open, means_shut, base_bytes}
use Rattle.bytejournal.proofs.Pairs.{newer, chosen_comm, meaning_comm, either_comm, flipped, one_written}
use Rattle.bytejournal.proofs.Closing.{IsClosed, is_closed, HoldsNoOther, shut_holds_none, while_closing}
use Rattle.bytejournal.proofs.Appending.{beside, open_contents, active_means, contents_are}

-- an image with the same closed first gate
same_first : (file image : List ℕ) → IsClosed file → take 1 image ≡ take 1 file → Means image Shut
same_first [] image closed same = absurd (omega (arith, closed.inside))
same_first (gate ∷ rest) image closed same = means_shut gate (drop 1 image) image closed.shut (sym (take-append-drop 1 image)
    ∙ ap (λ (l : List ℕ). l ++ drop 1 image) same)

module _ (contents : Contents) (layout : ℕ) (base : List ℕ) (small : length base < 2 ^ 32) (left : contents.generation + 1 < 2 ^ 32) where
  text : List ℕ
  text = base_bytes layout (contents.generation + 1) base ++ (0 ∷ [])

  pub front : IsFront (1 ∷ base_bytes layout (contents.generation + 1) base) (rebased layout base contents)
  front =
      subst (λ (n : ℕ). IsFront (1 ∷ base_bytes layout (contents.generation + 1) base) (record { layout = layout; generation = n; base = base; entries = [] }))
      (from_be_bytes-to_be_bytes_4 (contents.generation + 1) left)
      (front_start layout (to_be_bytes w32 (contents.generation + 1)) (to_be_bytes w32 (length base)) base refl refl (from_be_bytes-to_be_bytes_4 (length base) small))

  module _ (file : List ℕ) where
    rest : List ℕ
    rest = drop (0 + 1 + length (base_bytes layout (contents.generation + 1) base ++ (0 ∷ []))) file

    pub with_text : (gate : ℕ) → with_gate file 0 (base_bytes layout (contents.generation + 1) base ++ (0 ∷ [])) gate
        ≡ (gate ∷ base_bytes layout (contents.generation + 1) base) ++ (0 ∷ drop (0 + 1 + length (base_bytes layout (contents.generation + 1) base ++ (0 ∷ []))) file)
    with_text gate = ap (λ (l : List ℕ). gate ∷ l)
        (append_assoc (base_bytes layout (contents.generation + 1) base) (0 ∷ []) (drop (0 + 1 + length (base_bytes layout (contents.generation + 1) base ++ (0 ∷ []))) file))

    pub after_rebase : Means (with_gate file 0 (base_bytes layout (contents.generation + 1) base ++ (0 ∷ [])) 1) (Open (rebased layout base contents))
    after_rebase = means_open (1 ∷ base_bytes layout (contents.generation + 1) base) (rebased layout base contents) 0
        (drop (0 + 1 + length (base_bytes layout (contents.generation + 1) base ++ (0 ∷ []))) file)
        (with_gate file 0 (base_bytes layout (contents.generation + 1) base ++ (0 ∷ [])) 1) front (omega arith) (with_text 1)

    torn_start : IsClosed file → (image : List ℕ) → IsHalfWritten file 0 (base_bytes layout (contents.generation + 1) base ++ (0 ∷ [])) image
        → Means image Shut ⊎ Means image (Open (rebased layout base contents))
    torn_start closed image (inl same) = inl (same_first file image closed same)
    torn_start closed image (inr torn) = elim (cases_eq torn.0 1) [
      | inl is_one ↦ inr (subst (λ (l : List ℕ). Means l (Open (rebased layout base contents)))
          (sym (torn.1 ∙ ap (λ (g : ℕ). with_gate file 0 (base_bytes layout (contents.generation + 1) base ++ (0 ∷ [])) g) is_one)) after_rebase)
      | inr shut ↦ inl (means_shut torn.0 (base_bytes layout (contents.generation + 1) base ++
          (0 ∷ drop (0 + 1 + length (base_bytes layout (contents.generation + 1) base ++ (0 ∷ []))) file)) image shut (torn.1 ∙ with_text torn.0))
    ]

  -- what stands beside the active disk while it is replaced
  pub while_replacing : (is_open : Bool) (file image : List ℕ) → IdleIs is_open contents.generation file → IsWhole file
      → IsHalfReplaced is_open file (base_bytes layout (contents.generation + 1) base ++ (0 ∷ [])) image
      → (IsWhole image × (chosen (Open contents) (held image) ≡ Some contents) × HoldsNoOther file image) ⊎ Means image (Open (rebased layout base contents))
  while_replacing is_open file image idle whole (inl torn) =
      let is = while_closing contents.generation file is_open image idle whole (inr torn) in
      inl (is.whole, beside is.is_open contents image is.idle, is.no_other)
  while_replacing is_open file image idle whole (inr half) =
      ⊎_elim (λ m. inl (m.whole, ap (chosen (Open contents)) m.held_is, shut_holds_none file image m)) (λ m. inr m)
      (torn_start (closed_first is_open file) (is_closed is_open contents.generation file idle) image half)

module _ {D : Type 0} (state : D → State) (journal : Journal D) (rest : IsAtRest state journal) (layout : ℕ) (base : List ℕ) (small : length base < 2 ^ 32)
    (left : journal.generation + 1 < 2 ^ 32) where
  below : rest.contents.generation + 1 < 2 ^ 32
  below = omega (arith, rest.generation, left)

  pub rebased_are : option_map (rebased layout base) (contents_of state journal) ≡ Some (rebased layout base rest.contents)
  rebased_are = ap (option_map (rebased layout base)) (contents_are state journal rest)

  new_counts : (image : List ℕ) → Means image (Open (rebased layout base rest.contents))
      → meaning (state journal.active).seen image ≡ Some (rebased layout base rest.contents)
  new_counts image means =
      ap (λ (h : Held). chosen h (held image)) (active_means state journal rest).held_is ∙ ap (chosen (Open rest.contents)) means.held_is
      ∙ chosen_comm (Open rest.contents) (Open (rebased layout base rest.contents)) ∙ newer (rebased layout base rest.contents) rest.contents (omega arith)

  either_rebased : (image : List ℕ) → IsHalfReplaced journal.idle_open (state journal.idle).seen
      (base_bytes layout (rest.contents.generation + 1) base ++ (0 ∷ [])) image
      → IsEither (HoldsOne state journal) (contents_of state journal) (option_map (rebased layout base) (contents_of state journal)) image
      (state journal.active).seen
  either_rebased image half =
      ⊎_elim
      (λ old. record {
        means = inl (meaning_comm image (state journal.active).seen
            ∙ ap (λ (h : Held). chosen h (held image)) (active_means state journal rest).held_is ∙ old.1
            ∙ sym (contents_are state journal rest));
        nothing_else = λ c one. inl (⊎_elim (λ h. inr (old.2 c h)) (λ h. inl h) one);
        first_whole = old.0;
        second_whole = (active_means state journal rest).whole;
      })
      (λ m. record {
        means = inr (meaning_comm image (state journal.active).seen ∙ new_counts image m ∙ sym rebased_are);
        nothing_else = λ c one. ⊎_elim (λ h. inr (rebased_are ∙ ap open_contents (sym m.held_is ∙ h))) (λ h. inl (inl h)) one;
        first_whole =
            m.whole;
        second_whole = (active_means state journal rest).whole;
      })
      (while_replacing rest.contents layout base small below journal.idle_open (state journal.idle).seen image rest.idle rest.idle_whole half)

  module _ (idle : D) where
    -- at each moment of a rebase
    pub rebase_moments : LeavesOnly (state journal.idle) (state idle)
        (IsHalfReplaced journal.idle_open (state journal.idle).seen (base_bytes layout (journal.generation + 1) base ++ (0 ∷ [])))
        → EachMoment (state journal.active) (state journal.idle) (state journal.active) (state idle)
        (IsEither (HoldsOne state journal) (contents_of state journal) (option_map (rebased layout base) (contents_of state journal)))
    rebase_moments run =
        flipped state journal.idle journal.active idle journal.active _
        (either_comm (HoldsOne state journal) (contents_of state journal) (option_map (rebased layout base) (contents_of state journal)))
        (one_written state journal.idle journal.active idle _ _ rest.active_settled
        (subst (λ (n : ℕ). LeavesOnly (state journal.idle) (state idle)
        (IsHalfReplaced journal.idle_open (state journal.idle).seen (base_bytes layout (n + 1) base ++ (0 ∷ [])))) rest.generation run) either_rebased)

    module _ (written : (state idle).seen ≡ with_gate (closed_first journal.idle_open (state journal.idle).seen) 0
        (base_bytes layout (journal.generation + 1) base ++ (0 ∷ [])) 1) where
      written_by : (state idle).seen ≡ with_gate (closed_first journal.idle_open (state journal.idle).seen) 0
          (base_bytes layout (rest.contents.generation + 1) base ++ (0 ∷ [])) 1
      written_by = subst (λ (n : ℕ). (state idle).seen
          ≡ with_gate (closed_first journal.idle_open (state journal.idle).seen) 0 (base_bytes layout (n + 1) base ++ (0 ∷ [])) 1) rest.generation written

      new_means : Means (state idle).seen (Open (rebased layout base rest.contents))
      new_means = subst (λ (l : List ℕ). Means l (Open (rebased layout base rest.contents))) (sym written_by)
          (after_rebase rest.contents layout base small below (closed_first journal.idle_open (state journal.idle).seen))

      pub rebased_counts : meaning (state idle).seen (state journal.active).seen ≡ option_map (rebased layout base) (contents_of state journal)
      rebased_counts = meaning_comm (state idle).seen (state journal.active).seen ∙ new_counts (state idle).seen new_means ∙ sym rebased_are

      pub rests_rebased : (gate : ℕ) (swapped spent : Bool) → gate ≡ length (base_bytes layout (journal.generation + 1) base ++ (0 ∷ [])) → IsSettled (state idle)
          → IsAtRest state (record {
            active = idle;
            idle = journal.active;
            swapped = swapped;
            idle_open = true;
            layout = layout;
            generation = journal.generation + 1;
            gate = gate;
            spent = spent;
          })
      rests_rebased gate swapped spent gate_is settled =
          let n = rest.contents.generation + 1 in
          let f = 1 ∷ base_bytes layout n base in
          let end = drop (0 + 1 + length (base_bytes layout n base ++ (0 ∷ []))) (closed_first journal.idle_open (state journal.idle).seen) in
          let whole : (state idle).seen ≡ f ++ (0 ∷ end) = written_by
          ∙ with_text rest.contents layout base small below (closed_first journal.idle_open (state journal.idle).seen) 1 in
          let long : length f ≡ gate = omega (
            arith,
            gate_is,
            length-append (base_bytes layout (journal.generation + 1) base) (0 ∷ []),
            length-append
                (base_bytes layout n base) (0 ∷ []),
            rest.generation,
          ) in
          let front_is : take gate (state idle).seen ≡ f = ap (λ (l : List ℕ). take gate l) whole ∙ take_at f (0 ∷ end) gate long in
          let gate_zero : get_or (state idle).seen gate 0 ≡ 0 = ap (λ (l : List ℕ). get_or l gate 0) whole
          ∙ ap (λ (k : ℕ). get_or (f ++ (0 ∷ end)) k 0) (sym long) ∙ get_or-append_seam f 0 end 0 in
          record {
            contents = rebased layout base rest.contents;
            front = subst (λ (l : List ℕ). IsFront l (rebased layout base rest.contents)) (sym front_is) (front rest.contents layout base small below);
            inside = omega (arith, ap length whole, length-append f (0 ∷ end), long);
            closed = λ is_one. let both : 0 ≡ 1 = sym gate_zero ∙ is_one in absurd (omega arith);
            layout = refl;
            generation = omega (arith, rest.generation);
            idle = (rest.contents, (active_means state journal rest).held_is, omega arith);
            idle_whole = (active_means state journal rest).whole;
            active_settled = settled;
            idle_settled = rest.active_settled;
          }
