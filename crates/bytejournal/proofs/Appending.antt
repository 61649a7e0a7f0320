-- An entry more, whatever crash comes.
use Rattle.std.proofs.Common.{◌≡◌, inl, inr, ⊎_elim, ◌<◌, ◌+◌, ◌^◌, ◌&&◌, ℕ, Bool, true, false, not, Option, None, Some, List, [], ◌∷◌, ◌++◌, length, get_or, take, drop, refl, sym, ◌∙◌, ap, subst, arith, length-append}
use Rattle.std.specs.Prelude.{option_map}
use Rattle.std.proofs.lemmas.List.{take_at, length-take}
use Rattle.std.proofs.Math.Seq.{get_or-append_seam}
use Rattle.disks.specs.State.{State, IsSettled, LeavesOnly}
use Rattle.bytejournal.specs.declared.journal.Journal.{Journal}
use Rattle.bytejournal.specs.Gates.{with_gate, closed_first, IsHalfWritten, IsHalfClosed}
use Rattle.bytejournal.specs.Meaning.{Contents, Held, added, held, chosen, meaning, IsFront, IsWhole}
use Rattle.bytejournal.specs.Meaning.Held.{Shut, Broken, Open}
use Rattle.bytejournal.specs.Journal.{IdleIs, IsEither, HoldsOne, EachMoment, contents_of, IsAtRest}
use Rattle.bytejournal.proofs.Closing.{first_shut, while_closing, IsIdleAfter, idle_after, half_closed}
use Rattle.bytejournal.proofs.Images.{Means, entry_bytes, at_gate, file_after, front_after, after_append, while_appending}
use Rattle.bytejournal.proofs.Pairs.{newer, both_written, none_written}

-- the contents of a disk that holds some
abbrev pub open_contents : Held → Option Contents
open_contents Shut = None
open_contents Broken = None
open_contents (Open contents) = Some contents

-- beside the active disk's contents the other disk's don't count
pub beside : (is_open : Bool) (contents : Contents) (bytes : List ℕ) → IdleIs is_open contents.generation bytes
    → chosen (Open contents) (held bytes) ≡ Some contents
beside false contents bytes is = ap (chosen (Open contents)) (first_shut bytes is.0 is.1).held_is
beside true contents bytes is = ap (chosen (Open contents)) is.1 ∙ newer contents is.0 is.2

pub meaning_is : (is_open : Bool) (contents : Contents) (image bytes : List ℕ) → Means image (Open contents)
    → IdleIs is_open contents.generation bytes → meaning image bytes ≡ Some contents
meaning_is is_open contents image bytes means idle = ap (λ (h : Held). chosen h (held bytes)) means.held_is ∙ beside is_open contents bytes idle

module _ {D : Type 0} (state : D → State) (journal : Journal D) (rest : IsAtRest state journal) where
  pub active_means : Means (state journal.active).seen (Open rest.contents)
  active_means = at_gate (state journal.active).seen journal.gate rest.contents rest.front rest.inside rest.closed

  pub contents_are : contents_of state journal ≡ Some rest.contents
  contents_are = meaning_is journal.idle_open rest.contents (state journal.active).seen (state journal.idle).seen active_means rest.idle

  pub still_either : (after : Option Contents)
      → IsEither (HoldsOne state journal) (contents_of state journal) after (state journal.active).seen (state journal.idle).seen
  still_either after =
      record { means = inl refl; nothing_else = λ contents one. inl one; first_whole = active_means.whole; second_whole = rest.idle_whole }

  pub nothing_happens : (after : Option Contents)
      → EachMoment (state journal.active) (state journal.idle) (state journal.active) (state journal.idle) (IsEither (HoldsOne state journal) (contents_of state journal) after)
  nothing_happens after = none_written state journal.active journal.idle
      (IsEither (HoldsOne state journal) (contents_of state journal) after) rest.active_settled rest.idle_settled (still_either after)

  module _ (entry : List ℕ) (small : length entry < 2 ^ 32) where
    pub appended_are : option_map (added entry) (contents_of state journal) ≡ Some (added entry rest.contents)
    appended_are = ap (option_map (added entry)) contents_are

    pub either_appended : (image other : List ℕ) → IsHalfWritten (state journal.active).seen journal.gate (entry_bytes entry ++ (0 ∷ [])) image
        → IsHalfClosed journal.idle_open (state journal.idle).seen other
        → IsEither (HoldsOne state journal) (contents_of state journal) (option_map (added entry) (contents_of state journal)) image other
    either_appended image other half closing =
        let beside = while_closing rest.contents.generation (state journal.idle).seen journal.idle_open other rest.idle rest.idle_whole closing in
        ⊎_elim
        (λ m. record {
          means = inl (meaning_is beside.is_open rest.contents image other m beside.idle ∙ sym contents_are);
          nothing_else = λ c one. inl (⊎_elim (λ h. inl (active_means.held_is ∙ sym m.held_is ∙ h)) (λ h. inr (beside.no_other c h)) one);
          first_whole = m.whole;
          second_whole = beside.whole;
        })
        (λ m. record {
          means = inr (meaning_is beside.is_open (added entry rest.contents) image other m beside.idle ∙ sym appended_are);
          nothing_else = λ c one. ⊎_elim (λ h. inr (appended_are ∙ ap open_contents (sym m.held_is ∙ h)))
              (λ h. inl (inr (beside.no_other c h))) one;
          first_whole = m.whole;
          second_whole = beside.whole;
        })
        (while_appending (state journal.active).seen journal.gate rest.contents rest.front rest.inside rest.closed entry small image half)

    module _ (active idle : D) (wants : Bool) where
      -- at each moment of an append
      pub append_moments : LeavesOnly (state journal.active) (state active) (IsHalfWritten (state journal.active).seen journal.gate (entry_bytes entry ++ (0 ∷ [])))
          → LeavesOnly (state journal.idle) (state idle) (IsHalfClosed (journal.idle_open && wants) (state journal.idle).seen)
          → EachMoment (state journal.active) (state journal.idle) (state active) (state idle)
          (IsEither (HoldsOne state journal) (contents_of state journal) (option_map (added entry) (contents_of state journal)))
      append_moments run closing =
          both_written state journal.active journal.idle active idle _ _ _ run closing
          (λ image other half left. either_appended image other half (half_closed journal.idle_open wants (state journal.idle).seen other left))

      module _ (written : (state active).seen ≡ with_gate (state journal.active).seen journal.gate (entry_bytes entry ++ (0 ∷ [])) 1)
          (closed : (state idle).seen ≡ closed_first (journal.idle_open && wants) (state journal.idle).seen) where
        left : IsIdleAfter journal.idle_open wants rest.contents.generation (state journal.idle).seen
        left = idle_after journal.idle_open wants rest.contents.generation (state journal.idle).seen rest.idle rest.idle_whole

        idle_is : IdleIs (journal.idle_open && not (journal.idle_open && wants)) rest.contents.generation (state idle).seen
        idle_is = subst (IdleIs (journal.idle_open && not (journal.idle_open && wants)) rest.contents.generation) (sym closed) left.idle

        pub idle_shut : wants ≡ true → held (state idle).seen ≡ Shut
        idle_shut is = subst (λ (l : List ℕ). held l ≡ Shut) (sym closed) (left.shut is)

        pub appended_counts : meaning (state active).seen (state idle).seen ≡ option_map (added entry) (contents_of state journal)
        appended_counts =
            meaning_is (journal.idle_open && not (journal.idle_open && wants)) (added entry rest.contents) (state active).seen (state idle).seen
            (subst (λ (l : List ℕ). Means l (Open (added entry rest.contents))) (sym written)
            (after_append (state journal.active).seen journal.gate rest.contents rest.front rest.inside rest.closed entry small)) idle_is
            ∙ sym appended_are

        pub rests_after : (size : ℕ) (still spent : Bool) → size ≡ length (entry_bytes entry ++ (0 ∷ []))
            → still ≡ journal.idle_open && not (journal.idle_open && wants) → IsSettled (state active) → IsSettled (state idle)
            → IsAtRest state (record {
              active = active;
              idle = idle;
              swapped = journal.swapped;
              idle_open = still;
              layout = journal.layout;
              generation = journal.generation;
              gate = journal.gate + size;
              spent = spent;
            })
        rests_after size still spent size_is still_is settled idle_settled =
            let file = (state journal.active).seen in
            let front = take journal.gate file ++ (1 ∷ entry_bytes entry) in
            let end = drop (journal.gate + 1 + length (entry_bytes entry ++ (0 ∷ []))) file in
            let whole : (state active).seen ≡ front ++ (0 ∷ end) = written
            ∙ file_after file journal.gate rest.contents rest.front rest.inside rest.closed entry small in
            let long : length front ≡ journal.gate + size =
            omega (
              arith,
              size_is,
              length-append (entry_bytes entry) (0 ∷ []),
              length-append (take journal.gate file)
                  (1 ∷ entry_bytes entry),
              length-take journal.gate file,
              rest.inside,
            ) in
            let front_is : take (journal.gate + size) (state active).seen ≡ front = ap (λ (l : List ℕ). take (journal.gate + size) l) whole
            ∙ take_at front (0 ∷ end) (journal.gate + size) long in
            let gate_is : get_or (state active).seen (journal.gate + size) 0 ≡ 0 = ap (λ (l : List ℕ). get_or l (journal.gate + size) 0) whole
            ∙ ap (λ (n : ℕ). get_or (front ++ (0 ∷ end)) n 0) (sym long) ∙ get_or-append_seam front 0 end 0 in
            record {
              contents = added entry rest.contents;
              front = subst (λ (l : List ℕ). IsFront l (added entry rest.contents)) (sym front_is)
                  (front_after file journal.gate rest.contents rest.front rest.inside rest.closed entry small);
              inside = omega (arith, ap length whole, length-append front (0 ∷ end), long);
              closed = λ is_one. let both : 0 ≡ 1 = sym gate_is ∙ is_one in absurd (omega arith);
              layout = rest.layout;
              generation = rest.generation;
              idle = subst (λ (b : Bool). IdleIs b rest.contents.generation (state idle).seen) (sym still_is) idle_is;
              idle_whole = subst IsWhole (sym closed) left.whole;
              active_settled = settled;
              idle_settled = idle_settled;
            }
