-- A new journal is at rest.
use Rattle.std.proofs.Common.{◌≡◌, ◌<◌, ◌+◌, ◌^◌, ℕ, false, Some, List, [], ◌∷◌, ◌++◌, length, get_or, take, drop, refl, sym, ◌∙◌, ap, subst, arith, length-append}
use Rattle.std.proofs.lemmas.List.{take_at}
use Rattle.std.proofs.Math.Seq.{get_or-append_seam}
use Rattle.disks.specs.State.{State, IsSettled}
use Rattle.bytejournal.specs.Gates.{with_gate, with_first}
use Rattle.bytejournal.specs.Meaning.{IsFront, IsWhole}
use Rattle.bytejournal.specs.Journal.{IsAtRest, contents_of}
use Rattle.bytejournal.specs.Opening.{new_contents, new_text}
use Rattle.bytejournal.proofs.Images.{base_bytes}
use Rattle.bytejournal.proofs.Fronts.{whole_shut}
use Rattle.bytejournal.proofs.Rebasing.{front, with_text}
use Rattle.bytejournal.proofs.Appending.{contents_are}

module _ {D : Type 0} (state : D → State) (first second : D) (layout : ℕ) (base old old' : List ℕ) (small : length base < 2 ^ 32)
    (first_is : (state first).seen ≡ with_gate old 0 (new_text layout base) 1) (second_is : (state second).seen
    ≡ with_first old' 0) (settled : IsSettled (state first)) (settled' : IsSettled (state second)) (gate : ℕ) (gate_is : gate ≡ 14 + length base) where
  pub new_at_rest : IsAtRest state (record { active = first; idle = second; swapped = false; idle_open = false; layout = layout; generation = 1; gate = gate; spent = false })
  new_at_rest =
      let f = 1 ∷ base_bytes layout 1 base in
      let end = drop (0 + 1 + length (base_bytes layout 1 base ++ (0 ∷ []))) old in
      let whole : (state first).seen ≡ f ++ (0 ∷ end) = first_is
      ∙ with_text (record { layout = layout; generation = 0; base = base; entries = [] }) layout base small (omega arith) old 1 in
      let long : length f ≡ gate = omega (arith, gate_is) in
      let front_is : take gate (state first).seen ≡ f = ap (λ (l : List ℕ). take gate l) whole ∙ take_at f (0 ∷ end) gate long in
      let gate_zero : get_or (state first).seen gate 0 ≡ 0 = ap (λ (l : List ℕ). get_or l gate 0) whole
      ∙ ap (λ (k : ℕ). get_or (f ++ (0 ∷ end)) k 0) (sym long) ∙ get_or-append_seam f 0 end 0 in
      record {
        contents = new_contents layout base;
        front = subst (λ (l : List ℕ). IsFront l (new_contents layout base)) (sym front_is)
            (front (record { layout = layout; generation = 0; base = base; entries = [] }) layout base small (omega arith));
        inside = omega (arith, ap length whole, length-append f (0 ∷ end), long);
        closed = λ is_one. let both : 0 ≡ 1 = sym gate_zero ∙ is_one in absurd (omega arith);
        layout = refl;
        generation = refl;
        idle = (
          omega (arith, ap length second_is),
          λ is_one. let both : 0 ≡ 1 = sym (ap (λ (l : List ℕ). get_or l 0 0) second_is)
              ∙ is_one in absurd (omega arith),
        );
        idle_whole = λ rest. subst (λ (l : List ℕ). IsWhole l) (sym second_is) (whole_shut 0 (drop 1 old') (omega arith)) rest;
        active_settled = settled;
        idle_settled = settled';
      }

  pub new_counts : contents_of state (record {
    active = first;
    idle = second;
    swapped = false;
    idle_open = false;
    layout = layout;
    generation = 1;
    gate = gate;
    spent = false;
  }) ≡ Some (new_contents layout base)
  unfolding new_at_rest
  new_counts = contents_are state (record {
    active = first;
    idle = second;
    swapped = false;
    idle_open = false;
    layout = layout;
    generation = 1;
    gate = gate;
    spent = false;
  }) new_at_rest
