-- What a journal is opened as.
use Rattle.std.proofs.Common.{◌≡◌, ◌≢◌, IsTrue, ◌↔◌, ◌<◌, ◌≤◌, ℕ, Bool, true, false, Option, None, Some, Ok, List, [], ◌∷◌, ◌++◌, length, get_or, take, drop, refl, sym, ◌∙◌, ap, subst, arith, take-append-drop, length-drop, ltb}
use Rattle.std.proofs.lemmas.List.{append-nil, get_or-drop}
use Rattle.std.proofs.lemmas.Bool.Decides.{nat_tests}
use Rattle.std.specs.Prelude.{option_map, slice_index}
use Rattle.std.specs.Option.{is_some}
use Rattle.disks.specs.State.{State, IsSettled}
use Rattle.bytejournal.specs.declared.reading.Found.{Found}
use Rattle.bytejournal.specs.declared.journal.Journal.{Journal}
use Rattle.bytejournal.specs.declared.opening.Opened.{Opened}
use Rattle.bytejournal.specs.Meaning.{Contents, Held, held, chosen, IsFront, IsWhole}
use Rattle.bytejournal.specs.Meaning.Held.{Shut, Broken, Open}
use Rattle.bytejournal.specs.Reading.{IsFound, EndsAt}
use Rattle.bytejournal.specs.Journal.{IdleIs, IsAtRest}
use Rattle.bytejournal.specs.Opening.{Chooses, IsOpenedAs, opened_as, older_of, held_older}
use Rattle.bytejournal.proofs.Fronts.{front_closed, front_alone, shut_gate, whole_shut}
use Rattle.bytejournal.proofs.Images.{at_gate}
use Rattle.bytejournal.proofs.Pairs.{chosen_comm}

-- a disk whose first gate isn't open
pub shut_held : (bytes : List ℕ) → EndsAt bytes 0 → held bytes ≡ Shut
shut_held [] ends = refl
shut_held (gate ∷ rest) ends = shut_gate gate rest (ends (omega arith))

pub shut_idle : (generation : ℕ) (bytes : List ℕ) → EndsAt bytes 0 → IsWhole bytes → IdleIs false generation bytes
shut_idle generation [] ends whole = let both : Broken ≡ Shut = whole (1 ∷ []) in absurd (cc both)
shut_idle generation (gate ∷ rest) ends whole = (omega arith, ends (omega arith))

-- what a disk that was read holds
abbrev pub found_contents : Found → Contents
found_contents found = record { layout = found.layout; generation = found.generation; base = found.base; entries = found.entries }

module _ (bytes : List ℕ) (found : Found) (is : IsFound bytes found) where
  held_rest : (rest : List ℕ) → drop found.gate bytes ≡ rest → held bytes ≡ Open (found_contents found)
  held_rest [] none =
      let alone : bytes ≡ take found.gate bytes = sym (take-append-drop found.gate bytes) ∙ ap (λ (l : List ℕ). take found.gate bytes ++ l) none
      ∙ append-nil (take found.gate bytes) in
      ap held alone ∙ front_alone (take found.gate bytes) (found_contents found) is.front
  held_rest (gate ∷ rest) more =
      let inside : found.gate < length bytes = omega (arith, ap length more, length-drop found.gate bytes) in
      let at_gate : get_or bytes found.gate 0 ≡ gate = ap (λ (n : ℕ). get_or bytes n 0) (omega arith) ∙ sym (get_or-drop found.gate bytes 0 0)
      ∙ ap (λ (l : List ℕ). get_or l 0 0) more in
      ap held (sym (take-append-drop found.gate bytes) ∙ ap (λ (l : List ℕ). take found.gate bytes ++ l) more)
      ∙ front_closed (take found.gate bytes) (found_contents found) gate rest is.front (λ is_one. is.ends inside (at_gate ∙ is_one))

  pub found_held : held bytes ≡ Open (found_contents found)
  found_held = held_rest (drop found.gate bytes) refl

  -- where all gates are there, one ends the entries
  inside_rest : IsWhole bytes → (rest : List ℕ) → drop found.gate bytes ≡ rest → found.gate < length bytes
  inside_rest whole [] none =
      let alone : bytes ≡ take found.gate bytes = sym (take-append-drop found.gate bytes) ∙ ap (λ (l : List ℕ). take found.gate bytes ++ l) none
      ∙ append-nil (take found.gate bytes) in
      let cut : Broken ≡ Open (found_contents found) = sym (is.front (1 ∷ [])) ∙ ap (λ (l : List ℕ). held (l ++ 1 ∷ [])) (sym alone) ∙ whole (1 ∷ [])
      ∙ found_held in
      absurd (cc cut)
  inside_rest whole (gate ∷ rest) more = omega (arith, ap length more, length-drop found.gate bytes)

  pub found_inside : IsWhole bytes → found.gate < length bytes
  found_inside whole = inside_rest whole (drop found.gate bytes) refl

-- neither is newer
pub none_newer : (a b : Contents) → a.generation ≤ b.generation → b.generation ≤ a.generation → chosen (Open a) (Open b) ≡ None
none_newer a b le ge =
    let one : ltb b.generation a.generation ≡ false = grind (arith, nat_tests) in
    let other : ltb a.generation b.generation ≡ false = grind (arith, nat_tests) in
    rw (one, other) refl

-- Of the disk that isn't active: a gate ends what it holds where all its gates are there, and then it doesn't count.
pub record IsIdle (is_open : Bool) (generation : ℕ) (bytes : List ℕ) (gate : ℕ) : Type 0 where
  pub inside : IsWhole bytes → gate < length bytes
  pub rests : gate < length bytes → IdleIs is_open generation bytes × IsWhole bytes

shut_rests : (generation : ℕ) (bytes : List ℕ) → EndsAt bytes 0 → 0 < length bytes → IdleIs false generation bytes × IsWhole bytes
shut_rests generation [] ends inside = absurd (omega (arith, inside))
shut_rests generation (gate ∷ rest) ends inside = ((omega arith, ends (omega arith)), whole_shut gate rest (ends (omega arith)))

pub shut_is_idle : (generation : ℕ) (bytes : List ℕ) → EndsAt bytes 0 → IsIdle false generation bytes 0
shut_is_idle generation bytes ends = record { inside = λ whole. (shut_idle generation bytes ends whole).0; rests = shut_rests generation bytes ends }

pub found_is_idle : (generation : ℕ) (bytes : List ℕ) (found : Found) → IsFound bytes found → found.generation < generation
    → IsIdle true generation bytes found.gate
found_is_idle generation bytes found is older = record {
  inside = found_inside bytes found is;
  rests = λ inside. (
    (found_contents found, found_held bytes found is, older),
    (at_gate bytes found.gate (found_contents found) is.front inside (is.ends inside)).whole,
  );
}

module _ {D : Type 0} (state : D → State) where
  module _ (active idle : D) (swapped whole : Bool) (found : Found) (older : Option Found) (gate : ℕ) (is : IsFound (state active).seen found)
      (beside : IsIdle (is_some older) found.generation (state idle).seen gate)
      (test : IsTrue whole ↔ ((found.gate < length (state active).seen) × (gate < length (state idle).seen))) where
    found_at_rest : IsSettled (state active) → IsSettled (state idle) → whole ≡ true
        → IsAtRest state (opened_as active idle swapped whole found older).journal
    found_at_rest settled settled' is_whole =
        let inside = test.0 is_whole in
        record {
          contents = found_contents found;
          front = is.front;
          inside = inside.0;
          closed = is.ends inside.0;
          layout = refl;
          generation = refl;
          idle = (beside.rests inside.1).0;
          idle_whole = (beside.rests inside.1).1;
          active_settled = settled;
          idle_settled = settled';
        }

    found_whole : IsWhole (state active).seen → IsWhole (state idle).seen → whole ≡ true
    found_whole active_whole idle_whole = test.1 (found_inside (state active).seen found is active_whole, beside.inside idle_whole)

  -- a journal at rest is so on disks in the same state
  same_rest : (journal : Journal D) (active idle : D) → state active ≡ state journal.active → state idle ≡ state journal.idle
      → IsAtRest state journal → IsAtRest state (record journal { active = active; idle = idle })
  same_rest journal active idle one two is = record {
    contents = is.contents;
    front = subst (λ (s : State). IsFront (take journal.gate s.seen) is.contents) (sym one) is.front;
    inside = subst (λ (s : State). journal.gate < length s.seen) (sym one) is.inside;
    closed = subst (λ (s : State). slice_index s.seen journal.gate ≢ 1) (sym one) is.closed;
    layout = is.layout;
    generation = is.generation;
    idle = subst (λ (s : State). IdleIs journal.idle_open is.contents.generation s.seen) (sym two) is.idle;
    idle_whole = subst (λ (s : State). IsWhole s.seen) (sym two) is.idle_whole;
    active_settled = subst IsSettled (sym one) is.active_settled;
    idle_settled = subst IsSettled (sym two) is.idle_settled;
  }

  pub opens_first : (first second : D) (whole : Bool) (found : Found) (older : Option Found) (gate : ℕ) (result : Opened D)
      → IsOpenedAs state first second false whole found older result → IsFound (state first).seen found
      → held (state second).seen ≡ held_older (option_map older_of older)
      → chosen (Open (found_contents found)) (held (state second).seen) ≡ Some (found_contents found)
      → IsIdle (is_some older) found.generation (state second).seen gate
      → (IsTrue whole ↔ ((found.gate < length (state first).seen) × (gate < length (state second).seen))) → Chooses state first second (Ok result)
  opens_first first second whole found older gate result is reads other counts beside test =
      subst (λ r. Chooses state first second (Ok r)) (sym is.opened_is) (
        is.active_is,
        is.idle_is,
        λ settled settled'. record {
          found = ap (λ (h : Held). chosen h (held (state second).seen)) (found_held (state first).seen found reads) ∙ counts;
          active = found_held (state first).seen found reads;
          idle = other;
          going = refl;
          whole = found_whole first second false whole found older gate reads beside test;
          at_rest = λ is_whole. same_rest (opened_as first second false whole found older).journal result.journal.active result.journal.idle
              is.active_is is.idle_is (found_at_rest first second false whole found older gate reads beside test settled settled' is_whole);
        },
      )

  pub opens_second : (first second : D) (whole : Bool) (found : Found) (older : Option Found) (gate : ℕ) (result : Opened D)
      → IsOpenedAs state second first true whole found older result → IsFound (state second).seen found
      → held (state first).seen ≡ held_older (option_map older_of older)
      → chosen (Open (found_contents found)) (held (state first).seen) ≡ Some (found_contents found) → IsIdle (is_some older) found.generation (state first).seen gate
      → (IsTrue whole ↔ ((found.gate < length (state second).seen) × (gate < length (state first).seen))) → Chooses state first second (Ok result)
  opens_second first second whole found older gate result is reads other counts beside test =
      subst (λ r. Chooses state first second (Ok r)) (sym is.opened_is) (
        is.idle_is,
        is.active_is,
        λ settled settled'. record {
          found = ap (chosen (held (state first).seen)) (found_held (state second).seen found reads)
              ∙ chosen_comm (held (state first).seen) (Open (found_contents found)) ∙ counts;
          active = found_held (state second).seen found reads;
          idle = other;
          going = refl;
          whole = λ first_whole second_whole. found_whole second first true whole found older gate reads beside test second_whole first_whole;
          at_rest = λ is_whole. same_rest (opened_as second first true whole found older).journal result.journal.active result.journal.idle
              is.active_is is.idle_is (found_at_rest second first true whole found older gate reads beside test settled' settled is_whole);
        },
      )
