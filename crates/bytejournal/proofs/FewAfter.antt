-- Disks after whose last gate stands what a crash may leave.
use Rattle.std.proofs.Common.{◌≡◌, inl, inr, ◌<◌, ◌+◌, Bool, true, false, if◌then◌else◌, ℕ, zero, suc, Option, None, Some, List, [], ◌∷◌, ◌++◌, length, take, drop, set, refl, sym, ◌∙◌, ap, subst, arith, length-append, take-append-drop, ltb, ltb-true}
use Rattle.std.proofs.lemmas.List.{take-set, drop-set}
use Rattle.std.proofs.Math.Seq.{drop-append-add}
use Rattle.std.specs.Prelude.{slice_set}
use Rattle.bytejournal.specs.declared.reading.Front.{Front}
use Rattle.bytejournal.specs.declared.reading.Found.{Found}
use Rattle.bytejournal.specs.Meaning.{Contents, Held, sized, entries_from, entries_within, entries_of, extended, from_base, from_generation, from_letters, held}
use Rattle.bytejournal.specs.Meaning.Held.{Broken, Open}
use Rattle.bytejournal.specs.Reading.{EndAt, HasEntries, HasFront, IsFound}
use Rattle.bytejournal.specs.Ending.{AreFew, CountsAt, HasFewAfter, HasFewMore, IsAtMostOne, counted, end_gate, if_open, is_open, with_open, size_of}
use Rattle.bytejournal.proofs.Fronts.{start}
use Rattle.bytejournal.proofs.Starts.{is_found, size, split}
use Rattle.bytejournal.proofs.Choosing.{found_contents, found_held}
use Rattle.bytejournal.proofs.Endings.{found_end}

abbrev start_of : Front → Contents
start_of front = record { layout = front.layout; generation = front.generation; base = front.base.now; entries = [] }

-- what is read of bytes that begin so
front_read : (bytes : List ℕ) (front : Front) → HasFront bytes front
    → from_letters bytes ≡ extended (start_of front) (entries_of front.rest.now)
front_read bytes front is =
    ap from_letters is.begins ∙ ap (from_generation front.layout) is.number ∙ ap (from_base front.layout front.generation) is.text

-- no entry is read where no open gate stands
none_open : (limit : ℕ) (bytes : List ℕ) → is_open bytes ≡ false → entries_within limit bytes ≡ Some []
none_open zero bytes closed = refl
none_open (suc limit) [] closed = refl
none_open (suc limit) (gate ∷ rest) closed = rw closed refl

open_unread : (rest : List ℕ) → from_letters rest ≡ Broken → HasFewAfter (1 ∷ rest)
open_unread rest is = rw is tt

-- what an open gate after the entries leaves of them
few_entries : (contents : Contents) (bytes : List ℕ) → IsAtMostOne bytes → (text : Option (List ℕ × List ℕ)) → sized bytes ≡ text
    → AreFew (Some (record { generation = contents.generation; entries = length contents.entries }))
    (if_open (extended contents (entries_from (λ more. entries_within (length bytes) more) text)))
few_entries contents bytes one None is = tt
few_entries contents bytes one (Some first) is =
    let closed : entries_within (length bytes) first.1 ≡ Some [] = none_open (length bytes) first.1 (one first.0 first.1 is) in
    rw closed (omega (arith, length-append contents.entries (first.0 ∷ [])))

module _ (rest : List ℕ) (front : Front) (is : HasFront rest front) where
  open_cut : entries_of front.rest.now ≡ None → HasFewAfter (1 ∷ rest)
  open_cut cut = open_unread rest (front_read rest front is ∙ ap (extended (start_of front)) cut)

  module _ (gate : ℕ) (texts : List (List ℕ)) (has : HasEntries front.rest.now (record { texts = texts; gate = gate })) (one : gate < length front.rest.now
      → IsAtMostOne (drop (gate + 1) front.rest.now)) where
    abbrev bytes : List ℕ
    bytes = 1 ∷ rest

    abbrev found : Found
    found = record {
      layout = front.layout;
      generation = front.generation;
      base = front.base.now;
      entries = texts;
      gate = 14 + length front.base.now + gate;
    }

    is_read : IsFound bytes found
    is_read =
        is_found rest is.numbers is.sizes front.base.now front.rest.now front.layout front.generation is.begins is.number is.text
        (record { texts = texts; gate = gate }) has

    abbrev before : List ℕ
    before = start front.layout (take 4 is.numbers) (take 4 is.sizes) front.base.now

    long : length before ≡ 14 + length front.base.now
    long = size rest is.numbers is.sizes front.base.now front.rest.now front.layout front.generation is.begins is.number is.text

    parts : bytes ≡ before ++ front.rest.now
    parts = split rest is.numbers is.sizes front.base.now front.rest.now front.layout front.generation is.begins is.number is.text

    -- what stands after the gate
    behind : drop (found.gate + 1) bytes ≡ drop (gate + 1) front.rest.now
    behind =
        ap (λ (l : List ℕ). drop (found.gate + 1) l) parts
        ∙ ap (λ (n : ℕ). drop n (before ++ front.rest.now)) (omega (arith, long))
        ∙ drop-append-add before front.rest.now (gate + 1)

    opened : found.gate < length bytes → held (slice_set bytes found.gate 1) ≡ extended (found_contents found) (entries_of (1 ∷ drop (gate + 1) front.rest.now))
    opened inside =
        ap held (sym (take-append-drop found.gate (set bytes found.gate 1))
        ∙ ap (λ (l : List ℕ). l ++ drop found.gate (set bytes found.gate 1)) (take-set bytes found.gate 1)
        ∙ ap (λ (l : List ℕ). take found.gate bytes ++ l) (drop-set bytes found.gate 1 inside))
        ∙ is_read.front (1 ∷ drop (found.gate + 1) bytes)
        ∙ ap (λ (l : List ℕ). extended (found_contents found) (entries_of (1 ∷ l))) behind

    with_gate : (is_inside : Bool) → ltb found.gate (length bytes) ≡ is_inside
        → AreFew (counted (Open (found_contents found))) (if_open (if is_inside then held (slice_set bytes found.gate 1) else Broken))
    with_gate false test = tt
    with_gate true test =
        let inside : found.gate < length bytes = ltb-true _ _ test in
        let inside_rest : gate < length front.rest.now = omega (arith, inside, long, ap length parts, length-append before front.rest.now) in
        rw (opened inside) (few_entries (found_contents found) (drop (gate + 1) front.rest.now) (one inside_rest) (sized (drop (gate + 1) front.rest.now)) refl)

    pub open_few : HasFewAfter (1 ∷ rest)
    open_few =
        let holds : held bytes ≡ Open (found_contents found) = found_held bytes found is_read in
        let ends : found.gate ≡ 14 + length front.base.now + size_of texts = found_end bytes found is_read in
        subst (λ (h : Held). AreFew (counted h) (if_open (with_open bytes (end_gate h)))) (sym holds)
        (subst (λ (n : ℕ). AreFew (counted (Open (found_contents found))) (if_open (with_open bytes (Some n)))) ends
        (with_gate (ltb found.gate (length bytes)) refl))

-- what counts where the entries end at a gate
pub open_counts : (rest : List ℕ) (front : Front) (gate : ℕ) → HasFront rest front → EndAt front.rest.now gate → CountsAt (1 ∷ rest) front.generation
open_counts rest front gate is has =
    let found : Found = record {
      layout = front.layout;
      generation = front.generation;
      base = front.base.now;
      entries = has.0;
      gate = 14 + length front.base.now + gate;
    } in
    let holds : held (1 ∷ rest) ≡ Open (found_contents found) = found_held (1 ∷ rest) found
    (is_found rest is.numbers is.sizes front.base.now front.rest.now front.layout front.generation is.begins is.number is.text
    (record { texts = has.0; gate = gate }) has.1) in
    (length has.0, ap counted holds)

-- where the entries are cut short, or at most one more stands after them
pub open_more : (rest : List ℕ) (front : Front) → HasFront rest front → HasFewMore front.rest.now → HasFewAfter (1 ∷ rest)
open_more rest front is (inl cut) = open_cut rest front is cut
open_more rest front is (inr more) = open_few rest front is more.0 more.1.0 more.1.1 more.2
