-- What it means that a journal was cut short.
use Rattle.std.proofs.Common.{◌≡◌, ◌⊎◌, inl, inr, ◌-◌, ◌≤◌, ◌&&◌, ◌||◌, ℕ, Bool, true, false, Option, Some, None, is_some, List, ◌∷◌, length, refl, ap, arith, leb, ltb, eqb}
use Rattle.std.proofs.lemmas.Bool.Decides.{nat_tests}
use Rattle.bytejournal.specs.declared.ending.Counted.{Counted}
use Rattle.bytejournal.specs.declared.ending.IfOpen.{IfOpen}
use Rattle.std.specs.Prelude.{nat_lt}
use Rattle.bytejournal.specs.Ending.{AreFew, ending_of}
use Rattle.botjournal.specs.declared.TheConstants.{LAYOUT}
use Rattle.botjournal.specs.declared.sums.Seal.{Seal}
use Rattle.botjournal.specs.Sums.{start, through, AreCarried}
use Rattle.botjournal.specs.CutShort.{ShowsUncut, carries_sums, is_more, is_cut_beside, is_cut, is_cut_short, HasSums}
use Rattle.botjournal.proofs.SumLaws.{carried}

-- ---- what was cut off carries its sums

both : (a b : Bool) → a && b ≡ true → (a ≡ true) × (b ≡ true)
both true b is = (refl, is)
both false b is = absurd cc

one_of : (a b : Bool) → a || b ≡ true → (a ≡ true) ⊎ (b ≡ true)
one_of true b is = inl refl
one_of false b is = inr is

same_number : (a b : ℕ) → eqb a b ≡ true → a ≡ b
same_number a b is = grind (arith, nat_tests)

have_sums : (texts : IfOpen) → carries_sums texts ≡ true → HasSums texts
have_sums texts is =
    let parts = both (eqb texts.layout LAYOUT) (is_some (through (start LAYOUT texts.generation) (texts.base ∷ texts.entries))) is in
    (same_number texts.layout LAYOUT parts.0, by (through (start LAYOUT texts.generation) (texts.base ∷ texts.entries)) refl parts.1)
  where
    by : (seal : Option Seal) → through (start LAYOUT texts.generation) (texts.base ∷ texts.entries) ≡ seal → is_some seal ≡ true
        → AreCarried (start LAYOUT texts.generation) (texts.base ∷ texts.entries)
    by None is some = absurd cc
    by (Some seal) is some = carried (start LAYOUT texts.generation) (texts.base ∷ texts.entries) seal is

cut_beside : (other counted : Option Counted) (found : Option IfOpen) → is_cut_beside other counted found ≡ true
    → (texts : IfOpen) × (found ≡ Some texts) × HasSums texts
cut_beside other counted None is = absurd cc
cut_beside other counted (Some texts) is =
    (texts, refl, have_sums texts (both (is_more other counted texts) (carries_sums texts) is).1)

pub cut_carries : (first second : List ℕ) → is_cut_short first second ≡ true
    → (texts : IfOpen) × (((ending_of first).if_open ≡ Some texts) ⊎ ((ending_of second).if_open ≡ Some texts)) × HasSums texts
cut_carries first second is =
    by (one_of (is_cut (ending_of second).counted (ending_of first)) (is_cut (ending_of first).counted (ending_of second)) is)
  where
    by : (is_cut (ending_of second).counted (ending_of first) ≡ true) ⊎ (is_cut (ending_of first).counted (ending_of second) ≡ true)
        → (texts : IfOpen) × (((ending_of first).if_open ≡ Some texts) ⊎ ((ending_of second).if_open ≡ Some texts)) × HasSums texts
    by (inl cut) =
        let found = cut_beside (ending_of second).counted (ending_of first).counted (ending_of first).if_open cut in
        (found.0, inl found.1, found.2)
    by (inr cut) =
        let found = cut_beside (ending_of first).counted (ending_of second).counted (ending_of second).if_open cut in
        (found.0, inr found.1, found.2)

-- ---- one entry is what a crash leaves

neither : (a b : Bool) → a ≡ false → b ≡ false → a || b ≡ false
neither false b is other = other
neither true b is other = absurd cc

second_false : (a b : Bool) → b ≡ false → a && b ≡ false
second_false false b is = refl
second_false true b is = is

not_both : (a b : Bool) → a ≡ false → a && b ≡ false
not_both false b is = refl
not_both true b is = absurd cc

few_beside : (other counted : Option Counted) (found : Option IfOpen) → AreFew counted found → is_cut_beside other counted found ≡ false
few_beside other counted None few = refl
few_beside other None (Some texts) few =
    not_both (is_more other None texts) (carries_sums texts) (rw (ap length few) refl)
few_beside other (Some counted) (Some texts) few =
    not_both (is_more other (Some counted) texts) (carries_sums texts)
    (let less : leb 2 (length texts.entries - counted.entries) ≡ false = grind (arith, nat_tests, few) in less)

-- ---- a disk that wouldn't count either with its first gate open

behind : (shut counts entries : ℕ) (other counted : Option Counted) (found : Option IfOpen) → counted ≡ None
    → ((texts : IfOpen) → found ≡ Some texts → texts.generation ≡ shut) → other ≡ Some (record { generation = counts; entries = entries })
    → shut ≤ counts → is_cut_beside other counted found ≡ false
behind shut counts entries other counted None none is there fits = refl
behind shut counts entries other counted (Some texts) none is there fits = rw none (rw there
    (not_both (nat_lt 0 (length texts.entries) && nat_lt counts texts.generation) (carries_sums texts)
    (second_false (nat_lt 0 (length texts.entries)) (nat_lt counts texts.generation)
    (let same = is texts refl in let less : ltb counts texts.generation ≡ false = grind (arith, nat_tests, same, fits) in less))))

shown : (bytes other : List ℕ) → ShowsUncut bytes other → is_cut (ending_of other).counted (ending_of bytes) ≡ false
shown bytes other (inl few) = few_beside (ending_of other).counted (ending_of bytes).counted (ending_of bytes).if_open few
shown bytes other (inr is) =
    behind is.0 is.1 is.3.0 (ending_of other).counted (ending_of bytes).counted (ending_of bytes).if_open is.2.0 is.2.1 is.3.1 is.4

pub uncut : (first second : List ℕ) → ShowsUncut first second → ShowsUncut second first → is_cut_short first second ≡ false
uncut first second one other =
    neither (is_cut (ending_of second).counted (ending_of first)) (is_cut (ending_of first).counted (ending_of second))
    (shown first second one) (shown second first other)
