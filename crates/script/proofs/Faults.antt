-- Bytes are one script or have one first fault, and not both.
use Rattle.std.proofs.Common.{◌≡◌, ℕ, zero, suc, ◌<◌, ◌≤◌, true, List, length, take, drop, refl, sym, ap, subst, ◌∙◌, arith, ◌⊎◌, inl, inr, take-append-drop}
use Rattle.std.proofs.Common.{length-take}
use Rattle.std.proofs.lemmas.List.{take_all, take-take}
use Rattle.std.proofs.lemmas.Bool.{false≢true, cases_lt}
use Rattle.script.specs.declared.reading.Script.{Script}
use Rattle.script.specs.Reading.{said, begins_script, lines_of, Spells, BreaksAt, HasFault}
use Rattle.script.proofs.Sayings.{said-append, begins-front, in_zone-map}

-- the front of lines that can go on can go on
pub front_begins : (lines : List (List ℕ)) (k : ℕ) → begins_script (said lines) ≡ true → begins_script (said (take k lines)) ≡ true
front_begins lines k h =
    begins-front (said (take k lines)) (said (drop k lines))
    (ap begins_script (sym (said-append (take k lines) (drop k lines)) ∙ ap said (take-append-drop k lines)) ∙ h)

-- so no line of such lines breaks a rule
unbroken : (lines : List (List ℕ)) (place : ℕ) → begins_script (said lines) ≡ true → BreaksAt lines place → ⊥
unbroken lines place h broken = false≢true (sym broken.here ∙ front_begins lines (suc place) h)

-- and the first one that does is the only first one
not_before : (lines : List (List ℕ)) (i j : ℕ) → i < j → BreaksAt lines i → BreaksAt lines j → ⊥
not_before lines i j less first second =
    let front = front_begins (take j lines) (suc i) second.before in
    false≢true (sym first.here ∙ ap (λ ls. begins_script (said ls)) (sym (take-take (suc i) j lines (omega arith))) ∙ front)

-- bytes with a fault are no script
pub HasFault-not_spelled : (bytes : List ℕ) (line : ℕ) (script : Script) → HasFault bytes line → Spells bytes script → ⊥
HasFault-not_spelled bytes zero script (inl long) spelled = let short = spelled.short in omega arith
HasFault-not_spelled bytes zero script (inr none) spelled = let e = sym none ∙ spelled.says in cc
HasFault-not_spelled bytes (suc place) script fault spelled =
    unbroken (lines_of bytes) place (ap begins_script spelled.says ∙ in_zone-map script.zone script.commands) fault.1

-- the first fault is one line
pub HasFault-same : (bytes : List ℕ) (a b : ℕ) → HasFault bytes a → HasFault bytes b → a ≡ b
HasFault-same bytes zero zero p q = refl
HasFault-same bytes zero (suc j) (inl long) q = let short = q.0 in absurd (omega arith)
HasFault-same bytes zero (suc j) (inr none) q = absurd (unbroken (lines_of bytes) j (ap begins_script none) q.1)
HasFault-same bytes (suc i) zero p (inl long) = let short = p.0 in absurd (omega arith)
HasFault-same bytes (suc i) zero p (inr none) = absurd (unbroken (lines_of bytes) i (ap begins_script none) p.1)
HasFault-same bytes (suc i) (suc j) p q = by_order (cases_lt i j)
  where
    by_order : (i < j) ⊎ (j ≤ i) → suc i ≡ suc j
    by_order (inl less) = absurd (not_before (lines_of bytes) i j less p.1 q.1)
    by_order (inr most) = by_other (cases_lt j i)
      where
        by_other : (j < i) ⊎ (i ≤ j) → suc i ≡ suc j
        by_other (inl less) = absurd (not_before (lines_of bytes) j i less q.1 p.1)
        by_other (inr least) = let same : i ≡ j = omega arith in ap suc same

-- what one byte more than a script has tells of all bytes
pub Spells-take : (bytes : List ℕ) (script : Script) → Spells (take 1048577 bytes) script → Spells bytes script
Spells-take bytes script spelled =
    let short = spelled.short in
    let all : take 1048577 bytes ≡ bytes = take_all 1048577 bytes (omega (arith, length-take 1048577 bytes)) in
    subst (λ bs. Spells bs script) all spelled

pub HasFault-take : (bytes : List ℕ) (line : ℕ) → HasFault (take 1048577 bytes) line → HasFault bytes line
HasFault-take bytes line fault = by_length (cases_lt 1048577 (length bytes))
  where
    by_length : (1048577 < length bytes) ⊎ (length bytes ≤ 1048577) → HasFault bytes line
    by_length (inr few) = subst (λ bs. HasFault bs line) (take_all 1048577 bytes few) fault
    by_length (inl many) = of_many line fault
      where
        of_many : (line : ℕ) → HasFault (take 1048577 bytes) line → HasFault bytes line
        of_many zero fault = inl (omega arith)
        of_many (suc place) fault = let short = fault.0 in absurd (omega (arith, length-take 1048577 bytes))
