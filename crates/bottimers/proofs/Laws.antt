-- A timer is due by the test exactly where one of its occurrences falls.
use Rattle.std.proofs.Common.{◌≡◌, ◌↔◌, ℕ, ◌+◌, ◌*◌, ◌/◌, ◌<◌, ◌≤◌, ◌⊎◌, true, leb, eqb, ◌||◌, IsTrue, arith, ap, ◌∙◌, sym, subst, inl, inr, ⊎_elim}
use Rattle.std.proofs.lemmas.Nat.{div-mul-add}
use Rattle.std.proofs.lemmas.Bool.{and_parts, and_from, or_cases, or_left, or_right, ltb-true, lt-ltb, leb-true, le-leb, eqb-true, eq-eqb}
use Rattle.bottimers.specs.declared.timer.Timer.{Timer}
use Rattle.bottimers.specs.Occurrences.{unit_of, occurrence, age, used, is_due, FallsDue}
use Rattle.bottimers.proofs.Jumps.{start_of-is}

-- the latest occurrence at or before the second of the kth is the kth
used-at : (m : Timer) (k t : ℕ) → 0 < m.interval → occurrence m k ≡ t → used m t ≡ k
used-at m k t counts at =
    let unit = ((start_of-is m.kind (unit_of m.kind m.made + m.interval * k) t).0 at).0 in
    let e : age m t ≡ k * m.interval + 0 = omega (arith, unit) in
    ap (λ x. x / m.interval) e ∙ div-mul-add k m.interval 0 counts

pub is_due-law : (t : ℕ) (m : Timer) → 0 < m.interval → IsTrue (is_due t m) ↔ FallsDue m t
is_due-law t m counts = (
  λ due.
      let outer = and_parts _ _ due in
      let inner = and_parts _ _ outer.0 in
      let reached : (m.count ≡ 0) ⊎ (used m t ≤ m.count) =
      ⊎_elim (λ z. inl (eqb-true _ _ z)) (λ l. inr (leb-true _ _ l)) (or_cases _ _ outer.1) in
      (used m t, (ltb-true _ _ inner.0, reached), eqb-true _ _ inner.1),
  λ falls.
      let k = falls.0 in
      let same : k ≡ used m t = sym (used-at m k t counts falls.2) in
      let positive : 0 < used m t = omega (arith, falls.1.0) in
      let at : occurrence m (used m t) ≡ t = subst (λ x. occurrence m x ≡ t) same falls.2 in
      let reached : (eqb m.count 0 || leb (used m t) m.count) ≡ true =
      ⊎_elim (λ z. or_left _ _ (eq-eqb _ _ z)) (λ l. or_right _ _ (le-leb _ _ (subst (λ x. x ≤ m.count) same l))) falls.1.1 in
      and_from _ _ (and_from _ _ (lt-ltb _ _ positive) (eq-eqb _ _ at)) reached,
)
