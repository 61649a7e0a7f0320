-- Which servers are tried one after another.
use Rattle.std.proofs.Common.{◌≡◌, ◌⊎◌, inl, inr, ◌+◌, ◌-◌, ◌<◌, ◌≤◌, ◌==◌, ℕ, suc, Bool, true, false, List, [], ◌∷◌, length, refl, arith}
use Rattle.std.specs.Prelude.{if◌then◌else◌}
use Rattle.std.proofs.lemmas.Bool.{eqb-true, eqb-false}
use Rattle.net.specs.Dials.{Dials}
use Rattle.net.specs.Turns.{Loss, after_loss, after_losses, IsTriedSoon}

-- ---- the place after some losses

-- so many losses lead from this place to that one, within the list or once round it
abbrev Leads : ℕ → ℕ → ℕ → ℕ → Type 0
Leads servers place count to = (place + count ≡ to) ⊎ (place + count ≡ to + servers)

leads_on : (servers place count to : ℕ) (b : Bool) → (suc place == servers) ≡ b → to < servers → Leads servers place (suc count) to
    → Leads servers (if b then 0 else suc place) count to
leads_on servers place count to true last within (inl is) = absurd (omega (arith, eqb-true (suc place) servers last, within, is))
leads_on servers place count to true last within (inr is) = inl (omega (arith, eqb-true (suc place) servers last, is))
leads_on servers place count to false last within (inl is) = inl (omega (arith, is))
leads_on servers place count to false last within (inr is) = inr (omega (arith, is))

within_on : (servers place : ℕ) (b : Bool) → (suc place == servers) ≡ b → place < servers → (if b then 0 else suc place) < servers
within_on servers place true last within = omega (arith, within)
within_on servers place false last within = omega (arith, eqb-false (suc place) servers last, within)

after_all : (dials : Dials) (losses : List Loss) (to : ℕ) → dials.place < dials.servers → to < dials.servers
    → Leads dials.servers dials.place (length losses) to → (after_losses dials losses).place ≡ to
after_all dials [] to within to_within (inl is) = omega (arith, is)
after_all dials [] to within to_within (inr is) = absurd (omega (arith, is, within))
after_all dials (loss ∷ losses) to within to_within leads =
    after_all (after_loss dials loss) losses to
    (within_on dials.servers dials.place (suc dials.place == dials.servers) refl within)
    to_within
    (leads_on dials.servers dials.place (length losses) to (suc dials.place == dials.servers) refl to_within leads)

-- ---- each server is tried soon

in_order : (a b : ℕ) → (a ≤ b) ⊎ (b < a)
in_order a b = grind arith

pub tried_soon : (dials : Dials) (place : ℕ) → dials.place < dials.servers → place < dials.servers → IsTriedSoon dials place
tried_soon dials place within to_within = by_order (in_order dials.place place)
  where
    by_order : (dials.place ≤ place) ⊎ (place < dials.place) → IsTriedSoon dials place
    by_order (inl before) = record {
      count = place - dials.place;
      few = omega (arith, to_within);
      tried = λ losses count. after_all dials losses place within to_within (inl (omega (arith, count, before)));
    }
    by_order (inr after) = record {
      count = place + dials.servers - dials.place;
      few = omega (arith, within, after);
      tried = λ losses count. after_all dials losses place within to_within (inr (omega (arith, count, within, after)));
    }
