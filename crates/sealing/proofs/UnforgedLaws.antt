-- What opens was sealed: in order, with nothing left out or put in between.
use Rattle.std.proofs.Common.{◌≡◌, ℕ, zero, suc, ◌+◌, ◌<◌, List, [], ◌∷◌, ◌++◌, length, Some, sym, refl, ap, subst, ◌∙◌}
use Rattle.std.proofs.Common.{append_assoc, arith, slice_get}
use Rattle.std.specs.List.{AllByRecursion}
use Rattle.sealing.specs.declared.kind.Kind.{Kind}
use Rattle.sealing.specs.Records.{IsBody, sealed, all_sealed, carried}
use Rattle.sealing.specs.Streams.{Opening, Opens}
use Rattle.sealing.specs.Unforged.{IsUnforged}
use Rattle.sealing.proofs.RecordLemmas.{carried-append}

-- a list that has the items of another, each at its place, begins with them
get-front : (made front : List (List ℕ)) → ((i : ℕ) (x : List ℕ) → slice_get front i ≡ Some x → slice_get made i ≡ Some x)
    → (rest : List (List ℕ)) × (made ≡ front ++ rest)
get-front made [] each = (made, refl)
get-front [] (x ∷ xs) each = let none = each 0 x refl in cc
get-front (m ∷ made) (x ∷ xs) each =
    let more = get-front made xs (λ i y got. each (suc i) y got) in
    let first = each 0 x refl in
    let same : m ≡ x = cc in
    (more.0, ap (λ h. h ∷ made) same ∙ ap (λ t. x ∷ t) more.1)

-- what is at a place is good, and the place is within the list
good_at : (bodies : List (List ℕ)) (i : ℕ) (x : List ℕ) → AllByRecursion IsBody bodies → slice_get bodies i ≡ Some x
    → (i < length bodies) × IsBody x
good_at [] i x good got = cc
good_at (body ∷ bodies) zero x good got =
    let same : body ≡ x = cc in
    (omega arith, subst IsBody same good.0)
good_at (body ∷ bodies) (suc i) x good got =
    let more = good_at bodies i x good.1 got in
    (omega (arith, more.0), more.1)

-- the record of each body stands in the stream
stands-in : (key : List ℕ) (count : ℕ) (bodies : List (List ℕ)) (rest : List ℕ) (i : ℕ) (x : List ℕ) → slice_get bodies i ≡ Some x
    → (front : List ℕ) × ((back : List ℕ) × (all_sealed key count bodies ++ rest ≡ front ++ (sealed key (count + i) x ++ back)))
stands-in key count [] rest i x got = cc
stands-in key count (body ∷ bodies) rest zero x got =
    let same : body ≡ x = cc in (
      [],
      (
        all_sealed key (count + 1) bodies ++ rest,
        append_assoc (sealed key count body) (all_sealed key (count + 1) bodies) rest
            ∙ ap (λ b. sealed key count b ++ (all_sealed key (count + 1) bodies ++ rest)) same
            ∙ ap (λ c. sealed key c x ++ (all_sealed key (count + 1) bodies ++ rest)) {x = count} {y = count + 0} (omega arith),
      ),
    )
stands-in key count (body ∷ bodies) rest (suc i) x got =
    let more = stands-in key (count + 1) bodies rest i x got in (
      sealed key count body ++ more.0,
      (
        more.1.0,
        append_assoc (sealed key count body) (all_sealed key (count + 1) bodies) rest
            ∙ ap (λ l. sealed key count body ++ l) more.1.1
            ∙ ap (λ c. sealed key count body ++ (more.0 ++ (sealed key c x ++ more.1.0))) {x = count + 1 + i} {y = count + suc i} (omega arith)
            ∙ sym (append_assoc (sealed key count body) more.0 (sealed key (count + suc i) x ++ more.1.0)),
      ),
    )

pub bodies_were_sealed : (key given : List ℕ) (made bodies : List (List ℕ)) (opening : Opening)
    → IsUnforged key made given → Opens key given bodies opening → (rest : List (List ℕ)) × (made ≡ bodies ++ rest)
bodies_were_sealed key given made bodies opening unforged o = get-front made bodies each
  where
    each : (i : ℕ) (x : List ℕ) → slice_get bodies i ≡ Some x → slice_get made i ≡ Some x
    each i x got =
        let at = good_at bodies i x o.good got in
        let s = stands-in key 0 bodies o.rest i x got in
        unforged s.0 s.1.0 i x (omega (arith, at.0, o.few)) at.1
        (o.parts ∙ s.1.1 ∙ ap (λ c. s.0 ++ (sealed key c x ++ s.1.0)) {x = 0 + i} {y = i} (omega arith))

pub carried_was_sealed : (key given : List ℕ) (made bodies : List (List ℕ)) (opening : Opening) (kind : Kind)
    → IsUnforged key made given → Opens key given bodies opening → (rest : List ℕ) × (carried kind made ≡ carried kind bodies ++ rest)
carried_was_sealed key given made bodies opening kind unforged o =
    let front = bodies_were_sealed key given made bodies opening unforged o in
    (carried kind front.0, ap (carried kind) front.1 ∙ carried-append kind bodies front.0)
