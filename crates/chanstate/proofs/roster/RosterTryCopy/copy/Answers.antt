use Rattle.std.proofs.Common.{◌∙◌, ap, sym, subst, map, Some}
use Rattle.chanstate.specs.Seats.{AreIndexed, seated}
use Rattle.chanstate.proofs.SeatLemmas.{seats-taken, seated-taken}
use Rattle.chanstate.proofs.roster.RosterTryCopy.copy.Goals as goal

pub invariant_of-result : goal.invariant_of-result
invariant_of-result c = λ used.
    let ps = c.self.inside.seats.places.items in
    let places-is = c.in_ok-places.ensures ∙ ap (map (λ m. Some m)) (c.in_ok-members.ensures.copies ∙ ap seated c.as_slice.ensures.value) ∙ seats-taken ps in
    subst (λ qs. AreIndexed c.self.inside.seats.mapping qs c.in_ok-index.index.entries) (sym places-is) (c.in_ok-index.ensures used)

pub returns : goal.returns
returns c =
    let ps = c.self.inside.seats.places.items in
    let places-is = c.in_ok-places.ensures ∙ ap (map (λ m. Some m)) (c.in_ok-members.ensures.copies ∙ ap seated c.as_slice.ensures.value) ∙ seats-taken ps in
    ap seated places-is ∙ seated-taken ps ∙ c.self.view_is
