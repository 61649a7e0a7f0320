use Rattle.std.proofs.Common.{◌≡◌, ◌∙◌, [], length, ap, sym, subst, arith}
use Rattle.std.specs.Map.{values_of}
use Rattle.std.specs.Vec.Iter.{into_iter_items}
use Rattle.std.proofs.lemmas.List.{nil_from_length}
use Rattle.chanstate.specs.Seats.{AreUnder, seated}
use Rattle.chanstate.specs.Members.{listed, listed_each}
use Rattle.chanstate.proofs.newcomers.list_each.Goals as goal

pub list-requires-clause-indexed : goal.list-requires-clause-indexed
list-requires-clause-indexed c = c.loop-key.invariant.indexed

pub list-requires-clause-key : goal.list-requires-clause-key
list-requires-clause-key c =
    rw (c.loop-key.invariant.mapping) (subst (AreUnder c.args.seats.now.mapping) c.in-Some.ensures.steps.0 c.loop-key.invariant.keys).0

pub list-requires-clause-place : goal.list-requires-clause-place
list-requires-clause-place c = let left = ap length c.in-Some.ensures.steps.0 in omega (arith, left, c.loop-key.invariant.places)

pub list-requires-clause-entry : goal.list-requires-clause-entry
list-requires-clause-entry c = λ used. let left = ap length c.in-Some.ensures.steps.0 in omega (arith, left, c.loop-key.invariant.entries used)

pub loop-key-preserved : goal.loop-key-preserved
loop-key-preserved c =
    let at = c.loop-key in
    let steps = c.in-Some.ensures.steps.0 in
    let left = ap length steps in
    let rest = into_iter_items c.next.new.self in
    record {
      len = omega (arith, left, at.invariant.len, c.in-Some.ensures.steps.1);
      keys = (subst (AreUnder c.args.seats.now.mapping) steps at.invariant.keys).1;
      places = omega (arith, left, at.invariant.places, c.list.ensures.len, c.list.ensures.capacity);
      entries = λ used. omega (arith, left, at.invariant.entries (sym c.list.ensures.by_index ∙ used), c.list.ensures.entries);
      mapping = c.list.ensures.mapping ∙ at.invariant.mapping;
      indexed = c.list.ensures.indexed;
      listed = ap (listed_each c.args.seats.now.mapping (values_of rest))
          (c.list.ensures.listed ∙ ap (λ mapping. listed mapping c.in-Some.one (seated at.seats.places.items)) at.invariant.mapping) ∙ ap (λ es. listed_each c.args.seats.now.mapping (values_of es) (seated at.seats.places.items)) (sym steps)
          ∙ at.invariant.listed;
    }

pub returns-clause-listed : goal.returns-clause-listed
returns-clause-listed c =
    let at = c.loop-key in
    let empty : into_iter_items at.key-iterator ≡ [] = nil_from_length _ (sym at.invariant.len ∙ c.in-None.ensures.steps.0) in
    ap (λ es. listed_each c.args.seats.now.mapping (values_of es) (seated at.seats.places.items)) (sym empty) ∙ at.invariant.listed
    ∙ ap (λ es. listed_each c.args.seats.now.mapping (values_of es) (seated c.args.seats.now.places.items)) c.into_iter-key-iterator.ensures.into_iter_gives.0
