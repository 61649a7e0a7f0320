use Rattle.std.proofs.Common.{◌<◌, ◌∙◌, ◌++◌, ap, sym, subst, length, take, arith}
use Rattle.std.proofs.lemmas.Result.{err_from_is_err_and}
use Rattle.std.specs.Option.{option_to_list}
use Rattle.chanstate.specs.Seats.{seated}
use Rattle.chanstate.proofs.SeatLemmas.{filter_map-more, seated-some}
use Rattle.chanstate.proofs.copies.copies_of.Goals as goal

pub loop-place-preserved : goal.loop-place-preserved
loop-place-preserved c =
    let seats = c.args.places.now in
    let i = c.loop-place.place-index in
    let less : i < length seats = omega arith in
    c.in_ok-push_copy.ensures.copy ∙ ap (λ ms. ms ++ option_to_list c.place-item.result) c.loop-place.invariant
    ∙ ap (λ o. seated (take i seats) ++ option_to_list o) c.place-item.is ∙ sym (filter_map-more (λ seat. seat) seats i c.place-item.result less)

pub returns-in_err-push_copy-clause-memory : goal.returns-in_err-push_copy-clause-memory
returns-in_err-push_copy-clause-memory c =
    let seats = c.args.places.now in
    let i = c.loop-place.place-index in
    let some = subst (λ o. 0 < length (option_to_list o)) c.place-item.is c.in_err-push_copy.ensures.memory in
    let err = err_from_is_err_and c.from_residual.result c.from_residual.ensures.1 in
    rw err.1 (seated-some seats i c.place-item.result (omega arith) some)
