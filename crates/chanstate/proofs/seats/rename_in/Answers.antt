use Rattle.std.proofs.Common.{◌∙◌, ap, sym}
use Rattle.std.proofs.lemmas.Bool.{cond-true, cond-false}
use Rattle.rfccase.specs.Casemapping.{is_same_by}
use Rattle.chanstate.specs.Seats.{seated}
use Rattle.chanstate.specs.Firsts.{first_changed, first_removed}
use Rattle.chanstate.specs.Members.{is_called, with_nick}
use Rattle.chanstate.proofs.FindLemmas.{none-is}
use Rattle.chanstate.proofs.SeatLemmas.{unseated, has_some}
use Rattle.chanstate.proofs.seats.rename_in.Goals as goal

pub returns-then-is_none-clause-renamed : goal.returns-then-is_none-clause-renamed
returns-then-is_none-clause-renamed c =
    let seats = c.args.seats.now in
    sym (cond-false _ _ _
    (unseated seats.mapping c.args.old.now seats.places.items (sym c.place_of.ensures ∙ none-is c.place_of.result c.if-is_none.ensures)))

pub returns-then-is_same-clause-renamed : goal.returns-then-is_same-clause-renamed
returns-then-is_same-clause-renamed c =
    let seats = c.args.seats.now in
    let old = c.args.old.now in
    let same = sym (c.is_same.ensures ∙ ap (is_same_by seats.mapping old) c.as_bytes.ensures) ∙ c.if-is_same.true in
    let has = has_some seats.mapping old seats.places.items c.place_of.result c.place_of.ensures c.if-is_none.ensures in
    c.respell.ensures.renamed ∙ ap (first_changed (is_called seats.mapping old) (with_nick c.args.nick)) (sym (cond-true _ _ _ same))
    ∙ sym (cond-true _ _ _ has)

pub returns-clause-renamed : goal.returns-clause-renamed
returns-clause-renamed c =
    let seats = c.args.seats.now in
    let old = c.args.old.now in
    let apart = sym (c.is_same.ensures ∙ ap (is_same_by seats.mapping old) c.as_bytes.ensures) ∙ c.if-is_same.false in
    let has = has_some seats.mapping old seats.places.items c.place_of.result c.place_of.ensures c.if-is_none.ensures in
    c.respell-2.ensures.renamed
    ∙ ap (λ mapping. first_changed (is_called mapping old) (with_nick c.args.nick) (seated c.vacate.new.seats.places.items)) c.vacate.ensures.mapping
    ∙ ap (first_changed (is_called seats.mapping old) (with_nick c.args.nick))
    (c.vacate.ensures.removed ∙ ap (λ n. first_removed (is_called seats.mapping n) (seated seats.places.items)) c.as_bytes-2.ensures
    ∙ sym (cond-false _ _ _ apart))
    ∙ sym (cond-true _ _ _ has)
