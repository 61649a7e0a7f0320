use Rattle.std.proofs.Common.{◌≡◌, ◌∙◌, true, [], ◌∷◌, ap, sym, rules}
use Rattle.std.proofs.lemmas.Bool.{cond-true}
use Rattle.chanstate.specs.Members.{arrived, unmarked}
use Rattle.chanstate.specs.Takes.{came_each, given, is_taken, on_place}
use Rattle.chanstate.proofs.TakeLemmas.{given-other, given-kept, position-given, on_channel-at, on_channel-nowhere, held_at}
use Rattle.chanstate.proofs.ComeLemmas.{arrived-again}
use Rattle.chanstate.proofs.channels.Channels.ready_arrival.Goals as goal

pub returns-in_default-clause-done : goal.returns-in_default-clause-done
returns-in_default-clause-done c =
    let one = unmarked c.args.person.nick.now c.args.person.user.now c.args.person.host.now in
    let takes = c.args.takes.now.items in
    let piece = c.args.piece.now in
    let will = given true takes c.args.self.now in
    sym (ap (λ ns. came_each c.args.mapping one ns will) (cond-true _ (piece ∷ []) [] (sym c.is_channel.ensures ∙ c.if-not-is_channel.false))
    ∙ on_channel-nowhere c.args.mapping piece (arrived c.args.mapping one) will (position-given c.args.mapping piece true takes c.args.self.now ∙ sym c.place.ensures ∙ c.in_default.is))

pub returns-then-is_taken-clause-done : goal.returns-then-is_taken-clause-done
returns-then-is_taken-clause-done c =
    let one = unmarked c.args.person.nick.now c.args.person.user.now c.args.person.host.now in
    let takes = c.args.takes.now.items in
    let piece = c.args.piece.now in
    let at = c.in-Some.at in
    let will = given true takes c.args.self.now in
    let some : is_taken at takes ≡ true = ap (is_taken at) (sym c.as_slice.ensures.value) ∙ sym c.is_taken.ensures ∙ c.if-is_taken.true in
    sym (ap (λ ns. came_each c.args.mapping one ns will) (cond-true _ (piece ∷ []) [] (sym c.is_channel.ensures ∙ c.if-not-is_channel.false))
    ∙ on_channel-at c.args.mapping piece at (arrived c.args.mapping one) will (position-given c.args.mapping piece true takes c.args.self.now ∙ sym c.in-Some.ensures)
    ∙ given-kept at (arrived c.args.mapping one) takes c.args.self.now some c.requires)

pub returns-in_err-task-clause-held : goal.returns-in_err-task-clause-held
returns-in_err-task-clause-held c =
    let why = held_at c.args.mapping c.args.piece.now c.in-Some.at c.args.self.now c.in-Some.ensures in
    search (rules, why)

pub returns-in_err-take-clause-held : goal.returns-in_err-take-clause-held
returns-in_err-take-clause-held c =
    let why = held_at c.args.mapping c.args.piece.now c.in-Some.at c.args.self.now c.in-Some.ensures in
    search (rules, why)

pub returns-clause-kept : goal.returns-clause-kept
returns-clause-kept c =
    let one = unmarked c.args.person.nick.now c.args.person.user.now c.args.person.host.now in
    let done = c.in_ok-task.ensures.done in
    c.in_ok-take.ensures.taken.kept (arrived c.args.mapping one)
    (λ ms. ap (λ f. arrived c.args.mapping one (f ms)) done ∙ arrived-again c.args.mapping one ms ∙ sym (ap (λ f. f ms) done)) c.requires

pub returns-clause-done : goal.returns-clause-done
returns-clause-done c =
    let one = unmarked c.args.person.nick.now c.args.person.user.now c.args.person.host.now in
    let takes = c.args.takes.now.items in
    let piece = c.args.piece.now in
    let at = c.in-Some.at in
    let cs = c.args.self.now in
    let will = given true takes cs in
    let none = ap (is_taken at) (sym c.as_slice.ensures.value) ∙ sym c.is_taken.ensures ∙ c.if-is_taken.false in
    c.in_ok-take.ensures.taken.done ∙ ap (λ f. given true takes (on_place at f cs)) c.in_ok-task.ensures.done
    ∙ given-other true at (arrived c.args.mapping one) takes cs none
    ∙ sym (ap (λ ns. came_each c.args.mapping one ns will) (cond-true _ (piece ∷ []) [] (sym c.is_channel.ensures ∙ c.if-not-is_channel.false))
    ∙ on_channel-at c.args.mapping piece at (arrived c.args.mapping one) will (position-given c.args.mapping piece true takes cs ∙ sym c.in-Some.ensures))
