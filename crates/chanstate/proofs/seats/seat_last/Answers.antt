use Rattle.std.proofs.Common.{◌≡◌, ◌∙◌, ap, sym, subst, Some, length, arith}
use Rattle.rfccase.specs.Casemapping.{folded_by}
use Rattle.chanstate.specs.Seats.{AreIndexed, IsChanged, seated}
use Rattle.chanstate.proofs.SeatLemmas.{absent_index, at_ok, changed-by, indexed-last, seated-append}
use Rattle.chanstate.proofs.seats.seat_last.Goals as goal

pub returns-then-seats-clause-indexed : goal.returns-then-seats-clause-indexed
returns-then-seats-clause-indexed c = λ used.
    let mapping = c.args.seats.now.mapping in
    let ps = c.args.seats.now.places.items in
    let es = c.args.seats.now.index.entries in
    let fs = c.insert.new.self.entries in
    let updates = at_ok c.insert.result _ (c.insert.ensures.succeeds (c.requires.entry used)) c.insert.ensures.updates in
    let at : c.len-at.result ≡ length ps = omega (arith, c.len-at.ensures) in
    let change = changed-by c.args.key.items (Some c.len-at.result) es fs updates.1 updates.3 in
    let change-is = subst (λ w. IsChanged (folded_by mapping c.args.one.nick) (Some w) es fs) at
    (subst (λ l. IsChanged l (Some c.len-at.result) es fs) c.requires.key change) in
    let indexed = c.requires.indexed used in
    subst (λ qs. AreIndexed mapping qs fs) (sym c.push_reserved.ensures.items)
    (indexed-last mapping ps es fs c.args.one indexed (absent_index mapping c.args.one.nick ps es indexed c.requires.absent) change-is)

pub returns-then-seats-clause-seated : goal.returns-then-seats-clause-seated
returns-then-seats-clause-seated c = ap seated c.push_reserved.ensures.items ∙ seated-append c.args.seats.now.places.items (Some c.args.one)

pub returns-else-seats-clause-seated : goal.returns-else-seats-clause-seated
returns-else-seats-clause-seated c = ap seated c.push_reserved.ensures.items ∙ seated-append c.args.seats.now.places.items (Some c.args.one)
