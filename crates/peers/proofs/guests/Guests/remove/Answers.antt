use Rattle.std.proofs.Common.{◌≡◌, ◌∙◌, ap}
use Rattle.peers.specs.Drawn.{nonces_of}
use Rattle.peers.proofs.DiceLemmas.{among_remove, among_same, take_written}
use Rattle.peers.proofs.guests.Guests.remove.Goals as goal

pub returns-then-is_empty-clause-others : goal.returns-then-is_empty-clause-others
returns-then-is_empty-clause-others c =
    let left = c.remove-guest.new.self in
    let counted : nonces_of c.recount.new.guests ≡ nonces_of left.items = c.recount.ensures ∙ ap nonces_of c.as_mut_slice.ensures.value in
    among_same (
    ap nonces_of c.shrink_to_fit.ensures.items ∙ take_written left.len left.items c.recount.new.guests left.ok.0 counted
    ∙ ap nonces_of c.remove-guest.ensures.items
    ) (among_remove c.args.self.now.list.items c.args.place)

pub returns-else-is_empty-clause-others : goal.returns-else-is_empty-clause-others
returns-else-is_empty-clause-others c =
    let left = c.remove-guest.new.self in
    let counted : nonces_of c.recount.new.guests ≡ nonces_of left.items = c.recount.ensures ∙ ap nonces_of c.as_mut_slice.ensures.value in
    among_same
    (take_written left.len left.items c.recount.new.guests left.ok.0 counted ∙ ap nonces_of c.remove-guest.ensures.items)
    (among_remove c.args.self.now.list.items c.args.place)
