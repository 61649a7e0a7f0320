use Rattle.std.proofs.Common.{◌++◌, [], ◌∷◌, ap, refl}
use Rattle.chanstate.specs.Channels.{is_named}
use Rattle.chanstate.proofs.FirstsLemmas.{removed_behind, removed_nowhere}
use Rattle.chanstate.proofs.channels.put.Goals as goal

pub returns-in-Some-clause-put : goal.returns-in-Some-clause-put
returns-in-Some-clause-put c =
    rw (c.remove-gone.ensures.items, c.push_reserved.ensures.items)
    (removed_behind (is_named c.args.mapping c.args.channel.name) _ _ c.in-Some.at c.args.channel refl
    (rw (c.as_bytes.ensures, c.as_slice.ensures.value) at c.in-Some.ensures))

pub returns-in_default-clause-put : goal.returns-in_default-clause-put
returns-in_default-clause-put c =
    rw (c.push_reserved.ensures.items)
    (ap (λ xs. xs ++ c.args.channel ∷ [])
    (removed_nowhere (is_named c.args.mapping c.args.channel.name) _ c.place_in-held.result
    (rw (c.as_bytes.ensures, c.as_slice.ensures.value) at c.place_in-held.ensures) c.in_default.is))
