use Rattle.std.proofs.Common.{◌↔◌, ◌∷◌, ℕ, subst}
use Rattle.wildmask.specs.Codes.{items_in}
use Rattle.wildmask.specs.Walks.{MatchesFrom}
use Rattle.wildmask.proofs.walks.step_unless_idle.Goals as goal

pub returns-in-Some-clause-moved : goal.returns-in-Some-clause-moved
returns-in-Some-clause-moved c =
    let idle = rw c.in-Some.is at c.requires.idle in
    λ text. subst (λ (b : ℕ). MatchesFrom c.args.mapping 0 (items_in c.args.codes.now) c.args.places.bits (b ∷ text)
    ↔ MatchesFrom c.args.mapping 0 (items_in c.args.codes.now) c.args.places.bits text) (c.if-known-byte.true) (idle text)
