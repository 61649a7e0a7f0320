use Rattle.std.proofs.Common.{◌≡◌, ◌∷◌, subst, sym, rules}
use Rattle.bytejournal.specs.Ending.{HasFewAfter}
use Rattle.bytejournal.proofs.FewAfter.{open_more}
use Rattle.bytejournal.proofs.few_after.has_few_after.Goals as goal

pub returns-then-gate-eq1 : goal.returns-then-gate-eq1
returns-then-gate-eq1 c is =
    let rest = c.in-Some.rest.now in
    let bytes : c.args.bytes.now ≡ 1 ∷ rest = search rules in
    subst HasFewAfter (sym bytes) (open_more rest c.in-Some-front_of.front c.in-Some-front_of.ensures (c.have_few_after.ensures is))
