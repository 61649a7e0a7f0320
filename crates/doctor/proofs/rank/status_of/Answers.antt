use Rattle.std.proofs.Common.{◌∙◌, sym, refl}
use Rattle.doctor.proofs.StatusLemmas.{Contains-from_test}
use Rattle.doctor.proofs.rank.status_of.Goals as goal

pub returns-then-has_bad-clause-bad : goal.returns-then-has_bad-clause-bad
returns-then-has_bad-clause-bad c =
    (λ _. Contains-from_test c.args.ranks.now (sym c.has_bad.ensures ∙ c.if-has_bad.true), λ _. refl)
