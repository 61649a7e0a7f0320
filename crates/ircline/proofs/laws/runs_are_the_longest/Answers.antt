use Rattle.std.proofs.Common.{ℕ, List, sym, subst}
use Rattle.ircline.specs.Stream.{Splits, begun}
use Rattle.ircline.proofs.SplittingLemmas.{splits_only, splits_so}
use Rattle.ircline.proofs.laws.runs_are_the_longest.Goals as goal

pub returns : goal.returns
returns c = λ stream runs rest. (
  λ splits. splits_only stream runs rest splits,
  λ is. subst (λ (r : List ℕ). Splits stream runs r) (sym is.1) (subst (λ (r : List (List ℕ)). Splits stream r (begun stream)) (sym is.0) (splits_so stream)),
)
