use Rattle.std.proofs.Common.{◌≡◌, ◌+◌, ◌-◌, ◌++◌, ◌∷◌, ◌∙◌, ℕ, List, [], Option, Some, None, take, MatchOption, refl, ap, sym}
use Rattle.std.specs.Option.{option_to_list}
use Rattle.botworld.specs.declared.step.Step.{Step}
use Rattle.live.specs.Grammar.{last_step}
use Rattle.live.proofs.saying.last_of.Goals as goal

-- the last of some steps and one more
last-more : (rest : List Step) (step : Step) → last_step (rest ++ step ∷ []) ≡ Some step
last-more [] step = refl
last-more (one ∷ []) step = refl
last-more (one ∷ next ∷ rest) step = last-more (next ∷ rest) step

-- what is taken from the end is the last
last-taken : (count left : ℕ) (steps rest : List Step) (last : Option Step) → steps ≡ rest ++ option_to_list last
    → rest ≡ take (count - 1) steps → MatchOption last ((count ≡ 0) × (left ≡ 0)) (λ _. left + 1 ≡ count) → last ≡ last_step steps
last-taken count left steps rest (Some step) e is m = sym (ap last_step e ∙ last-more rest step)
last-taken count left steps rest None e is m =
    sym (ap last_step e ∙ ap (λ kept. last_step (kept ++ [])) (is ∙ ap (λ n. take (n - 1) steps) m.0))

pub returns : goal.returns
returns c =
    last-taken _ _ c.into_vec.result.items c.pop.new.self.items c.pop.result c.pop.ensures.items c.pop.ensures.rest c.pop.ensures.cases
    ∙ ap last_step c.into_vec.ensures
