use Rattle.std.proofs.Common.{◌≡◌, ◌∷◌, ◌++◌, drop, ap, sym, ◌∙◌}
use Rattle.std.proofs.lemmas.List.{take_rest}
use Rattle.wildmask.specs.declared.items.Item.TheVariants.{AnyText}
use Rattle.wildmask.specs.Codes.{items_in}
use Rattle.wildmask.proofs.RunLemmas.{star_first}
use Rattle.wildmask.proofs.runs.run_between_stars.Goals as goal

pub returns-in-len1-up-others-clause-parts : goal.returns-in-len1-up-others-clause-parts
returns-in-len1-up-others-clause-parts c =
    let other : items_in c.split_run.result.1.now ≡ AnyText ∷ items_in (drop 1 c.split_run.result.1.now) =
    star_first c.split_run.result.1.now c.in-len1-up-others.len_at_least (c.is_star-in-len1-up.ensures.0 c.if-is_star-2.true) in (
      items_in (drop 1 c.split_run.result.1.now),
      star_first c.args.codes.now c.in-len1-up.len_at_least (c.is_star.ensures.0 c.if-is_star.true)
          ∙ ap (λ xs. AnyText ∷ xs) (ap items_in (sym (take_rest c.args.codes.now 1)) ∙ c.split_run.ensures.whole
          ∙ ap (λ xs. items_in c.split_run.result.0.now ++ xs) other),
      other,
      c.split_run.ensures.one,
    )
