use Rattle.std.proofs.Common.{rules}
use Rattle.std.proofs.lemmas.Fn.{filter_same}
use Rattle.floods.specs.Watching.{is_in_force}
use Rattle.floods.proofs.ignores.keep_in_force.Goals as goal

pub returns-clause-items : goal.returns-clause-items
returns-clause-items c = filter_same _ (λ ignore. is_in_force c.args.now ignore) _ (λ x b f' k. search rules) _ _ c.retain.ensures.filtered
