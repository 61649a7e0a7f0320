use Rattle.std.proofs.Common.{not, rules}
use Rattle.std.proofs.lemmas.Fn.{filter_same}
use Rattle.floods.specs.Windows.{is_of}
use Rattle.floods.proofs.counts.keep_others.Goals as goal

pub returns-clause-items : goal.returns-clause-items
returns-clause-items c = filter_same _ (λ count. not (is_of c.args.act.now count)) _ (λ x b f' k. search rules) _ _ c.retain.ensures.filtered
