use Rattle.std.proofs.Common.{not, rules}
use Rattle.std.proofs.lemmas.Fn.{filter_same}
use Rattle.std.specs.Str.{bytes_eq}
use Rattle.floods.proofs.ignores.keep_other_keys.Goals as goal

pub returns-clause-items : goal.returns-clause-items
returns-clause-items c = filter_same _ (λ ignore. not (bytes_eq ignore.key c.args.key.now)) _ (λ x b f' k. search rules) _ _ c.retain.ensures.filtered
