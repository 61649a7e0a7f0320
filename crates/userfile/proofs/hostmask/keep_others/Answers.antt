use Rattle.std.proofs.Common.{not, rules}
use Rattle.std.proofs.lemmas.Fn.{filter_same}
use Rattle.rfccase.specs.Casemapping.{is_same}
use Rattle.userfile.proofs.hostmask.keep_others.Goals as goal

pub returns : goal.returns
returns c = filter_same _ (λ m. not (is_same c.args.mask.now m)) _ (λ x b f' k. search rules) _ _ c.retain.ensures.filtered
