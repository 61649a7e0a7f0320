use Rattle.std.proofs.Common.{not, rules}
use Rattle.std.proofs.lemmas.Fn.{filter_same}
use Rattle.rfccase.specs.Casemapping.{is_same_by}
use Rattle.serverlink.proofs.questions.keep_others.Goals as goal

pub returns : goal.returns
returns c =
    filter_same _ (λ channel. not (is_same_by c.args.mapping channel c.args.name.now)) _ (λ x b f' k. search rules) _ _ c.retain.ensures.filtered
