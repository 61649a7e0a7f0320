use Rattle.std.proofs.Common.{not, rules}
use Rattle.std.proofs.lemmas.Fn.{filter_same}
use Rattle.rfccase.specs.Casemapping.{is_same}
use Rattle.userfile.proofs.channel_flags.keep_others.Goals as goal

pub returns : goal.returns
returns c = filter_same _ (λ e. not (is_same c.args.channel.now e.channel)) _ (λ x b f' k. search rules) _ _ c.retain.ensures.filtered
