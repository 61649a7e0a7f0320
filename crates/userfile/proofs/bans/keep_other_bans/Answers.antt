use Rattle.std.proofs.Common.{not, rules}
use Rattle.std.proofs.lemmas.Fn.{filter_same}
use Rattle.userfile.specs.Held.{is_ban}
use Rattle.userfile.proofs.bans.keep_other_bans.Goals as goal

pub returns : goal.returns
returns c = filter_same _ (λ b. not (is_ban c.args.channel.now c.args.mask.now b)) _ (λ x b f' k. search rules) _ _ c.retain.ensures.filtered
