use Rattle.std.proofs.Common.{rules}
use Rattle.std.proofs.lemmas.Fn.{filter_same}
use Rattle.userfile.specs.Index.{stays}
use Rattle.userfile.proofs.index.keep_listed.Goals as goal

pub returns : goal.returns
returns c = filter_same _ (stays c.args.place c.args.masks.now c.args.tail.now) _ (λ x b f' k. search rules) _ _ c.retain.ensures.filtered
