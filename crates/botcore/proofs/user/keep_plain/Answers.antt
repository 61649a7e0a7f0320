use Rattle.std.proofs.Common.{rules}
use Rattle.std.specs.Char.{is_ascii_alphanumeric}
use Rattle.std.proofs.lemmas.Fn.{filter_same}
use Rattle.botcore.proofs.user.keep_plain.Goals as goal

pub returns : goal.returns
returns c = filter_same _ is_ascii_alphanumeric _ (λ x b f' k. search rules) _ _ c.retain.ensures.filtered
