use Rattle.std.proofs.Common.{ap, ◌∙◌}
use Rattle.wildmask.specs.WideSignatures.{wide_items_signature}
use Rattle.wildmask.proofs.pattern.Pattern.wide_signature.Goals as goal

pub returns : goal.returns
returns c = c.needed_by.ensures ∙ ap wide_items_signature c.self.view_is
