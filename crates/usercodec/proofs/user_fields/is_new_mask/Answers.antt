use Rattle.std.proofs.Common.{ap, ◌∙◌}
use Rattle.std.specs.Prelude.{not}
use Rattle.usercodec.proofs.HeldLaws.{held_text}
use Rattle.usercodec.proofs.user_fields.is_new_mask.Goals as goal

pub returns : goal.returns
returns c = ap not (c.has_text.ensures ∙ held_text c.args.mask.now c.args.held.now)
