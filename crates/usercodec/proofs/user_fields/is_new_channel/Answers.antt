use Rattle.std.proofs.Common.{ap, ◌∙◌}
use Rattle.std.specs.Prelude.{not}
use Rattle.usercodec.proofs.HeldLaws.{held_channel}
use Rattle.usercodec.proofs.user_fields.is_new_channel.Goals as goal

pub returns : goal.returns
returns c = ap not (c.has_name.ensures ∙ held_channel c.args.channel.now c.args.held.now)
