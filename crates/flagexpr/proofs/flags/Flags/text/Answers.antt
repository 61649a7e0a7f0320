use Rattle.std.proofs.Common.{ap, ◌∙◌}
use Rattle.flagexpr.specs.Letters.{set_of, letters, dash_for_none, spelling}
use Rattle.flagexpr.proofs.Sets.{set_of-spelling}
use Rattle.flagexpr.proofs.flags.Flags.text.Goals as goal

pub returns-clause-text : goal.returns-clause-text
unfolding spelling letters
returns-clause-text c = c.new.ensures ∙ c.in_ok-bytes.ensures ∙ ap dash_for_none c.in_ok-letters.ensures.kept

pub returns-clause-again : goal.returns-clause-again
returns-clause-again c = ap set_of (returns-clause-text c) ∙ set_of-spelling c.args.self c.in_ok-letters.ensures.small
