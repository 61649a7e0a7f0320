use Rattle.net.proofs.LogFormLemmas.{no_control}
use Rattle.net.proofs.log_form.law_of_shown_lines.Goals as goal

pub returns : goal.returns
returns c = record { harmless = no_control }
