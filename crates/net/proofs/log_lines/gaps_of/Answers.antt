use Rattle.std.proofs.Common.{◌++◌, ◌∙◌, ap, List, ℕ}
use Rattle.std.specs.Prelude.{codes}
use Rattle.net.specs.Logs.{gap_line}
use Rattle.net.proofs.log_lines.gaps_of.Goals as goal

pub returns : goal.returns
returns c =
    c.in_ok-extend_from_slice.ensures.items
    ∙ ap (λ (line : List ℕ). line ++ c.as_slice.result.now) c.in_ok-lines.ensures
    ∙ ap (λ (line : List ℕ). gap_line c.args.form (codes "too much waited to be written") c.args.gap.dropped c.args.now ++ line)
    (c.as_slice.ensures.value ∙ c.in_ok-unmade.ensures)
