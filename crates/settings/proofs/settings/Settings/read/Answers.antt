use Rattle.std.proofs.Common.{◌∙◌, ap, map, sym, arith}
use Rattle.settings.specs.Reading.{lines_read}
use Rattle.settings.proofs.LineLemmas.{reads-as}
use Rattle.settings.proofs.settings.Settings.read.Goals as goal

pub returns-clause-reads : goal.returns-clause-reads
returns-clause-reads c =
    reads-as c.args.bytes.now c.in_ok-lines.lines.items _ c.complete.result (omega arith) c.in_ok-lines.ensures
    (ap (λ items. lines_read (map (λ line. line.now) items)) (sym c.as_slice.ensures.value) ∙ c.in_ok-draft_of.ensures) c.complete.ensures
