use Rattle.std.proofs.Common.{◌++◌, ◌∙◌, ap, arith}
use Rattle.live.specs.Heard.{heard_line}
use Rattle.recordtext.proofs.Lines.{lines-more}
use Rattle.live.proofs.running.heard_text.Goals as goal

pub loop-line-preserved : goal.loop-line-preserved
loop-line-preserved c =
    lines-more (heard_line c.args.nick.now) c.args.lines.now c.loop-line.line-index c.line-item.result c.loop-line.text.items _ _ (omega arith)
    c.line-item.is
    (c.in_ok-put_heard.ensures ∙ ap (λ line. c.loop-line.text.items ++ heard_line c.args.nick.now line) c.as_bytes.ensures)
    c.loop-line.invariant
