use Rattle.std.proofs.Common.{◌∙◌}
use Rattle.streams.proofs.WriteLemmas.{Writes-next, WritesFront-next}
use Rattle.turns.specs.Driving.{text_of}
use Rattle.turns.proofs.output.write_lists.Goals as goal

pub loop-lines-preserved : goal.loop-lines-preserved
loop-lines-preserved g c = (
  Writes-next text_of c.args.lists.now c.loop-lines.lines-index c.lines-item.result c.as_slice.result.now
      (g.S.Stream.sink c.args.stream.now) (g.S.Stream.sink c.loop-lines.stream) (g.S.Stream.sink c.write_lines.new.stream)
      c.loop-lines-test.true (c.as_slice.ensures ∙ c.lines-item.is) c.loop-lines.invariant.0 c.in-Ok.ensures.ok,
  c.write_lines.ensures.other ∙ c.loop-lines.invariant.1,
)

pub returns-in-Err-clause-err : goal.returns-in-Err-clause-err
returns-in-Err-clause-err g c =
    WritesFront-next text_of c.args.lists.now c.loop-lines.lines-index c.lines-item.result c.as_slice.result.now
    (g.S.Stream.sink c.args.stream.now) (g.S.Stream.sink c.loop-lines.stream) (g.S.Stream.sink c.write_lines.new.stream)
    c.loop-lines-test.true (c.as_slice.ensures ∙ c.lines-item.is) c.loop-lines.invariant.0 c.in-Err.ensures.err
