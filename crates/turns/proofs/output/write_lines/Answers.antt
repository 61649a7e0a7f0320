use Rattle.std.proofs.Common.{◌∙◌, ◌++◌, ◌∷◌, []}
use Rattle.streams.proofs.WriteLemmas.{Writes-next, WritesFront-next}
use Rattle.turns.proofs.output.write_lines.Goals as goal

pub loop-line-preserved : goal.loop-line-preserved
loop-line-preserved g c = (
  Writes-next (λ line. line ++ 13 ∷ 10 ∷ []) c.args.lines.now c.loop-line.line-index c.line-item.result c.as_bytes.result.now
      (g.S.Stream.sink c.args.stream.now) (g.S.Stream.sink c.loop-line.stream) (g.S.Stream.sink c.write_line.new.stream)
      c.loop-line-test.true (c.as_bytes.ensures ∙ c.line-item.is) c.loop-line.invariant.0 c.in-Ok.ensures.ok,
  c.write_line.ensures.other ∙ c.loop-line.invariant.1,
)

pub returns-in-Err-clause-err : goal.returns-in-Err-clause-err
returns-in-Err-clause-err g c =
    WritesFront-next (λ line. line ++ 13 ∷ 10 ∷ []) c.args.lines.now c.loop-line.line-index c.line-item.result c.as_bytes.result.now
    (g.S.Stream.sink c.args.stream.now) (g.S.Stream.sink c.loop-line.stream) (g.S.Stream.sink c.write_line.new.stream)
    c.loop-line-test.true (c.as_bytes.ensures ∙ c.line-item.is) c.loop-line.invariant.0 c.in-Err.ensures.err
