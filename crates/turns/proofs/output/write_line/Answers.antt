use Rattle.std.proofs.Common.{◌∷◌, []}
use Rattle.streams.proofs.WriteLemmas.{Writes-if, WritesFront-after, WritesFront-more}
use Rattle.turns.proofs.output.write_line.Goals as goal

pub returns-in-Ok-clause-ok : goal.returns-in-Ok-clause-ok
returns-in-Ok-clause-ok g c =
    Writes-if c.write_all-in-Ok.result (g.S.Stream.sink c.args.stream.now) (g.S.Stream.sink c.write_all.new.stream)
    (g.S.Stream.sink c.write_all-in-Ok.new.stream) c.args.line.now (13 ∷ 10 ∷ []) c.in-Ok.ensures.ok c.write_all-in-Ok.ensures.ok

pub returns-in-Ok-clause-err : goal.returns-in-Ok-clause-err
returns-in-Ok-clause-err g c =
    WritesFront-after c.write_all-in-Ok.result (g.S.Stream.sink c.args.stream.now) (g.S.Stream.sink c.write_all.new.stream)
    (g.S.Stream.sink c.write_all-in-Ok.new.stream) c.args.line.now (13 ∷ 10 ∷ []) c.in-Ok.ensures.ok c.write_all-in-Ok.ensures.err

pub returns-in-Err-clause-err : goal.returns-in-Err-clause-err
returns-in-Err-clause-err g c =
    WritesFront-more (g.S.Stream.sink c.args.stream.now) (g.S.Stream.sink c.write_all.new.stream) c.args.line.now (13 ∷ 10 ∷ [])
    c.in-Err.ensures.err
