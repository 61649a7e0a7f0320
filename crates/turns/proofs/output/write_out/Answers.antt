use Rattle.std.specs.List.{flat_map}
use Rattle.streams.proofs.WriteLemmas.{WritesOut-if, WritesFront-if}
use Rattle.turns.specs.Driving.{text_of}
use Rattle.turns.proofs.output.write_out.Goals as goal

pub returns-in-Ok-clause-ok : goal.returns-in-Ok-clause-ok
returns-in-Ok-clause-ok g c =
    WritesOut-if c.flush.result (g.S.Stream.sink c.args.stream.now) (g.S.Stream.sink c.write_lists.new.stream)
    (g.S.Stream.sink c.flush.new.self) (flat_map text_of c.args.lists.now) c.in-Ok.ensures.ok c.flush.ensures.flushes

pub returns-in-Ok-clause-err : goal.returns-in-Ok-clause-err
returns-in-Ok-clause-err g c =
    WritesFront-if c.flush.result (g.S.Stream.sink c.args.stream.now) (g.S.Stream.sink c.write_lists.new.stream)
    (g.S.Stream.sink c.flush.new.self) (flat_map text_of c.args.lists.now) c.in-Ok.ensures.ok c.flush.ensures.flushes
