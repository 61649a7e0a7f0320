use Rattle.replay.proofs.Endings.{Ends-early, Ends-written}
use Rattle.replay.proofs.replaying.read_and_write.Goals as goal

pub returns-in-Err : goal.returns-in-Err
returns-in-Err g c =
    Ends-early g.P.Promise.promised c.args.store c.in-Err.error (g.S.Stream.source c.args.stream.now)
    (g.S.Stream.source c.read_and_do.new.stream) (g.S.Stream.sink c.args.stream.now) (g.S.Stream.sink c.read_and_do.new.stream)
    c.in-Err.ensures.err c.in-Err.ensures.other

pub returns : goal.returns
returns g c =
    Ends-written g.P.Promise.promised c.args.store c.write_text.result (g.S.Stream.source c.args.stream.now)
    (g.S.Stream.source c.read_and_do.new.stream) (g.S.Stream.source c.write_text.new.stream) (g.S.Stream.sink c.args.stream.now)
    (g.S.Stream.sink c.read_and_do.new.stream) (g.S.Stream.sink c.write_text.new.stream) c.in-Ok.text.items c.as_slice.result.now
    c.in-Ok.ensures.ok c.as_slice.ensures.value c.write_text.ensures.other c.in-Ok.ensures.other c.write_text.ensures.ok
    c.write_text.ensures.err
