use Rattle.replay.proofs.Endings.{TellsLine-at}
use Rattle.replay.proofs.replaying.replay.Goals as goal

pub returns-clause-faulty : goal.returns-clause-faulty
returns-clause-faulty g c =
    TellsLine-at g.P.Promise.promised c.args.store (g.S.Stream.source c.args.stream.now)
    (g.S.Stream.source c.read_and_write.new.stream) (g.S.Stream.sink c.args.stream.now) (g.S.Stream.sink c.read_and_write.new.stream)
    c.read_and_write.result c.read_and_write.ensures
