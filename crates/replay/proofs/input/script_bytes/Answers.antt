use Rattle.replay.proofs.Endings.{GivesScript-of}
use Rattle.replay.proofs.input.script_bytes.Goals as goal

pub returns-in-Ok-clause-read : goal.returns-in-Ok-clause-read
returns-in-Ok-clause-read g c =
    GivesScript-of (g.S.Stream.source c.args.stream.now) (g.S.Stream.source c.read_up_to.new.stream) c.in-Ok.bytes.items c.in-Ok.ensures.ok
