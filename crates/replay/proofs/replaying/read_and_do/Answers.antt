use Rattle.replay.proofs.Endings.{EndsEarly-of, EndsEarly-read, Plays-of}
use Rattle.replay.proofs.replaying.read_and_do.Goals as goal

pub returns-in-Err-clause-err : goal.returns-in-Err-clause-err
returns-in-Err-clause-err g c =
    EndsEarly-read c.in-Err.error (g.S.Stream.source c.args.stream.now) (g.S.Stream.source c.script_bytes.new.stream) c.in-Err.ensures.fails

pub returns-clause-ok : goal.returns-clause-ok
returns-clause-ok g c =
    Plays-of g.P.Promise.promised c.args.store (g.S.Stream.source c.args.stream.now)
    (g.S.Stream.source c.script_bytes.new.stream) c.as_slice.result.now c.in-Ok.bytes.items c.transcript_in.result
    c.as_slice.ensures.value c.in-Ok.ensures.read c.transcript_in.ensures.ok

pub returns-clause-err : goal.returns-clause-err
returns-clause-err g c =
    EndsEarly-of (g.S.Stream.source c.args.stream.now) (g.S.Stream.source c.script_bytes.new.stream) c.as_slice.result.now
    c.in-Ok.bytes.items c.transcript_in.result c.as_slice.ensures.value c.in-Ok.ensures.read c.transcript_in.ensures.err
