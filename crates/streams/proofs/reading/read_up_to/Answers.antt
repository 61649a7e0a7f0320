use Rattle.std.proofs.Common.{◌∙◌, arith}
use Rattle.std.proofs.lemmas.Result.{err_from_is_err_and}
use Rattle.streams.proofs.ReadLemmas.{AreRead-more, GivesSome-once, FailsToGive-at}
use Rattle.streams.proofs.reading.read_up_to.Goals as goal

pub returns-in_err-read_piece-clause-err : goal.returns-in_err-read_piece-clause-err
returns-in_err-read_piece-clause-err g c =
    let p = err_from_is_err_and c.from_residual.result c.from_residual.ensures.1 in
    rw (p.1, p.2) (GivesSome-once (g.S.Stream.source c.args.stream.now) (g.S.Stream.source c.loop-stream.stream)
    (g.S.Stream.source c.read_piece.new.stream) c.loop-stream.bytes.items c.loop-stream.invariant.1 c.in_err-read_piece.ensures.err)

pub loop-stream-preserved : goal.loop-stream-preserved
loop-stream-preserved g c =
    let more = AreRead-more c.args.most c.in-Bytes.field-0 c.in_ok-read_piece.field-0 (g.S.Stream.source c.args.stream.now)
    (g.S.Stream.source c.loop-stream.stream) (g.S.Stream.source c.read_piece.new.stream) c.loop-stream.bytes.items
    c.read_piece.new.bytes.items c.in-Bytes.is c.loop-stream.invariant.1 c.in_ok-read_piece.ensures.ok in
    (more.0, more.1, c.read_piece.ensures.other ∙ c.loop-stream.invariant.2)

pub returns-in-Stall-clause-err : goal.returns-in-Stall-clause-err
returns-in-Stall-clause-err g c =
    FailsToGive-at c.args.most c.in_ok-read_piece.field-0 (g.S.Stream.source c.args.stream.now) (g.S.Stream.source c.loop-stream.stream)
    (g.S.Stream.source c.read_piece.new.stream) c.loop-stream.bytes.items c.read_piece.new.bytes.items c.in-Stall.is
    (omega (arith, c.loop-stream-test.true, c.len.ensures, c.loop-stream.bytes.ok)) c.loop-stream.invariant.1 c.in_ok-read_piece.ensures.ok
