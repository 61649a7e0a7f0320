use Rattle.std.proofs.Common.{inl}
use Rattle.bytejournal.proofs.Gates.{torn_gate}
use Rattle.bytejournal.proofs.Moments.{joined}
use Rattle.bytejournal.proofs.gate.write_after_gate.Goals as goal

pub returns-clause-any_moment : goal.returns-clause-any_moment
returns-clause-any_moment g c =
    let state = g.D.Disk.state in
    joined _ _ _ _ _ _ c.write_and_sync.ensures.any_moment c.write_and_sync-2.ensures.any_moment
    (λ image torn. inl torn.before)
    (λ image torn. torn_gate (state c.args.disk.now).seen c.args.text.now
    (state c.write_and_sync.new.disk).seen c.args.gate c.requires.inside c.in_ok-write_and_sync.ensures.written image torn)
