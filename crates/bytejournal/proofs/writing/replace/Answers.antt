use Rattle.bytejournal.proofs.Gates.{replaced, not_replaced}
use Rattle.bytejournal.proofs.Moments.{still_has, kept_has}
use Rattle.bytejournal.proofs.writing.replace.Goals as goal

pub returns-then-is_open-clause-any_moment : goal.returns-then-is_open-clause-any_moment
returns-then-is_open-clause-any_moment g c =
    let state = g.D.Disk.state in
    replaced (state c.args.disk.now) (state c.reserve.new.self) (state c.close_first_gate.new.disk)
    (state c.write_after_gate.new.disk) c.args.text.now c.args.is_open c.if-is_open.true c.requires.inside c.requires.settled
    c.reserve.ensures.same c.close_first_gate.ensures.any_moment c.in-Ok-close_first_gate.ensures.written
    c.write_after_gate.ensures.any_moment

pub returns-in_default-clause-any_moment : goal.returns-in_default-clause-any_moment
returns-in_default-clause-any_moment g c =
    still_has _ _ c.requires.settled (not_replaced c.args.is_open (g.D.Disk.state c.args.disk.now).seen c.args.text.now c.requires.inside)

pub returns-in-Err-clause-any_moment : goal.returns-in-Err-clause-any_moment
returns-in-Err-clause-any_moment g c =
    kept_has _ _ _ c.requires.settled c.reserve.ensures.same
    (not_replaced c.args.is_open (g.D.Disk.state c.args.disk.now).seen c.args.text.now c.requires.inside)
