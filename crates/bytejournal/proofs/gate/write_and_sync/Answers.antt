use Rattle.std.proofs.Common.{length}
use Rattle.bytejournal.proofs.Moments.{torn, then_same}
use Rattle.bytejournal.proofs.gate.write_and_sync.Goals as goal

pub returns-in_err-write_at-clause-any_moment : goal.returns-in_err-write_at-clause-any_moment
returns-in_err-write_at-clause-any_moment g c =
    torn _ _ c.args.at (length c.args.text.now) c.requires.settled c.write_at.ensures.tears c.write_at.ensures.time

pub returns-clause-any_moment : goal.returns-clause-any_moment
returns-clause-any_moment g c =
    then_same _ _ _ _ (torn _ _ c.args.at (length c.args.text.now) c.requires.settled c.write_at.ensures.tears c.write_at.ensures.time)
    c.sync.ensures.same
