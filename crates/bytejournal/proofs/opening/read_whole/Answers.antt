use Rattle.bytejournal.proofs.Moments.{untouched, untouched_still}
use Rattle.bytejournal.proofs.opening.read_whole.Goals as goal

pub returns-then-len-eq0-clause-untouched : goal.returns-then-len-eq0-clause-untouched
returns-then-len-eq0-clause-untouched g c = untouched_still _ c.requires

pub returns-in_err-read_disk-clause-untouched : goal.returns-in_err-read_disk-clause-untouched
returns-in_err-read_disk-clause-untouched g c = untouched_still _ c.requires

pub returns-in-Some-clause-untouched : goal.returns-in-Some-clause-untouched
returns-in-Some-clause-untouched g c = untouched_still _ c.requires

pub returns-in_err-bytes-clause-untouched : goal.returns-in_err-bytes-clause-untouched
returns-in_err-bytes-clause-untouched g c = untouched_still _ c.requires

pub returns-in-Err-clause-untouched : goal.returns-in-Err-clause-untouched
returns-in-Err-clause-untouched g c = untouched _ _ c.requires c.read.ensures.cause.no_fewer c.read.ensures.events c.read.ensures.same

pub returns-in_err-read_disk-2-clause-untouched : goal.returns-in_err-read_disk-2-clause-untouched
returns-in_err-read_disk-2-clause-untouched g c = untouched _ _ c.requires c.read.ensures.cause.no_fewer c.read.ensures.events c.read.ensures.same

pub returns-clause-untouched : goal.returns-clause-untouched
returns-clause-untouched g c = untouched _ _ c.requires c.read.ensures.cause.no_fewer c.read.ensures.events c.read.ensures.same
