use Rattle.std.proofs.Common.{length}
use Rattle.userfile.proofs.GroupLemmas.{set_one}
use Rattle.userfile.proofs.index.add_listing.Goals as goal

pub returns-clause-kept : goal.returns-clause-kept
returns-clause-kept c = λ t n under. (set_one c.args.index.now.lengths (length c.as_bytes.result.now) (length t) under.0, c.put.ensures.kept t n under.1)
