use Rattle.std.proofs.Common.{sym, ◌∙◌}
use Rattle.procs.specs.Calls.{seen}
use Rattle.procs.specs.Behind.{bind_of}
use Rattle.procs.proofs.BehindLemmas.{not_needed}
use Rattle.procs.proofs.called.if_called.Goals as goal

pub returns-then-not-is_within : goal.returns-then-not-is_within
returns-then-not-is_within c =
    not_needed (seen c.args.event.now) c.args.entry.now.needs c.args.pairs (bind_of c.args.entry.now.number c.args.held.now) c.requires.told c.requires.pairs
    (sym c.is_within.ensures ∙ c.if-not-is_within.true)
