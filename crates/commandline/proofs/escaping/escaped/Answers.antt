use Rattle.std.proofs.Common.{take}
use Rattle.commandline.proofs.EscapeLemmas.{shown_harmless}
use Rattle.commandline.proofs.escaping.escaped.Goals as goal

pub returns-clause-harmless : goal.returns-clause-harmless
returns-clause-harmless c = shown_harmless (take c.loop-byte.byte-index c.as_slice-byte-items.result.now) c.loop-byte.shown.items c.loop-byte.invariant
