use Rattle.std.proofs.Common.{take}
use Rattle.botworld.specs.Standing.{Past, Stands}
use Rattle.replay.specs.Deeds.{deeds_of}
use Rattle.replay.specs.Doing.{Does}
use Rattle.replay.proofs.transcripts.put_commands.Given as goal

-- the commands so far are done
abbrev pub invariant-loop-command : goal.invariant-loop-command
invariant-loop-command g l = (past : Past) → Stands g.P.Promise.promised l.fn.world past
    → Does g.P.Promise.promised past (deeds_of (take l.command-index l.commands)) l.world l.fn.text.items l.text.items
