use Rattle.std.proofs.Common.{arith}
use Rattle.replay.proofs.Doings.{Does-none, Does-command, Does-commands}
use Rattle.replay.proofs.transcripts.put_commands.Goals as goal

pub loop-command-init : goal.loop-command-init
loop-command-init g c = λ past stands. Does-none g.P.Promise.promised past _ _ stands

pub loop-command-preserved : goal.loop-command-preserved
loop-command-preserved g c = λ past stands.
    Does-command g.P.Promise.promised past c.args.commands.now c.loop-command.command-index c.command-item.result _ _ _ _ _ (omega arith)
    c.command-item.is (c.loop-command.invariant past stands) c.in_ok-put_command.ensures

pub returns : goal.returns
returns g c = λ past stands.
    Does-commands g.P.Promise.promised past c.args.commands.now c.loop-command.command-index _ _ _ (omega arith)
    (c.loop-command.invariant past stands)
