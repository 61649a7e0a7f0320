use Rattle.std.proofs.Common.{◌++◌, ◌∙◌, ap, arith}
use Rattle.replay.specs.Text.{found_line}
use Rattle.replay.proofs.Lines.{sent_lines-more}
use Rattle.replay.proofs.outcomes.put_packets.Goals as goal

pub loop-number-preserved : goal.loop-number-preserved
loop-number-preserved g c =
    sent_lines-more c.args.world.now.packets c.loop-number.number c.in-Some.after c.loop-number.out.items _ _ (omega arith)
    (c.in_ok-put_found.ensures ∙ ap (λ found. c.loop-number.out.items ++ found_line c.loop-number.number found) c.packet.ensures.lent) c.loop-number.invariant
