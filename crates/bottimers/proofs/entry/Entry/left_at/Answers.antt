use Rattle.bottimers.proofs.Jumps.{units_left_jump}
use Rattle.bottimers.proofs.entry.Entry.left_at.Goals as goal

pub returns : goal.returns
returns c =
    let e = c.args.self.now in
    let jump = units_left_jump e.timer c.args.from c.args.to c.requires.0.made c.requires.1 c.requires.0.counts in
    rw (c.left_after.ensures, c.unit.ensures, c.unit-2.ensures, c.requires.0.left) jump
