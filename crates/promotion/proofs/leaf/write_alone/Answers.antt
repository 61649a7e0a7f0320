use Rattle.std.proofs.Common.{rules}
use Rattle.promotion.proofs.Leaves.{mean_alike}
use Rattle.promotion.proofs.leaf.write_alone.Goals as goal

pub returns-clause-alike : goal.returns-clause-alike
returns-clause-alike c =
    let first = c.args.copies.first.content in
    let second = c.args.copies.second.content in
    let one = c.reopen.new.self.content in
    let other = c.reopen-2.new.self.content in
    let row = c.in_default.ensures.row in
    mean_alike c.args.number first second one other c.in-Ok.link c.compact.new.self c.requires.leaf c.requires.current
    c.in-Ok.ensures.row.0 (search rules) (search rules) row.row.after row.number row.leaves
    (c.into_disks-disks.ensures.left one other c.reopen.ensures.left c.reopen-2.ensures.left).mean
