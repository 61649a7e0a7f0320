use Rattle.administrators.proofs.ToldLemmas.{whole_line}
use Rattle.administrators.proofs.told_changes.line_of.Goals as goal

pub returns : goal.returns
returns c =
    whole_line c.args.number c.origin.result c.args.accepted.now c.change.result.now c.change-2.result.now c.args.person.now
    c.args.words.now c.in_ok-line.line.items c.put_name.new.line.items c.put_edit.new.line.items c.origin.ensures
    c.change.ensures c.change-2.ensures c.in_ok-line.ensures c.in_ok-put_name.ensures c.in_ok-put_edit.ensures
