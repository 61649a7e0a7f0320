use Rattle.std.proofs.Common.{◌+◌, ◌-◌, length, drop}
use Rattle.page.proofs.MarkLemmas.{drop_printed, take_printed}
use Rattle.page.proofs.forms.cut.Goals as goal

pub returns-in-Some-clause-words : goal.returns-in-Some-clause-words
returns-in-Some-clause-words c = take_printed c.in-Some.place c.args.form.now c.requires.printed

pub returns-in-Some-clause-rest : goal.returns-in-Some-clause-rest
returns-in-Some-clause-rest c =
    let from = c.in-Some.place + 1 in
    take_printed (length c.args.form.now - from) (drop from c.args.form.now) (drop_printed from c.args.form.now c.requires.printed)
