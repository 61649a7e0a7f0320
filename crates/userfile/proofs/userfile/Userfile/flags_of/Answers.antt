use Rattle.std.proofs.Common.{◌∙◌, ap}
use Rattle.userfile.specs.Persons.{flags_on}
use Rattle.userfile.proofs.userfile.Userfile.flags_of.Goals as goal

pub returns-in-None : goal.returns-in-None
returns-in-None c = c.none.ensures c.args.channel.now ∙ ap (flags_on c.args.channel.now) c.in-None.ensures
