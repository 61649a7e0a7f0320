use Rattle.std.proofs.Common.{◌∙◌, ap, sym}
use Rattle.std.specs.Option.{option_copied}
use Rattle.userfile.specs.Persons.{flags_on}
use Rattle.userfile.proofs.rights.flags_on.Goals as goal

pub returns-in-None : goal.returns-in-None
returns-in-None c = c.none.ensures c.args.channel.now ∙ ap (λ o. flags_on c.args.channel.now (option_copied o)) (sym c.in-None.is)
