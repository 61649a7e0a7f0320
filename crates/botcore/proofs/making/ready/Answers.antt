use Rattle.std.proofs.Common.{sym, subst}
use Rattle.bytetext.specs.declared.failure.Failure.TheVariants.{Refused}
use Rattle.botcore.specs.declared.fault.BotFault.{BotFault}
use Rattle.botcore.specs.Making.{IsWhyNot}
use Rattle.botcore.proofs.making.ready.Goals as goal

pub returns-in-Some-clause-why : goal.returns-in-Some-clause-why
returns-in-Some-clause-why c =
    subst (λ (fault : BotFault). IsWhyNot c.args.config.now (Refused fault)) (sym c.in-Some.ensures.fault) c.in-Some.ensures.bad
