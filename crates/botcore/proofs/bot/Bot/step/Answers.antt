use Rattle.botcore.proofs.GoodLemmas.{clock_good}
use Rattle.botcore.proofs.bot.Bot.step.Goals as goal

pub returns-in-Clock-clause-good_records : goal.returns-in-Clock-clause-good_records
returns-in-Clock-clause-good_records g c =
    clock_good g.P.Promise.promised c.args.store.now c.args.self.now c.in-Clock.now c.read_clock.result c.read_clock.new.self
    c.read_clock.ensures.takes
