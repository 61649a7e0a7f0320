use Rattle.handshake.proofs.MeetingLemmas.{asks, greets, joins, learns}
use Rattle.handshake.proofs.laws.laws_of_the_handshake.Goals as goal

pub returns-clause-greets : goal.returns-clause-greets
returns-clause-greets c = greets

pub returns-clause-asks : goal.returns-clause-asks
returns-clause-asks c = asks

pub returns-clause-joins : goal.returns-clause-joins
returns-clause-joins c hub leaf own may more meet = joins hub leaf meet own may more

pub returns-clause-learns : goal.returns-clause-learns
returns-clause-learns c hub leaf refusal more meet = learns hub leaf meet refusal more
