use Rattle.protocol.proofs.NetGoes.{did_goes, received_goes}
use Rattle.protocol.proofs.Moments.{shows, keeps, begins}
use Rattle.protocol.proofs.net_laws.laws_of_ends.Goals as goal

pub returns-clause-begins : goal.returns-clause-begins
returns-clause-begins c = begins

pub returns-clause-shows : goal.returns-clause-shows
returns-clause-shows c = shows

pub returns-clause-did : goal.returns-clause-did
returns-clause-did c = did_goes

pub returns-clause-received : goal.returns-clause-received
returns-clause-received c = received_goes

pub returns-clause-keeps : goal.returns-clause-keeps
returns-clause-keeps c = keeps
