use Rattle.protocol.proofs.Rights.{rights}
use Rattle.protocol.proofs.rights_laws.laws_of_rights.Goals as goal

pub returns-clause-allowed : goal.returns-clause-allowed
returns-clause-allowed c = λ h sound. (rights h sound).allowed

pub returns-clause-ranks : goal.returns-clause-ranks
returns-clause-ranks c = λ h sound. (rights h sound).ranks

pub returns-clause-nobody_climbs : goal.returns-clause-nobody_climbs
returns-clause-nobody_climbs c = λ h sound. (rights h sound).nobody_climbs

pub returns-clause-nobody_becomes_owner : goal.returns-clause-nobody_becomes_owner
returns-clause-nobody_becomes_owner c = λ h sound. (rights h sound).nobody_becomes_owner
