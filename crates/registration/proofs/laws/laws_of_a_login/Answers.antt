use Rattle.registration.proofs.PasswordLaws.{password_apart}
use Rattle.registration.proofs.TalkLaws.{taken_is_shown}
use Rattle.registration.proofs.laws.laws_of_a_login.Goals as goal

pub returns-clause-shown : goal.returns-clause-shown
returns-clause-shown c = taken_is_shown

pub returns-clause-password : goal.returns-clause-password
returns-clause-password c = password_apart
