use Rattle.serverlink.specs.LoginLogs.{so_far}
use Rattle.serverlink.proofs.session.Session.derive.Goals as goal

pub returns-in_default-clause-logged : goal.returns-in_default-clause-logged
returns-in_default-clause-logged c = so_far

pub returns-then-not-is_deriving-clause-logged : goal.returns-then-not-is_deriving-clause-logged
returns-then-not-is_deriving-clause-logged c = so_far

pub returns-in_err-lines-clause-logged : goal.returns-in_err-lines-clause-logged
returns-in_err-lines-clause-logged c = so_far
