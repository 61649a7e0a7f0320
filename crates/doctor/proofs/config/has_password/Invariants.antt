use Rattle.std.proofs.Common.{◌≡◌, drop}
use Rattle.std.specs.List.{list_any}
use Rattle.doctor.specs.Configs.{has_password}
use Rattle.doctor.proofs.config.has_password.Given as goal

-- the servers that are left decide
abbrev pub invariant-loop-server : goal.invariant-loop-server
invariant-loop-server l = list_any has_password l.fn.servers ≡ list_any has_password (drop l.server-index l.servers)
