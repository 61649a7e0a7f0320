use Rattle.std.proofs.Common.{◌<◌, vec_len, IfSome}
use Rattle.administrators.proofs.admins.Admins.silent.Given as goal

-- who was found has a place
abbrev pub invariant-loop-place : goal.invariant-loop-place
invariant-loop-place l = IfSome l.found (λ place. place < vec_len l.self.seats)
