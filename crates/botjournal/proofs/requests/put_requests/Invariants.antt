use Rattle.std.proofs.Common.{◌≡◌, ◌∷◌, ◌++◌, length, take}
use Rattle.std.specs.List.{flat_map}
use Rattle.botjournal.specs.Bases.{request_bytes}
use Rattle.botjournal.proofs.requests.put_requests.Given as goal

abbrev pub invariant-loop-request : goal.invariant-loop-request
invariant-loop-request l = l.out.items ≡ l.fn.out.items ++ (length l.requests ∷ flat_map request_bytes (take l.request-index l.requests))
