use Rattle.std.proofs.Common.{◌≡◌, drop}
use Rattle.botjournal.specs.Bases.{numbers_rise_from}
use Rattle.botjournal.proofs.requests.numbers_rise.Given as goal

abbrev pub invariant-loop-request : goal.invariant-loop-request
invariant-loop-request l = numbers_rise_from 0 l.requests ≡ numbers_rise_from l.least (drop l.request-index l.requests)
