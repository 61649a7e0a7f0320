use Rattle.std.proofs.Common.{◌≡◌, drop}
use Rattle.botjournal.specs.Sums.{through}
use Rattle.botjournal.proofs.sums.Seal.through.Given as goal

-- the texts that are left lead from the seal so far to the last
abbrev pub invariant-loop-text : goal.invariant-loop-text
invariant-loop-text l = through l.fn.self l.texts ≡ through l.seal (drop l.text-index l.texts)
