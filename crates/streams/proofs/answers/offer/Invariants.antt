use Rattle.std.specs.Io.KnownBytes.{Keeps}
use Rattle.streams.proofs.answers.offer.Given as goal

-- the interruptions so far wrote no byte
abbrev pub invariant-loop-turn : goal.invariant-loop-turn
invariant-loop-turn g l = Keeps (g.W.Write.contents l.fn.writer) (g.W.Write.contents l.writer)
