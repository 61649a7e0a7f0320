use Rattle.std.specs.Io.KnownBytes.{Keeps}
use Rattle.streams.proofs.answers.ask.Given as goal

-- the interruptions so far took no byte
abbrev pub invariant-loop-turn : goal.invariant-loop-turn
invariant-loop-turn g l = Keeps (g.R.Read.remaining l.fn.reader) (g.R.Read.remaining l.reader)
