use Rattle.std.proofs.Common.{length}
use Rattle.handshake.proofs.BookLemmas.{ReadSoFar}
use Rattle.handshake.proofs.book.Book.read.Given as goal

abbrev pub invariant-loop-rest : goal.invariant-loop-rest
invariant-loop-rest l = ReadSoFar l.bytes l.leaves l.lines l.book l.rest

abbrev pub decreases-loop-rest : goal.decreases-loop-rest
decreases-loop-rest l = length l.rest
