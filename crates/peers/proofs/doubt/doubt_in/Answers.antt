use Rattle.handshake.specs.declared.book_line.BookLine.TheVariants.{Enters}
use Rattle.peers.proofs.doubt.doubt_in.Goals as goal

pub returns-in-None : goal.returns-in-None
returns-in-None c leaf made after good begins = c.in-None.ensures (Enters leaf made) after good begins
