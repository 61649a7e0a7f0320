use Rattle.handshake.proofs.BookLemmas.{barred_stays, last_counts}
use Rattle.handshake.proofs.book_laws.laws_of_the_book.Goals as goal

pub returns-clause-last : goal.returns-clause-last
returns-clause-last c = last_counts

pub returns-clause-barred : goal.returns-clause-barred
returns-clause-barred c = barred_stays
