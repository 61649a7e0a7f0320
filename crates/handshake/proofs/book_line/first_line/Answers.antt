use Rattle.std.proofs.Common.{sym}
use Rattle.handshake.proofs.BookLemmas.{first_read, no_end, no_line}
use Rattle.handshake.proofs.book_line.first_line.Goals as goal

pub returns-in_default : goal.returns-in_default
returns-in_default c = no_end c.args.bytes.now (sym c.in_default.ensures.place)

pub returns-in-Some-line_in : goal.returns-in-Some-line_in
returns-in-Some-line_in c =
    first_read c.args.bytes.now _ _ c.in-Some.end (sym c.in-Some.ensures.place) c.split_at.ensures.front c.after_one.result.now
    c.in-Some-line_in.line c.split_at.ensures.back c.after_one.ensures (sym c.in-Some-line_in.ensures)

pub returns-in-None : goal.returns-in-None
returns-in-None c =
    no_line c.args.bytes.now _ c.in-Some.end (sym c.in-Some.ensures.place) c.split_at.ensures.front (sym c.in-None.ensures)
