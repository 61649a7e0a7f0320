use Rattle.std.proofs.lemmas.List.{take_min}
use Rattle.miniircd.proofs.lines.repeated.Goals as goal

pub returns : goal.returns
returns c = rw (c.in_ok-words.ensures.items, c.min-len.ensures, take_min 100 c.args.word.now) at c.in_ok-extend_from_slice.ensures.items
